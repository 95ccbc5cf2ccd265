-- What stands at desks, and what stands in the lists that were dealt to them.
use Rattle.std.proofs.Common.{◌≡◌, ℕ, suc, ◌<◌, List, [], ◌∷◌, map, length, get_or, refl, sym, ◌∙◌, ap, subst, arith}
use Rattle.std.specs.List.{All}
use Rattle.std.proofs.lemmas.List.{get_or-map, length-map}

-- an entry of a list that has one there
pub some_of : {X : Type 0} (list : List X) (w : ℕ) → w < length list → X
some_of [] w below = absurd (omega arith)
some_of (x ∷ list) w below = x

-- what stands at a desk is what stands in its list
pub at_desk : {X Y : Type 0} (f : X → Y) (desks : List X) (list : List Y) → map f desks ≡ list → (w : ℕ) (d : X) (e : Y) → w < length desks → f (get_or desks w d) ≡ get_or list w e
at_desk f desks list are w d e below = sym (get_or-map f desks w d e below) ∙ ap (λ l. get_or l w e) are

pub same_len : {X Y : Type 0} (f : X → Y) (desks : List X) (list : List Y) → map f desks ≡ list → length list ≡ length desks
same_len f desks list are = sym (ap (λ l. length l) are) ∙ length-map desks f

-- what holds of each desk holds of each entry of its list
pub listed : {X Y : Type 0} (f : X → Y) (P : Y → Type 0) (desks : List X) (list : List Y) → map f desks ≡ list → ((w : ℕ) (d : X) → w < length desks → P (f (get_or desks w d))) → All P list
listed f P desks list are each w e below =
    let within : w < length desks = omega (arith, same_len f desks list are) in
    let d = some_of desks w within in
    subst P (at_desk f desks list are w d e within) (each w d within)

-- lists whose entries f cannot tell apart, each from the one in its place
pub same_by : {X Y : Type 0} (f : X → Y) (olds news : List X) → length news ≡ length olds → ((w : ℕ) (x : X) → w < length olds → f (get_or news w x) ≡ f (get_or olds w x)) → map f news ≡ map f olds
same_by f [] [] many same = refl
same_by f [] (new ∷ news) many same = absurd (omega (arith, many))
same_by f (old ∷ olds) [] many same = absurd (omega (arith, many))
same_by {X} f (old ∷ olds) (new ∷ news) many same =
    let rest : map f news ≡ map f olds = same_by f olds news (omega (arith, many)) (λ w x below. same (suc w) x (omega (arith, below))) in
    let here : f new ≡ f old = same 0 old (omega arith) in
    λ i. here i ∷ rest i
