-- Lists to which elements are pushed, and from which they are popped.
use Rattle.std.proofs.Common.{◌≡◌, ◌∙◌, ℕ, take, drop, length, refl, List, [], ◌∷◌, ◌++◌, cond, Option, Some, Result, Ok, sym, ap, subst}
use Rattle.std.specs.List.{All}
use Rattle.std.specs.Option.{option_to_list, IfSome}
use Rattle.std.specs.Result.{is_ok}
use Rattle.std.proofs.lemmas.List.{take_at}
use Rattle.std.proofs.lemmas.List.Elements.{All-push, All-pop}

pub all_pushed : {X T E : Type 0} (P : X → Type 0) (r : Result T E) (u : T) (old new : List X) (x : X) → r ≡ Ok u → new ≡ cond (is_ok r) (old ++ x ∷ []) old → All P old → P x → All P new
all_pushed P r u old new x ok is all one =
    subst (All P) (sym (is ∙ ap (λ t. cond (is_ok t) (old ++ x ∷ []) old) ok)) (All-push P old x all one)

pub all_popped : {X : Type 0} (P : X → Type 0) (r : Option X) (old new : List X) (x : X) → r ≡ Some x → old ≡ new ++ option_to_list r → All P old → All P new × P x
all_popped P r old new x some is all =
    let both = All-pop P old new r is all in (both.0, subst (λ o. IfSome o P) some both.1)

-- a vector whose elements were lent as a slice
pub all_lent : {X : Type 0} (P : X → Type 0) (items new : List X) (len : ℕ) → len ≡ length items → length new ≡ length items → All P new → All P (take len (new ++ drop (length new) items))
all_lent P items new len is same all =
    subst (All P) (sym (ap (λ n. take n (new ++ drop (length new) items)) (is ∙ sym same) ∙ take_at new (drop (length new) items) (length new) refl)) all
