-- What is moved from lists to desks, one after another, and back.
use Rattle.std.proofs.Common.{◌≡◌, ℕ, ◌+◌, Vec, List, [], ◌∷◌, ◌++◌, length, map, refl, arith, ap, sym, ◌∙◌, subst, append_assoc}
use Rattle.std.specs.List.{All, range_with_len, sum_by}
use Rattle.std.specs.Vec.{with_items}
use Rattle.std.proofs.lemmas.List.{map-append, with_items_is}
use Rattle.std.proofs.lemmas.List.Elements.{All-push}
use Rattle.std.proofs.lemmas.List.Sums.{sum_by-cons}
use Rattle.graph_model.proofs.ListLemmas.{range_with_len-more}

module _ {X Y : Type 0} (f : X → Y) where
  -- an item more is at a desk
  pub dealt_more : (desks news : List X) (desk : X) (rest others all : List Y) → map f desks ++ rest ≡ all → rest ≡ f desk ∷ others → news ≡ desks ++ desk ∷ [] → map f news ++ others ≡ all
  dealt_more desks news desk rest others all so_far taken put =
      ap (λ l. map f l ++ others) put
      ∙ (ap (λ l. l ++ others) (map-append f desks (desk ∷ [])) ∙ (append_assoc (map f desks) (f desk ∷ []) others ∙ (sym (ap (λ l. map f desks ++ l) taken) ∙ so_far)))

  -- and one more is back
  pub back_more : (desks others : List X) (desk : X) (back news all : List Y) → back ++ map f desks ≡ all → desks ≡ desk ∷ others → news ≡ back ++ f desk ∷ [] → news ++ map f others ≡ all
  back_more desks others desk back news all so_far taken put =
      ap (λ l. l ++ map f others) put ∙ (append_assoc back (f desk ∷ []) (map f others) ∙ (sym (ap (λ l. back ++ map f l) taken) ∙ so_far))

pub numbers_more : {X : Type 0} (f : X → ℕ) (desks news : List X) (desk : X) (n : ℕ) → map f desks ≡ range_with_len 0 n → f desk ≡ n → news ≡ desks ++ desk ∷ [] → map f news ≡ range_with_len 0 (n + 1)
numbers_more f desks news desk n so_far is put =
    ap (map f) put ∙ (map-append f desks (desk ∷ []) ∙ (ap (λ l. l ++ f desk ∷ []) so_far ∙ (ap (λ k. range_with_len 0 n ++ k ∷ []) is ∙ sym (range_with_len-more n))))

pub all_more : {X : Type 0} (P : X → Type 0) (desks news : List X) (desk : X) → All P desks → news ≡ desks ++ desk ∷ [] → P desk → All P news
all_more P desks news desk so_far put here = subst (All P) (sym put) (All-push P desks desk so_far here)

pub sum_first : {X : Type 0} (f : X → ℕ) (desks others : List X) (desk : X) → desks ≡ desk ∷ others → sum_by f desks ≡ f desk + sum_by f others
sum_first f desks others desk taken = ap (sum_by f) taken ∙ sum_by-cons f desk others

pub sum_none : {X : Type 0} (f : X → ℕ) (desks : List X) → length desks ≡ 0 → sum_by f desks ≡ 0
sum_none f [] none = refl
sum_none f (desk ∷ desks) none = absurd (omega arith)

-- a list that was lent as a slice has what the borrower left
pub given_back : {X Z : Type 0} (list : Vec X Z) (lent items : List X) → lent ≡ list.items → length items ≡ length lent → (with_items list items).items ≡ items
given_back list lent items is same = with_items_is list items (same ∙ ap length is ∙ sym list.ok.0)
