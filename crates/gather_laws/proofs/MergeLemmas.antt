-- The merge over a list of sums: the order of the list and its cut into pieces do not matter.
use Rattle.std.proofs.Common.{◌≡◌, ℕ, ◌<◌, zero, suc, List, [], ◌∷◌, ◌++◌, length, get_or, set, map, refl, sym, ◌∙◌, ap, arith, fold, flat_map}
use Rattle.std.specs.List.{All, swap}
use Rattle.std.specs.List.Sorted.{IsPermutation}
use Rattle.std.proofs.lemmas.List.Elements.{All-head, All-tail, All-append, All-cons, All-nil, All-set, All-map, All-weaker}
use Rattle.std.proofs.lemmas.List.Edits.{swap_is}
use Rattle.std.proofs.lemmas.List.Sums.{fold-append}
use Rattle.std.proofs.lemmas.List.Sorted.{IsPermutation-keeps, IsPermutation-swap, All-permutation}
use Rattle.gather_laws.specs.Laws.{MergeLaws}

-- a fact of each element of pieces, one piece behind the other
pub All-joined : {X : Type 0} (P : X → Type 0) (pieces : List (List X)) → All (All P) pieces → All P (flat_map (λ piece. piece) pieces)
All-joined P [] all = All-nil P
All-joined P (piece ∷ pieces) all =
    All-append P piece (flat_map (λ p. p) pieces) (All-head (All P) piece pieces all)
    (All-joined P pieces (All-tail (All P) piece pieces all))

module _ (unit : ℕ) (merge : ℕ → ℕ → ℕ) (IsSum : ℕ → Type 0) (laws : MergeLaws unit merge IsSum) where
  -- sums are kept by a merge over a list
  fold_is_sum : (s : ℕ) (xs : List ℕ) → IsSum s → All IsSum xs → IsSum (fold merge s xs)
  fold_is_sum s [] is all = is
  fold_is_sum s (x ∷ xs) is all =
      fold_is_sum (merge s x) xs (laws.merge_is_sum s x is (All-head IsSum x xs all)) (All-tail IsSum x xs all)

  pub merged_is_sum : (xs : List ℕ) → All IsSum xs → IsSum (fold merge unit xs)
  merged_is_sum xs all = fold_is_sum unit xs laws.unit_is_sum all

  -- a merge that begins with a sum
  from_sum : (s : ℕ) (xs : List ℕ) → IsSum s → All IsSum xs → fold merge s xs ≡ merge s (fold merge unit xs)
  from_sum s [] is all = sym (laws.neutral s is) ∙ laws.commutes unit s laws.unit_is_sum is
  from_sum s (x ∷ xs) is all =
      let is_x : IsSum x = All-head IsSum x xs all in
      let rest : All IsSum xs = All-tail IsSum x xs all in
      let here : fold merge (merge s x) xs ≡ merge (merge s x) (fold merge unit xs)
      = from_sum (merge s x) xs (laws.merge_is_sum s x is is_x) rest in
      let below : fold merge x xs ≡ merge x (fold merge unit xs) = from_sum x xs is_x rest in
      let first : merge unit x ≡ x = laws.neutral x is_x in
      let grouped : merge (merge s x) (fold merge unit xs) ≡ merge s (merge x (fold merge unit xs))
      = laws.associates s x (fold merge unit xs) is is_x (merged_is_sum xs rest) in
      rw (here, grouped, first, below) refl

  -- one sum more in front
  pub merged-cons : (x : ℕ) (xs : List ℕ) → All IsSum (x ∷ xs) → fold merge unit (x ∷ xs) ≡ merge x (fold merge unit xs)
  merged-cons x xs all =
      let is_x : IsSum x = All-head IsSum x xs all in
      rw (laws.neutral x is_x) (from_sum x xs is_x (All-tail IsSum x xs all))

  pub merged-append : (xs ys : List ℕ) → All IsSum xs → All IsSum ys →
      fold merge unit (xs ++ ys) ≡ merge (fold merge unit xs) (fold merge unit ys)
  merged-append xs ys all_xs all_ys =
      fold-append merge unit xs ys ∙ from_sum (fold merge unit xs) ys (merged_is_sum xs all_xs) all_ys

  pub left_commutes : (a b s : ℕ) → IsSum a → IsSum b → IsSum s → merge a (merge b s) ≡ merge b (merge a s)
  left_commutes a b s is_a is_b is_s =
      sym (laws.associates a b s is_a is_b is_s)
      ∙ ap (λ m. merge m s) (laws.commutes a b is_a is_b)
      ∙ laws.associates b a s is_b is_a is_s

  -- what stands in front is exchanged with what stands at place j
  front_exchange : (x : ℕ) (ys : List ℕ) (j d : ℕ) → IsSum x → All IsSum ys → j < length ys →
      fold merge unit (get_or ys j d ∷ set ys j x) ≡ fold merge unit (x ∷ ys)
  front_exchange x [] j d is_x all below = absurd (omega arith)
  front_exchange x (y ∷ ys) zero d is_x all below =
      let is_y : IsSum y = All-head IsSum y ys all in
      let rest : All IsSum ys = All-tail IsSum y ys all in
      let left : fold merge unit (y ∷ x ∷ ys) ≡ merge y (fold merge unit (x ∷ ys))
      = merged-cons y (x ∷ ys) (All-cons IsSum y (x ∷ ys) is_y (All-cons IsSum x ys is_x rest)) in
      let below_left : fold merge unit (x ∷ ys) ≡ merge x (fold merge unit ys) = merged-cons x ys (All-cons IsSum x ys is_x rest) in
      let right : fold merge unit (x ∷ y ∷ ys) ≡ merge x (fold merge unit (y ∷ ys))
      = merged-cons x (y ∷ ys) (All-cons IsSum x (y ∷ ys) is_x all) in
      let below_right : fold merge unit (y ∷ ys) ≡ merge y (fold merge unit ys) = merged-cons y ys all in
      left ∙ ap (merge y) below_left ∙ left_commutes y x (fold merge unit ys) is_y is_x (merged_is_sum ys rest)
      ∙ sym (right ∙ ap (merge x) below_right)
  front_exchange x (z ∷ ys) (suc j) d is_x all below =
      let y : ℕ = get_or ys j d in
      let within : j < length ys = omega arith in
      let is_z : IsSum z = All-head IsSum z ys all in
      let rest : All IsSum ys = All-tail IsSum z ys all in
      let is_y : IsSum y = rest j d within in
      let written : All IsSum (set ys j x) = All-set IsSum ys j x is_x rest in
      let deeper : fold merge unit (y ∷ set ys j x) ≡ fold merge unit (x ∷ ys) = front_exchange x ys j d is_x rest within in
      let z_written : All IsSum (z ∷ set ys j x) = All-cons IsSum z (set ys j x) is_z written in
      merged-cons y (z ∷ set ys j x) (All-cons IsSum y (z ∷ set ys j x) is_y z_written)
      ∙ ap (merge y) (merged-cons z (set ys j x) z_written)
      ∙ left_commutes y z (fold merge unit (set ys j x)) is_y is_z (merged_is_sum (set ys j x) written)
      ∙ ap (merge z) (sym (merged-cons y (set ys j x) (All-cons IsSum y (set ys j x) is_y written)) ∙ deeper
      ∙ merged-cons x ys (All-cons IsSum x ys is_x rest))
      ∙ left_commutes z x (fold merge unit ys) is_z is_x (merged_is_sum ys rest)
      ∙ ap (merge x) (sym (merged-cons z ys all))
      ∙ sym (merged-cons x (z ∷ ys) (All-cons IsSum x (z ∷ ys) is_x all))

  merged-exchange : (xs : List ℕ) (i j d : ℕ) → All IsSum xs → i < length xs → j < length xs →
      fold merge unit (set (set xs i (get_or xs j d)) j (get_or xs i d)) ≡ fold merge unit xs
  merged-exchange [] i j d all i_below j_below = absurd (omega arith)
  merged-exchange (x ∷ xs) zero zero d all i_below j_below = refl
  merged-exchange (x ∷ xs) zero (suc j) d all i_below j_below =
      front_exchange x xs j d (All-head IsSum x xs all) (All-tail IsSum x xs all) (omega arith)
  merged-exchange (x ∷ xs) (suc i) zero d all i_below j_below =
      front_exchange x xs i d (All-head IsSum x xs all) (All-tail IsSum x xs all) (omega arith)
  merged-exchange (x ∷ xs) (suc i) (suc j) d all i_below j_below =
      let is_x : IsSum x = All-head IsSum x xs all in
      let rest : All IsSum xs = All-tail IsSum x xs all in
      let i_within : i < length xs = omega arith in
      let j_within : j < length xs = omega arith in
      let exchanged : List ℕ = set (set xs i (get_or xs j d)) j (get_or xs i d) in
      let all_exchanged : All IsSum exchanged
      = All-set IsSum (set xs i (get_or xs j d)) j (get_or xs i d) (rest i d i_within)
      (All-set IsSum xs i (get_or xs j d) (rest j d j_within) rest) in
      merged-cons x exchanged (All-cons IsSum x exchanged is_x all_exchanged)
      ∙ ap (merge x) (merged-exchange xs i j d rest i_within j_within)
      ∙ sym (merged-cons x xs all)

  merged-swap : (xs : List ℕ) (i j : ℕ) → All IsSum xs → i < length xs → j < length xs →
      fold merge unit (swap xs i j) ≡ fold merge unit xs
  merged-swap xs i j all i_below j_below =
      ap (fold merge unit) (sym (swap_is xs i j 0 i_below j_below)) ∙ merged-exchange xs i j 0 all i_below j_below

  -- the order of a list does not matter
  pub merged-permutation : (xs ys : List ℕ) → All IsSum xs → IsPermutation xs ys → fold merge unit ys ≡ fold merge unit xs
  merged-permutation xs ys all moved =
      (IsPermutation-keeps xs (λ l. All IsSum l × (fold merge unit l ≡ fold merge unit xs)) (all, refl)
      (λ l i j i_below j_below kept. (
        All-permutation IsSum l (swap l i j) (IsPermutation-swap l (swap l i j) i j i_below j_below refl) kept.0,
        merged-swap l i j kept.0 i_below j_below ∙ kept.1,
      ))
      ys moved).1

  pub all_merged : (pieces : List (List ℕ)) → All (All IsSum) pieces → All IsSum (map (fold merge unit) pieces)
  all_merged pieces all =
      All-map IsSum (fold merge unit) pieces
      (All-weaker (All IsSum) (λ piece. IsSum (fold merge unit piece)) (λ piece. merged_is_sum piece) pieces all)

  -- the merge over pieces, one piece behind the other
  pub merged-joined : (pieces : List (List ℕ)) → All (All IsSum) pieces →
      fold merge unit (map (fold merge unit) pieces) ≡ fold merge unit (flat_map (λ piece. piece) pieces)
  merged-joined [] all = refl
  merged-joined (piece ∷ pieces) all =
      let first : All IsSum piece = All-head (All IsSum) piece pieces all in
      let rest : All (All IsSum) pieces = All-tail (All IsSum) piece pieces all in
      merged-cons (fold merge unit piece) (map (fold merge unit) pieces) (all_merged (piece ∷ pieces) all)
      ∙ ap (merge (fold merge unit piece)) (merged-joined pieces rest)
      ∙ sym (merged-append piece (flat_map (λ p. p) pieces) first (All-joined IsSum pieces rest))
