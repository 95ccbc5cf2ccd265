-- Merges over the sums of workers.
use Rattle.std.proofs.Common.{◌≡◌, ℕ, zero, suc, ◌+◌, ◌==◌, nat_lt, if◌then◌else◌, Bool, true, false, List, [], ◌∷◌, map, get_or, zero-add, add-one, refl, sym, ◌∙◌, ap, subst, arith}
use Rattle.std.specs.List.{All, fold, range_with_len}
use Rattle.std.proofs.lemmas.List.FromFn.{map-range_with_len_more}
use Rattle.std.proofs.lemmas.List.Sums.{fold-append}
use Rattle.std.proofs.lemmas.List.Elements.{All-map, All-head, All-tail}
use Rattle.gather_laws.specs.Laws.{MergeLaws}
use Rattle.gather_laws.proofs.MergeLemmas.{merged_is_sum, merged-cons}

none_below : (x : ℕ) → nat_lt x 0 ≡ false
none_below x = grind arith

-- one number more
pub merged_more : (unit : ℕ) (merge : ℕ → ℕ → ℕ) (f : ℕ → ℕ) (n : ℕ) → fold merge unit (map f (range_with_len 0 (n + 1))) ≡ merge (fold merge unit (map f (range_with_len 0 n))) (f n)
merged_more unit merge f n =
    ap (fold merge unit) (map-range_with_len_more f 0 n n (zero-add n)) ∙ fold-append merge unit (map f (range_with_len 0 n)) (f n ∷ [])

module _ (unit : ℕ) (merge : ℕ → ℕ → ℕ) (IsSum : ℕ → Type 0) (laws : MergeLaws unit merge IsSum) where
  -- the merge of the sums of so many workers is a sum
  pub merged_sums : (f : ℕ → ℕ) → ((w : ℕ) → IsSum (f w)) → (n : ℕ) → IsSum (fold merge unit (map f (range_with_len 0 n)))
  merged_sums f sums n = merged_is_sum unit merge IsSum laws (map f (range_with_len 0 n)) (All-map IsSum f (range_with_len 0 n) (λ k d below. sums (get_or (range_with_len 0 n) k d)))

  -- a sum that is raised by a number raises the merge of all by it
  pub merged_raised : (f g : ℕ → ℕ) (x u : ℕ) → ((w : ℕ) → IsSum (f w)) → IsSum u → ((w : ℕ) → g w ≡ (if w == x then merge (f w) u else f w)) → (n : ℕ) →
      fold merge unit (map g (range_with_len 0 n)) ≡ (if nat_lt x n then merge (fold merge unit (map f (range_with_len 0 n))) u else fold merge unit (map f (range_with_len 0 n)))
  merged_raised f g x u sums is each zero = sym (ap (λ b. if b then merge unit u else unit) (none_below x))
  merged_raised f g x u sums is each (suc n) =
      subst (λ k. fold merge unit (map g (range_with_len 0 k)) ≡ (if nat_lt x k then merge (fold merge unit (map f (range_with_len 0 k))) u else fold merge unit (map f (range_with_len 0 k)))) (add-one n)
      (merged_more unit merge g n
      ∙ ap (λ s. merge s (g n)) (merged_raised f g x u sums is each n)
      ∙ ap (merge _) (each n)
      ∙ by_tests (nat_lt x n) (n == x) (nat_lt x (n + 1)) refl refl refl
      ∙ ap (λ s. if nat_lt x (n + 1) then merge s u else s) (sym (merged_more unit merge f n)))
    where
      before : ℕ
      before = fold merge unit (map f (range_with_len 0 n))

      is_before : IsSum before
      is_before = merged_sums f sums n

      by_tests : (less here below : Bool) → nat_lt x n ≡ less → n == x ≡ here → nat_lt x (n + 1) ≡ below →
          merge (if less then merge before u else before) (if here then merge (f n) u else f n) ≡ (if below then merge (merge before (f n)) u else merge before (f n))
      by_tests true true below is_less is_here is_below = absurd (grind arith)
      by_tests true false true is_less is_here is_below =
          laws.associates before u (f n) is_before is (sums n) ∙ ap (merge before) (laws.commutes u (f n) is (sums n)) ∙ sym (laws.associates before (f n) u is_before (sums n) is)
      by_tests true false false is_less is_here is_below = absurd (grind arith)
      by_tests false true true is_less is_here is_below = sym (laws.associates before (f n) u is_before (sums n) is)
      by_tests false true false is_less is_here is_below = absurd (grind arith)
      by_tests false false true is_less is_here is_below = absurd (grind arith)
      by_tests false false false is_less is_here is_below = refl

  -- the merge of units is the unit
  pub merged_units : (n : ℕ) → fold merge unit (map (λ w. unit) (range_with_len 0 n)) ≡ unit
  merged_units zero = refl
  merged_units (suc n) =
      subst (λ k. fold merge unit (map (λ w. unit) (range_with_len 0 k)) ≡ unit) (add-one n)
      (merged_more unit merge (λ w. unit) n ∙ ap (λ s. merge s unit) (merged_units n) ∙ laws.neutral unit laws.unit_is_sum)

  -- a fold over sums that begins with a sum is a merge
  pub folded_merge : (add : ℕ → ℕ → ℕ) → ((s u : ℕ) → IsSum s → IsSum u → add s u ≡ merge s u) → (s : ℕ) (xs : List ℕ) → IsSum s → All IsSum xs → fold add s xs ≡ merge s (fold merge unit xs)
  folded_merge add same s [] is all = sym (laws.commutes s unit is laws.unit_is_sum ∙ laws.neutral s is)
  folded_merge add same s (x ∷ xs) is all =
      let is_x : IsSum x = All-head IsSum x xs all in
      let rest : All IsSum xs = All-tail IsSum x xs all in
      ap (λ t. fold add t xs) (same s x is is_x)
      ∙ folded_merge add same (merge s x) xs (laws.merge_is_sum s x is is_x) rest
      ∙ laws.associates s x (fold merge unit xs) is is_x (merged_is_sum unit merge IsSum laws xs rest)
      ∙ ap (merge s) (sym (merged-cons unit merge IsSum laws x xs all))
