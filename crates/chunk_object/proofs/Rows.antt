-- Rows of calls of one kind by the first caller, by a row of numbers.
use Rattle.std.proofs.Common.{ℕ, zero, suc, ◌+◌, List, map, sym, subst}
use Rattle.std.specs.List.{AllByRecursion, flat_map, range_with_len}
use Rattle.std.proofs.lemmas.List.{map-append}
use Rattle.chunk_object.specs.declared.call.Call.{Call}
use Rattle.chunk_object.specs.declared.call.Entry.{Entry}
use Rattle.chunk_object.specs.Epochs.{entry_of, first_entries}
use Rattle.chunk_object.proofs.Covered.{all_both}

module _ (P : Entry → Type 0) where
  -- what is so of each call is so of a row of them
  pub row_all : (f : ℕ → Call) → ((n : ℕ) → P (entry_of 0 8 (f n))) → (a n : ℕ) → AllByRecursion P (first_entries (map f (range_with_len a n)))
  row_all f each a zero = tt
  row_all f each a (suc n) = (each a, row_all f each (a + 1) n)

  -- and of a row of rows
  pub rows_all : (f : ℕ → ℕ → Call) → ((e p : ℕ) → P (entry_of 0 8 (f e p))) → (k a n : ℕ) → AllByRecursion P (first_entries (flat_map (λ engine. map (f engine) (range_with_len 0 k)) (range_with_len a n)))
  rows_all f each k a zero = tt
  rows_all f each k a (suc n) =
      let row : List Call = map (f a) (range_with_len 0 k) in
      let rest : List Call = flat_map (λ engine. map (f engine) (range_with_len 0 k)) (range_with_len (a + 1) n) in
      subst (AllByRecursion P) (sym (map-append (entry_of 0 8) row rest))
      (all_both P (first_entries row) (first_entries rest) (row_all (f a) (each a) 0 k) (rows_all f each k (a + 1) n))
