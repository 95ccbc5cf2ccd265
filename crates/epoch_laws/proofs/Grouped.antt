-- The merge over a list is that over its parts by a key, and over the chunks that are made of it.
use Rattle.std.proofs.Common.{◌≡◌, ℕ, zero, suc, ◌+◌, ◌<◌, ◌≤◌, ◌==◌, nat_lt, if◌then◌else◌, Bool, true, false, List, [], ◌∷◌, ◌++◌, length, get_or, map, filter, flat_map, refl, sym, ◌∙◌, ap, subst, arith, eq-eqb}
use Rattle.std.specs.List.{All, fold, range_with_len}
use Rattle.std.proofs.lemmas.Bool.{eqb-true, eqb-false, cond-true, lt-ltb, ne_eqb}
use Rattle.std.proofs.lemmas.List.Elements.{All-head, All-tail, All-append, All-nil, All-filter}
use Rattle.std.proofs.lemmas.Grind.{flat_map-append}
use Rattle.gather_laws.specs.Laws.{MergeLaws}
use Rattle.gather_laws.proofs.MergeLemmas.{merged-append, merged_is_sum}
use Rattle.chunk_model.specs.Chunks.{Chunk, chunks, chunks_of_partition, IsChunkOf}
use Rattle.chunk_model.proofs.Made.{chunks_hold, chunks_are}
use Rattle.phase_core.proofs.Merging.{merged_raised, merged_units}

-- two functions that agree on a row of numbers
same_row : {X : Type 0} (f g : ℕ → X) (a n : ℕ) → ((k : ℕ) → k < a + n → f k ≡ g k) → map f (range_with_len a n) ≡ map g (range_with_len a n)
same_row f g a zero same = refl
same_row f g a (suc n) same = ap (λ x. x ∷ map f (range_with_len (a + 1) n)) (same a (omega arith)) ∙ ap (λ rest. g a ∷ rest) (same_row f g (a + 1) n (λ k below. same k (omega arith)))

pub flat_map-flat_map : {X Y Z : Type 0} (h : Y → List Z) (k : X → List Y) (xs : List X) → flat_map h (flat_map k xs) ≡ flat_map (λ x. flat_map h (k x)) xs
flat_map-flat_map h k [] = refl
flat_map-flat_map h k (x ∷ xs) = flat_map-append h (k x) (flat_map k xs) ∙ ap (λ back. flat_map h (k x) ++ back) (flat_map-flat_map h k xs)

-- what holds of all that each element gives
pub flat_all : {Y Z : Type 0} (P : Z → Type 0) (h : Y → List Z) (ys : List Y) → All (λ y. All P (h y)) ys → All P (flat_map h ys)
flat_all P h [] all = All-nil P
flat_all P h (y ∷ ys) all = All-append P (h y) (flat_map h ys) (All-head (λ y. All P (h y)) y ys all) (flat_all P h ys (All-tail (λ y. All P (h y)) y ys all))

module _ (unit : ℕ) (merge : ℕ → ℕ → ℕ) (IsSum : ℕ → Type 0) (laws : MergeLaws unit merge IsSum) where
  abbrev pub merged : List ℕ → ℕ
  merged = fold merge unit

  -- those of one key
  abbrev pub of_key : {Y : Type 0} → (Y → ℕ) → (Y → List ℕ) → List Y → ℕ → ℕ
  of_key key h ys p = merged (flat_map h (filter (λ y. key y == p) ys))

  -- **The merge over all is the merge over the keys of the merges of each.**
  pub grouped : {Y : Type 0} (key : Y → ℕ) (h : Y → List ℕ) (n : ℕ) (ys : List Y) → All (λ y. key y < n) ys → All (λ y. All IsSum (h y)) ys →
      merged (flat_map h ys) ≡ merged (map (of_key key h ys) (range_with_len 0 n))
  grouped key h n [] below sums = sym (merged_units unit merge IsSum laws n)
  grouped {Y} key h n (y ∷ ys) below sums =
      let first : All IsSum (h y) = All-head (λ y. All IsSum (h y)) y ys sums in
      let rest : All (λ y. All IsSum (h y)) ys = All-tail (λ y. All IsSum (h y)) y ys sums in
      let is_first : IsSum (merged (h y)) = merged_is_sum unit merge IsSum laws (h y) first in
      let f : ℕ → ℕ = of_key key h ys in
      merged-append unit merge IsSum laws (h y) (flat_map h ys) first (flat_all IsSum h ys rest)
      ∙ laws.commutes (merged (h y)) (merged (flat_map h ys)) is_first (merged_is_sum unit merge IsSum laws (flat_map h ys) (flat_all IsSum h ys rest))
      ∙ ap (λ s. merge s (merged (h y))) (grouped key h n ys (All-tail (λ y. key y < n) y ys below) rest)
      ∙ sym (merged_raised unit merge IsSum laws f (of_key key h (y ∷ ys)) (key y) (merged (h y)) (sums_of_key rest) is_first (λ p. raised first rest p (p == key y) refl) n
      ∙ cond-true (nat_lt (key y) n) (merge (merged (map f (range_with_len 0 n))) (merged (h y))) (merged (map f (range_with_len 0 n))) (lt-ltb (key y) n (All-head (λ y. key y < n) y ys below)))
    where
      key_sums : All (λ y. All IsSum (h y)) ys → (p : ℕ) → All IsSum (flat_map h (filter (λ y. key y == p) ys))
      key_sums rest p = flat_all IsSum h (filter (λ y. key y == p) ys) (All-filter (λ y. key y == p) (λ y. All IsSum (h y)) ys rest)

      sums_of_key : All (λ y. All IsSum (h y)) ys → (p : ℕ) → IsSum (of_key key h ys p)
      sums_of_key rest p = merged_is_sum unit merge IsSum laws (flat_map h (filter (λ y. key y == p) ys)) (key_sums rest p)

      raised : All IsSum (h y) → All (λ y. All IsSum (h y)) ys → (p : ℕ) (own : Bool) → p == key y ≡ own → of_key key h (y ∷ ys) p ≡ (if own then merge (of_key key h ys p) (merged (h y)) else of_key key h ys p)
      raised first rest p true is =
          let test : key y == p ≡ true = eq-eqb (key y) p (sym (eqb-true p (key y) is)) in
          let kept : filter (λ y. key y == p) (y ∷ ys) ≡ y ∷ filter (λ y. key y == p) ys = rw test refl in
          ap (λ l. merged (flat_map h l)) kept
          ∙ merged-append unit merge IsSum laws (h y) (flat_map h (filter (λ y. key y == p) ys)) first (key_sums rest p)
          ∙ laws.commutes (merged (h y)) (of_key key h ys p) (merged_is_sum unit merge IsSum laws (h y) first) (sums_of_key rest p)
      raised first rest p false is =
          let test : key y == p ≡ false = ne_eqb (key y) p (λ equal. eqb-false p (key y) is (sym equal)) in
          let kept : filter (λ y. key y == p) (y ∷ ys) ≡ filter (λ y. key y == p) ys = rw test refl in
          ap (λ l. merged (flat_map h l)) kept

  -- **The merge over the chunks of a list is the merge over the list.**
  pub over_chunks : {X : Type 0} (h : X → List ℕ) (size : ℕ) (home : X → ℕ) (parts : ℕ) (xs : List X) → 1 ≤ size → All (λ x. home x < parts) xs → All (λ x. All IsSum (h x)) xs →
      merged (flat_map (λ (c : Chunk X). flat_map h c.items) (chunks size home parts xs)) ≡ merged (flat_map h xs)
  over_chunks {X} h size home parts xs some below sums =
      let made : List (Chunk X) = chunks size home parts xs in
      let are = chunks_are (λ x. (home x < parts) × All IsSum (h x)) size home parts xs some (λ k d inside. (below k d inside, sums k d inside)) in
      let of_chunk : Chunk X → List ℕ = λ (c : Chunk X). flat_map h c.items in
      let partitions : All (λ (c : Chunk X). c.partition < parts) made = λ k d inside. partition_below (get_or made k d) (are k d inside).0 (are k d inside).1 in
      let chunk_sums : All (λ (c : Chunk X). All IsSum (flat_map h c.items)) made =
      λ k d inside. flat_all IsSum h (get_or made k d).items (λ j e within. ((are k d inside).1 j e within).1) in
      grouped (λ (c : Chunk X). c.partition) of_chunk parts made partitions chunk_sums
      ∙ ap merged (same_row (of_key (λ (c : Chunk X). c.partition) of_chunk made) (of_key home h xs) 0 parts (λ p inside. of_partition p (omega arith)))
      ∙ sym (grouped home h parts xs below sums)
    where
      partition_below : (c : Chunk X) → IsChunkOf size home c → All (λ x. (home x < parts) × All IsSum (h x)) c.items → c.partition < parts
      partition_below c is kept = with_first c.items is.some is.of_partition kept
        where
          with_first : (items : List X) → 0 < length items → All (λ x. home x ≡ c.partition) items → All (λ x. (home x < parts) × All IsSum (h x)) items → c.partition < parts
          with_first [] some at kept = absurd (omega arith)
          with_first (x ∷ items) some at kept =
              let here = All-head (λ x. home x ≡ c.partition) x items at in
              subst (λ k. k < parts) here (All-head (λ x. (home x < parts) × All IsSum (h x)) x items kept).0

      of_partition : (p : ℕ) → p < parts → of_key (λ (c : Chunk X). c.partition) (λ (c : Chunk X). flat_map h c.items) (chunks size home parts xs) p ≡ of_key home h xs p
      of_partition p inside =
          ap merged (sym (flat_map-flat_map h (λ (c : Chunk X). c.items) (chunks_of_partition p (chunks size home parts xs))) ∙ ap (flat_map h) (chunks_hold size home parts xs p some inside))
