-- How many chunks a list makes: each full one uses up as many items as its size, and each partition has one more at most.
use Rattle.std.proofs.Common.{◌≡◌, ◌≢◌, ◌⊎◌, inl, inr, ℕ, zero, suc, ◌+◌, ◌-◌, ◌*◌, ◌/◌, ◌%◌, ◌==◌, ◌<◌, ◌≤◌, Bool, true, false, cond, List, [], ◌∷◌, ◌++◌, length, drop, refl, sym, ◌∙◌, ap, subst, mul-le-mul_right, arith, length-append, length-drop, length-take}
use Rattle.std.specs.List.{All, filter, sum_by, range_with_len}
use Rattle.std.proofs.lemmas.List.Elements.{All-nil, All-cons, All-head, All-tail, All-append, All-weaker}
use Rattle.std.proofs.lemmas.List.Sums.{sum_by-cons}
use Rattle.std.proofs.lemmas.List.Concat.{length-flat_map}
use Rattle.std.proofs.lemmas.Nat.{div-add-mod'}
use Rattle.std.proofs.lemmas.Bool.{eqb-true, eq-eqb, ne_eqb}
use Rattle.chunk_model.specs.Chunks.{Chunk, items_of, chunk_of, filled_by, full_chunks, left_over, chunks, chunks_of_partition, IsChunkOf}
use Rattle.chunk_model.proofs.Waiting.{same_or_other, items_of-here}
use Rattle.chunk_model.proofs.Made.{held_by, full_of, held_by-full_chunks, chunks_are, all_full_chunks, all_cond, rests}

-- Sums over partitions.
sum_of_two : {X : Type 0} (f g h : X → ℕ) (xs : List X) → ((x : X) → h x ≡ f x + g x) → sum_by h xs ≡ sum_by f xs + sum_by g xs
sum_of_two f g h [] each = refl
sum_of_two f g h (x ∷ xs) each =
    omega (arith, sum_by-cons f x xs, sum_by-cons g x xs, sum_by-cons h x xs, each x, sum_of_two f g h xs each)

-- a number that stands at one partition alone
sum_before : (q n first k : ℕ) → q < first → sum_by (λ p. cond (q == p) n 0) (range_with_len first k) ≡ 0
sum_before q n first zero below = refl
sum_before q n first (suc k) below =
    omega (
      arith,
      sum_by-cons (λ p. cond (q == p) n 0) first (range_with_len (first + 1) k),
      ap (λ b. cond b n 0) (ne_eqb q first (omega arith)),
      sum_before q n (first + 1) k (omega arith),
    )

sum_at : (q n first k : ℕ) → first ≤ q → q < first + k → sum_by (λ p. cond (q == p) n 0) (range_with_len first k) ≡ n
sum_at q n first zero from below = absurd (omega arith)
sum_at q n first (suc k) from below = by_place (same_or_other q first) (λ other. sum_at q n (first + 1) k (omega arith) (omega arith))
  where
    by_place : (q ≡ first) ⊎ (q ≢ first) → (q ≢ first → sum_by (λ p. cond (q == p) n 0) (range_with_len (first + 1) k) ≡ n) →
        sum_by (λ p. cond (q == p) n 0) (range_with_len first (suc k)) ≡ n
    by_place (inl here) later =
        omega (
          arith,
          sum_by-cons (λ p. cond (q == p) n 0) first (range_with_len (first + 1) k),
          ap (λ b. cond b n 0) (eq-eqb q first here),
          sum_before q n (first + 1) k (omega arith),
        )
    by_place (inr other) later =
        omega (
          arith,
          sum_by-cons (λ p. cond (q == p) n 0) first (range_with_len (first + 1) k),
          ap (λ b. cond b n 0) (ne_eqb q first other),
          later other,
        )

one_more_at : {X : Type 0} (weight : X → ℕ) (key : X → ℕ) (x : X) (xs : List X) (p : ℕ) →
    sum_by weight (filter (λ y. key y == p) (x ∷ xs)) ≡ cond (key x == p) (weight x) 0 + sum_by weight (filter (λ y. key y == p) xs)
one_more_at {X} weight key x xs p = by_test (key x == p)
  where
    others : List X
    others = filter (λ y. key y == p) xs

    by_test : (b : Bool) → sum_by weight (cond b (x ∷ others) others) ≡ cond b (weight x) 0 + sum_by weight others
    by_test true = sum_by-cons weight x others
    by_test false = omega arith

-- the weight of a list is the sum of that of its parts, partition by partition
by_keys : {X : Type 0} (weight : X → ℕ) (key : X → ℕ) (parts : ℕ) (xs : List X) → All (λ x. key x < parts) xs →
    sum_by (λ p. sum_by weight (filter (λ y. key y == p) xs)) (range_with_len 0 parts) ≡ sum_by weight xs
by_keys weight key parts [] below = all_zero (range_with_len 0 parts)
  where
    all_zero : (ps : List ℕ) → sum_by (λ p. 0) ps ≡ 0
    all_zero [] = refl
    all_zero (p ∷ ps) = omega (arith, sum_by-cons (λ (q : ℕ). 0) p ps, all_zero ps)
by_keys {X} weight key parts (x ∷ xs) below =
    sum_of_two (λ p. cond (key x == p) (weight x) 0) (λ p. sum_by weight (filter (λ y. key y == p) xs))
    (λ p. sum_by weight (filter (λ y. key y == p) (x ∷ xs))) (range_with_len 0 parts) (one_more_at weight key x xs)
    ∙ ap (λ n. n + sum_by (λ p. sum_by weight (filter (λ y. key y == p) xs)) (range_with_len 0 parts))
    (sum_at (key x) (weight x) 0 parts (omega arith) (omega (arith, All-head (λ y. key y < parts) x xs below)))
    ∙ ap (λ n. weight x + n) (by_keys weight key parts xs (All-tail (λ y. key y < parts) x xs below))
    ∙ sym (sum_by-cons weight x xs)

length-is-sum : {X : Type 0} (xs : List X) → length xs ≡ sum_by (λ x. 1) xs
length-is-sum [] = refl
length-is-sum {X} (x ∷ xs) = omega (arith, sum_by-cons (λ (y : X). 1) x xs, length-is-sum xs)

sum_below : {X : Type 0} (f g : X → ℕ) (xs : List X) → ((x : X) → f x ≤ g x) → sum_by f xs ≤ sum_by g xs
sum_below f g [] each = omega arith
sum_below f g (x ∷ xs) each = omega (arith, sum_by-cons f x xs, sum_by-cons g x xs, each x, sum_below f g xs each)

-- Full chunks have exactly their size.
at_least : (q size n : ℕ) → n ≡ q * size → 0 < n → size ≤ n
at_least zero size n is some = absurd (omega arith)
at_least (suc q) size n is some = omega arith

abbrev HasSize : {X : Type 0} → ℕ → Chunk X → Type 0
HasSize size c = length c.items ≡ size

exact_chunk_of : {X : Type 0} (size p : ℕ) (items : List X) → length items ≡ size → All (HasSize size) (chunk_of p items)
exact_chunk_of {X} size p [] exact = All-nil (HasSize size)
exact_chunk_of {X} size p (x ∷ xs) exact = All-cons (HasSize size) (record { partition = p; items = x ∷ xs }) [] exact (All-nil (HasSize size))

pub full_chunks_are_full : {X : Type 0} (size : ℕ) (home : X → ℕ) (before xs : List X) → All (HasSize size) (full_chunks size home before xs)
full_chunks_are_full {X} size home before [] = All-nil (HasSize size)
full_chunks_are_full {X} size home before (x ∷ xs) =
    All-append (HasSize size) (filled_by size home before x) (full_chunks size home (before ++ x ∷ []) xs) filled
    (full_chunks_are_full size home (before ++ x ∷ []) xs)
  where
    mine : List X
    mine = items_of home (home x) (before ++ x ∷ [])

    filled : All (HasSize size) (filled_by size home before x)
    filled =
        all_cond (HasSize size) (length mine % size == 0) (chunk_of (home x) (drop (length mine - size) mine))
        (λ full. exact_chunk_of size (home x) (drop (length mine - size) mine)
        (omega (
          arith,
          length-drop (length mine - size) mine,
          at_least (length mine / size) size (length mine)
              (omega (arith, div-add-mod' (length mine) size, eqb-true (length mine % size) 0 full))
              (omega (arith, ap length (items_of-here home (home x) before x refl), length-append (items_of home (home x) before) (x ∷ []))),
        )))

items_in_full : {X : Type 0} (size : ℕ) (cs : List (Chunk X)) → All (HasSize size) cs → sum_by (λ (c : Chunk X). length c.items) cs ≡ length cs * size
items_in_full size [] exact = omega arith
items_in_full {X} size (c ∷ cs) exact =
    omega (arith, sum_by-cons (λ (d : Chunk X). length d.items) c cs, All-head (HasSize size) c cs exact, items_in_full size cs (All-tail (HasSize size) c cs exact))

-- a chunk's partition is that of an item
within_parts : {X : Type 0} (size : ℕ) (home : X → ℕ) (parts : ℕ) (c : Chunk X) →
    IsChunkOf size home c → All (λ x. home x < parts) c.items → c.partition < parts
within_parts {X} size home parts c is below = by_items c.items refl
  where
    by_items : (items : List X) → c.items ≡ items → c.partition < parts
    by_items [] same = absurd (omega (arith, is.some, ap length same))
    by_items (x ∷ xs) same =
        let of : All (λ y. home y ≡ c.partition) (x ∷ xs) = subst (All (λ y. home y ≡ c.partition)) same is.of_partition in
        let low : All (λ y. home y < parts) (x ∷ xs) = subst (All (λ y. home y < parts)) same below in
        omega (arith, All-head (λ y. home y ≡ c.partition) x xs of, All-head (λ y. home y < parts) x xs low)

all_within : {X : Type 0} (size : ℕ) (home : X → ℕ) (parts : ℕ) (cs : List (Chunk X)) →
    All (λ c. IsChunkOf size home c × All (λ x. home x < parts) c.items) cs → All (λ (c : Chunk X). c.partition < parts) cs
all_within {X} size home parts [] each = All-nil (λ (c : Chunk X). c.partition < parts)
all_within {X} size home parts (c ∷ cs) each =
    let Q : Chunk X → Type 0 = λ d. IsChunkOf size home d × All (λ x. home x < parts) d.items in
    let here = All-head Q c cs each in
    All-cons (λ (d : Chunk X). d.partition < parts) c cs (within_parts size home parts c here.0 here.1) (all_within size home parts cs (All-tail Q c cs each))

-- **Each chunk is of a partition there is.**
pub chunks_within : {X : Type 0} (size : ℕ) (home : X → ℕ) (parts : ℕ) (xs : List X) → 1 ≤ size → All (λ x. home x < parts) xs →
    All (λ (c : Chunk X). c.partition < parts) (chunks size home parts xs)
chunks_within size home parts xs some below =
    all_within size home parts (chunks size home parts xs) (chunks_are (λ x. home x < parts) size home parts xs some below)

-- **Full chunks use up as many items as their size.**
pub full_chunks_few : {X : Type 0} (size : ℕ) (home : X → ℕ) (parts : ℕ) (xs : List X) → 1 ≤ size → All (λ x. home x < parts) xs →
    length (full_chunks size home [] xs) * size ≤ length xs
full_chunks_few {X} size home parts xs some below =
    omega (
      arith,
      items_in_full size made (full_chunks_are_full size home [] xs),
      sym (by_keys weight (λ (c : Chunk X). c.partition) parts made within),
      each_less,
      by_keys (λ x. 1) home parts xs below,
      length-is-sum xs,
    )
  where
    made : List (Chunk X)
    made = full_chunks size home [] xs

    weight : Chunk X → ℕ
    weight c = length c.items

    within : All (λ (c : Chunk X). c.partition < parts) made
    within = all_within size home parts made (all_full_chunks (λ x. home x < parts) size home [] xs (All-nil (λ x. home x < parts)) below)

    less : (p : ℕ) → sum_by weight (chunks_of_partition p made) ≤ sum_by (λ (x : X). 1) (items_of home p xs)
    less p =
        let mine : List X = items_of home p xs in
        omega (
          arith,
          length-flat_map (λ (c : Chunk X). c.items) (chunks_of_partition p made),
          ap length (held_by-full_chunks size home p [] xs some),
          length-append (full_of size (items_of home p [])) (held_by p made),
          length-take (length mine / size * size) mine,
          length-is-sum mine,
        )

    each_less : sum_by (λ p. sum_by weight (chunks_of_partition p made)) (range_with_len 0 parts)
        ≤ sum_by (λ p. sum_by (λ (x : X). 1) (items_of home p xs)) (range_with_len 0 parts)
    each_less = sum_below (λ p. sum_by weight (chunks_of_partition p made)) (λ p. sum_by (λ (x : X). 1) (items_of home p xs)) (range_with_len 0 parts) less

-- the rests are one chunk at most for each partition
length-chunk_of : {X : Type 0} (p : ℕ) (items : List X) → length (chunk_of p items) ≤ 1
length-chunk_of p [] = omega arith
length-chunk_of p (x ∷ xs) = omega arith

length-rests : {X : Type 0} (rest : ℕ → List X) (first n : ℕ) → length (rests rest first n) ≤ n
length-rests rest first zero = omega arith
length-rests rest first (suc n) =
    omega (arith, length-append (chunk_of first (rest first)) (rests rest (first + 1) n), length-chunk_of first (rest first), length-rests rest (first + 1) n)

-- **And each partition has one more at most.**
pub chunks_few : {X : Type 0} (size : ℕ) (home : X → ℕ) (parts : ℕ) (xs : List X) →
    length (chunks size home parts xs) ≤ length (full_chunks size home [] xs) + parts
chunks_few size home parts xs =
    omega (arith, length-append (full_chunks size home [] xs) (rests (left_over size home xs) 0 parts), length-rests (left_over size home xs) 0 parts)

-- **All in all.**
pub chunks_count : {X : Type 0} (size : ℕ) (home : X → ℕ) (parts : ℕ) (xs : List X) → 1 ≤ size → All (λ x. home x < parts) xs →
    length (chunks size home parts xs) * size ≤ length xs + parts * size
chunks_count size home parts xs some below =
    let product : length (chunks size home parts xs) * size ≤ (length (full_chunks size home [] xs) + parts) * size =
    mul-le-mul_right size (chunks_few size home parts xs) in
    omega (arith, full_chunks_few size home parts xs some below)

pub chunks_each : {X : Type 0} (size : ℕ) (home : X → ℕ) (parts : ℕ) (xs : List X) → 1 ≤ size → All (λ x. home x < parts) xs →
    All (λ c. IsChunkOf size home c × (c.partition < parts)) (chunks size home parts xs)
chunks_each {X} size home parts xs some below =
    All-weaker (λ (c : Chunk X). IsChunkOf size home c × All (λ x. home x < parts) c.items) (λ (c : Chunk X). IsChunkOf size home c × (c.partition < parts))
    (λ c good. (good.0, within_parts size home parts c good.0 good.1)) (chunks size home parts xs)
    (chunks_are (λ x. home x < parts) size home parts xs some below)
