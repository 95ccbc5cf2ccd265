-- The chunks of a list: they hold its items, each has its size, and each item is in a chunk of its partition.
use Rattle.std.proofs.Common.{◌≡◌, ◌≢◌, ◌⊎◌, inl, inr, ℕ, zero, suc, ◌+◌, ◌-◌, ◌*◌, ◌/◌, ◌%◌, ◌==◌, ◌<◌, ◌≤◌, Bool, true, false, cond, List, [], ◌∷◌, ◌++◌, length, take, drop, refl, sym, ◌∙◌, ap, arith, append-nil, append_assoc, length-append, length-drop}
use Rattle.std.specs.List.{All, flat_map, range_with_len}
use Rattle.std.proofs.lemmas.List.{take-append-drop, take-append-le, take_all}
use Rattle.std.proofs.lemmas.List.Elements.{filter-append, All-nil, All-cons, All-head, All-tail, All-append, All-drop, All-filter}
use Rattle.std.proofs.lemmas.Grind.{flat_map-append}
use Rattle.std.proofs.lemmas.Nat.{div-add-mod'}
use Rattle.std.proofs.lemmas.Bool.{eqb-true, eq-eqb, ne_eqb}
use Rattle.std.proofs.Math.Nat.{mod-lt}
use Rattle.chunk_model.specs.Chunks.{Chunk, items_of, chunk_of, filled_by, full_chunks, left_over, chunks, chunks_of_partition, items_in, IsChunkOf}
use Rattle.chunk_model.proofs.Waiting.{split, items_of-here, items_of-other, same_or_other, length_rest}

-- The items of the chunks of one partition.
abbrev pub held_by : {X : Type 0} → ℕ → List (Chunk X) → List X
held_by p made = items_in (chunks_of_partition p made)

pub held_by-append : {X : Type 0} (p : ℕ) (cs ds : List (Chunk X)) → held_by p (cs ++ ds) ≡ held_by p cs ++ held_by p ds
held_by-append {X} p cs ds =
    ap items_in (filter-append (λ (c : Chunk X). c.partition == p) cs ds)
    ∙ flat_map-append (λ (c : Chunk X). c.items) (chunks_of_partition p cs) (chunks_of_partition p ds)

-- those of one chunk
held_by-here : {X : Type 0} (p q : ℕ) (items : List X) → q ≡ p → held_by p (chunk_of q items) ≡ items
held_by-here p q [] same = refl
held_by-here {X} p q (x ∷ xs) same =
    ap (λ b. items_in (cond b ((record { partition = q; items = x ∷ xs }) ∷ []) [])) (eq-eqb q p same) ∙ append-nil (x ∷ xs)

held_by-other : {X : Type 0} (p q : ℕ) (items : List X) → q ≢ p → held_by p (chunk_of q items) ≡ []
held_by-other p q [] other = refl
held_by-other {X} p q (x ∷ xs) other =
    ap (λ b. items_in (cond b ((record { partition = q; items = x ∷ xs }) ∷ []) [])) (ne_eqb q p other)

-- the items that full pieces of a size have
abbrev pub full_of : {X : Type 0} → ℕ → List X → List X
full_of size mine = take (length mine / size * size) mine

-- one item more: its piece is filled, or it is not
full_more : {X : Type 0} (size : ℕ) (mine : List X) (x : X) → 1 ≤ size →
    full_of size mine ++ cond (length (mine ++ x ∷ []) % size == 0) (drop (length (mine ++ x ∷ []) - size) (mine ++ x ∷ [])) []
    ≡ full_of size (mine ++ x ∷ [])
full_more {X} size mine x some = by_rest (same_or_other (r + 1) size)
  where
    all : List X
    all = mine ++ x ∷ []

    q : ℕ
    q = length mine / size

    r : ℕ
    r = length mine % size

    more : length all ≡ q * size + (r + 1)
    more = omega (arith, length-append mine (x ∷ []), div-add-mod' (length mine) size)

    below : r < size
    below = mod-lt (length mine) some

    by_rest : (r + 1 ≡ size) ⊎ (r + 1 ≢ size) →
        full_of size mine ++ cond (length all % size == 0) (drop (length all - size) all) [] ≡ full_of size all
    by_rest (inl full) =
        let whole : length all ≡ (q + 1) * size + 0 = omega (arith, more) in
        let parts = split size (length all) (q + 1) 0 some whole in
        let back : length all - size ≡ q * size = omega (arith, more) in
        let within : q * size ≤ length mine = omega (arith, div-add-mod' (length mine) size) in
        ap (λ b. full_of size mine ++ cond b (drop (length all - size) all) []) (eq-eqb _ _ parts.1)
        ∙ ap (λ k. full_of size mine ++ drop k all) back
        ∙ ap (λ ys. ys ++ drop (q * size) all) (sym (take-append-le (q * size) mine (x ∷ []) within))
        ∙ take-append-drop (q * size) all
        ∙ sym (take_all ((q + 1) * size) all (omega arith))
        ∙ ap (λ k. take (k * size) all) (sym parts.0)
    by_rest (inr open_) =
        let left : r + 1 < size = omega (arith, below) in
        let parts = split size (length all) q (r + 1) left more in
        let rest : length all % size ≢ 0 = omega (arith, parts.1) in
        let within : q * size ≤ length mine = omega (arith, div-add-mod' (length mine) size) in
        ap (λ b. full_of size mine ++ cond b (drop (length all - size) all) []) (ne_eqb _ _ rest)
        ∙ append-nil (full_of size mine)
        ∙ sym (take-append-le (q * size) mine (x ∷ []) within)
        ∙ ap (λ k. take (k * size) all) (sym parts.0)

held_by-cond : {X : Type 0} (p : ℕ) (b : Bool) (cs : List (Chunk X)) → held_by p (cond b cs []) ≡ cond b (held_by p cs) []
held_by-cond p true cs = refl
held_by-cond p false cs = refl

same_both : {X : Type 0} (b : Bool) (xs : List X) → cond b xs xs ≡ xs
same_both true xs = refl
same_both false xs = refl

-- what the chunk that one item completes has of a partition
held_more : {X : Type 0} (size : ℕ) (home : X → ℕ) (p : ℕ) (before : List X) (x : X) → 1 ≤ size →
    full_of size (items_of home p before) ++ held_by p (filled_by size home before x) ≡ full_of size (items_of home p (before ++ x ∷ []))
held_more {X} size home p before x some = by_place p (same_or_other (home x) p)
  where
    by_place : (p : ℕ) → (home x ≡ p) ⊎ (home x ≢ p) →
        full_of size (items_of home p before) ++ held_by p (filled_by size home before x) ≡ full_of size (items_of home p (before ++ x ∷ []))
    by_place p (inl here) =
        let mine : List X = items_of home (home x) (before ++ x ∷ []) in
        let now = items_of-here home (home x) before x refl in
        ap (λ ys. full_of size (items_of home p before) ++ ys)
        (held_by-cond p (length mine % size == 0) (chunk_of (home x) (drop (length mine - size) mine))
        ∙ ap (λ ys. cond (length mine % size == 0) ys []) (held_by-here p (home x) (drop (length mine - size) mine) here))
        ∙ ap (λ k. full_of size (items_of home k before) ++ cond (length mine % size == 0) (drop (length mine - size) mine) []) (sym here)
        ∙ ap (λ ys. full_of size (items_of home (home x) before) ++ cond (length ys % size == 0) (drop (length ys - size) ys) []) now
        ∙ full_more size (items_of home (home x) before) x some
        ∙ ap (full_of size) (sym now)
        ∙ ap (λ k. full_of size (items_of home k (before ++ x ∷ []))) here
    by_place p (inr other) =
        let mine : List X = items_of home (home x) (before ++ x ∷ []) in
        ap (λ ys. full_of size (items_of home p before) ++ ys)
        (held_by-cond p (length mine % size == 0) (chunk_of (home x) (drop (length mine - size) mine))
        ∙ ap (λ ys. cond (length mine % size == 0) ys []) (held_by-other p (home x) (drop (length mine - size) mine) other)
        ∙ same_both (length mine % size == 0) [])
        ∙ append-nil (full_of size (items_of home p before))
        ∙ ap (full_of size) (sym (items_of-other home p before x other))

-- what the full chunks have of a partition
pub held_by-full_chunks : {X : Type 0} (size : ℕ) (home : X → ℕ) (p : ℕ) (before xs : List X) → 1 ≤ size →
    full_of size (items_of home p before) ++ held_by p (full_chunks size home before xs) ≡ full_of size (items_of home p (before ++ xs))
held_by-full_chunks size home p before [] some =
    append-nil (full_of size (items_of home p before)) ∙ ap (λ ys. full_of size (items_of home p ys)) (sym (append-nil before))
held_by-full_chunks size home p before (x ∷ xs) some =
    ap (λ ys. full_of size (items_of home p before) ++ ys) (held_by-append p (filled_by size home before x) (full_chunks size home (before ++ x ∷ []) xs))
    ∙ sym (append_assoc (full_of size (items_of home p before)) (held_by p (filled_by size home before x)) (held_by p (full_chunks size home (before ++ x ∷ []) xs)))
    ∙ ap (λ ys. ys ++ held_by p (full_chunks size home (before ++ x ∷ []) xs)) (held_more size home p before x some)
    ∙ held_by-full_chunks size home p (before ++ x ∷ []) xs some
    ∙ ap (λ ys. full_of size (items_of home p ys)) (append_assoc before (x ∷ []) xs)

-- What the rests of partitions, from one on, have of a partition.
abbrev pub rests : {X : Type 0} → (ℕ → List X) → ℕ → ℕ → List (Chunk X)
rests rest first n = flat_map (λ q. chunk_of q (rest q)) (range_with_len first n)

held_by-none : {X : Type 0} (rest : ℕ → List X) (p first n : ℕ) → p < first → held_by p (rests rest first n) ≡ []
held_by-none rest p first zero below = refl
held_by-none rest p first (suc n) below =
    held_by-append p (chunk_of first (rest first)) (rests rest (first + 1) n)
    ∙ ap (λ ys. ys ++ held_by p (rests rest (first + 1) n)) (held_by-other p first (rest first) (omega arith))
    ∙ held_by-none rest p (first + 1) n (omega arith)

held_by-rests : {X : Type 0} (rest : ℕ → List X) (p first n : ℕ) → first ≤ p → p < first + n → held_by p (rests rest first n) ≡ rest p
held_by-rests rest p first zero from below = absurd (omega arith)
held_by-rests {X} rest p first (suc n) from below =
    held_by-append p (chunk_of first (rest first)) (rests rest (first + 1) n) ∙ by_place (same_or_other first p) (λ other. held_by-rests rest p (first + 1) n (omega arith) (omega arith))
  where
    by_place : (first ≡ p) ⊎ (first ≢ p) → (first ≢ p → held_by p (rests rest (first + 1) n) ≡ rest p) →
        held_by p (chunk_of first (rest first)) ++ held_by p (rests rest (first + 1) n) ≡ rest p
    by_place (inl here) later =
        ap (λ ys. ys ++ held_by p (rests rest (first + 1) n)) (held_by-here p first (rest first) here)
        ∙ ap (λ ys. rest first ++ ys) (held_by-none rest p (first + 1) n (omega arith))
        ∙ append-nil (rest first)
        ∙ ap rest here
    by_place (inr other) later = ap (λ ys. ys ++ held_by p (rests rest (first + 1) n)) (held_by-other p first (rest first) other) ∙ later other

-- **The chunks of a partition hold its items, in order.**
pub chunks_hold : {X : Type 0} (size : ℕ) (home : X → ℕ) (parts : ℕ) (xs : List X) (p : ℕ) → 1 ≤ size → p < parts →
    items_in (chunks_of_partition p (chunks size home parts xs)) ≡ items_of home p xs
chunks_hold {X} size home parts xs p some below =
    held_by-append p (full_chunks size home [] xs) (rests (left_over size home xs) 0 parts)
    ∙ ap (λ ys. ys ++ held_by p (rests (left_over size home xs) 0 parts)) full
    ∙ ap (λ ys. full_of size (items_of home p xs) ++ ys) (held_by-rests (left_over size home xs) p 0 parts (omega arith) (omega arith))
    ∙ take-append-drop (length (items_of home p xs) / size * size) (items_of home p xs)
  where
    nothing : List X
    nothing = []

    full : held_by p (full_chunks size home [] xs) ≡ full_of size (items_of home p xs)
    full = ap (λ ys. ys ++ held_by p (full_chunks size home [] xs)) (sym (take_all (0 / size * size) nothing (omega arith)))
        ∙ held_by-full_chunks size home p [] xs some

-- What each chunk is, and what its items keep.
abbrev pub IsGood : {X : Type 0} → (X → Type 0) → ℕ → (X → ℕ) → Chunk X → Type 0
IsGood P size home c = IsChunkOf size home c × All P c.items

pub all_chunk_of : {X : Type 0} (P : X → Type 0) (size : ℕ) (home : X → ℕ) (p : ℕ) (items : List X) → length items ≤ size →
    All (λ x. home x ≡ p) items → All P items → All (IsGood P size home) (chunk_of p items)
all_chunk_of {X} P size home p [] few of kept = All-nil (IsGood P size home)
all_chunk_of {X} P size home p (x ∷ xs) few of kept =
    All-cons (IsGood P size home) (record { partition = p; items = x ∷ xs }) []
    (record { some = omega arith; few = few; of_partition = of }, kept)
    (All-nil (IsGood P size home))

pub all_cond : {X : Type 0} (P : X → Type 0) (b : Bool) (xs : List X) → (b ≡ true → All P xs) → All P (cond b xs [])
all_cond P true xs each = each refl
all_cond P false xs each = All-nil P

-- the items of a partition are of it
pub all_items_of : {X : Type 0} (home : X → ℕ) (p : ℕ) (xs : List X) → All (λ x. home x ≡ p) (items_of home p xs)
all_items_of {X} home p [] = All-nil (λ x. home x ≡ p)
all_items_of {X} home p (x ∷ xs) = by_test (home x == p) refl (all_items_of home p xs)
  where
    by_test : (b : Bool) → (home x == p) ≡ b → All (λ y. home y ≡ p) (items_of home p xs) →
        All (λ y. home y ≡ p) (cond b (x ∷ items_of home p xs) (items_of home p xs))
    by_test true is others = All-cons (λ y. home y ≡ p) x (items_of home p xs) (eqb-true (home x) p is) others
    by_test false is others = others

all_filled_by : {X : Type 0} (P : X → Type 0) (size : ℕ) (home : X → ℕ) (before : List X) (x : X) →
    All P (before ++ x ∷ []) → All (IsGood P size home) (filled_by size home before x)
all_filled_by {X} P size home before x kept =
    let mine : List X = items_of home (home x) (before ++ x ∷ []) in
    let last : List X = drop (length mine - size) mine in
    all_cond (IsGood P size home) (length mine % size == 0) (chunk_of (home x) last)
    (λ full. all_chunk_of P size home (home x) last (omega (arith, length-drop (length mine - size) mine))
    (All-drop (λ y. home y ≡ home x) (length mine - size) mine (all_items_of home (home x) (before ++ x ∷ [])))
    (All-drop P (length mine - size) mine (All-filter (λ y. home y == home x) P (before ++ x ∷ []) kept)))

pub all_full_chunks : {X : Type 0} (P : X → Type 0) (size : ℕ) (home : X → ℕ) (before xs : List X) →
    All P before → All P xs → All (IsGood P size home) (full_chunks size home before xs)
all_full_chunks {X} P size home before [] kept each = All-nil (IsGood P size home)
all_full_chunks {X} P size home before (x ∷ xs) kept each =
    let more : All P (before ++ x ∷ []) = All-append P before (x ∷ []) kept (All-cons P x [] (All-head P x xs each) (All-nil P)) in
    All-append (IsGood P size home) (filled_by size home before x) (full_chunks size home (before ++ x ∷ []) xs)
    (all_filled_by P size home before x more)
    (all_full_chunks P size home (before ++ x ∷ []) xs more (All-tail P x xs each))

all_rests : {X : Type 0} (P : X → Type 0) (size : ℕ) (home : X → ℕ) (xs : List X) (first n : ℕ) → 1 ≤ size → All P xs →
    All (IsGood P size home) (rests (left_over size home xs) first n)
all_rests {X} P size home xs first zero some kept = All-nil (IsGood P size home)
all_rests {X} P size home xs first (suc n) some kept =
    let mine : List X = items_of home first xs in
    let at : ℕ = length mine / size * size in
    All-append (IsGood P size home) (chunk_of first (left_over size home xs first)) (rests (left_over size home xs) (first + 1) n)
    (all_chunk_of P size home first (left_over size home xs first)
    (omega (arith, length_rest size mine, mod-lt (length mine) some))
    (All-drop (λ y. home y ≡ first) at mine (all_items_of home first xs))
    (All-drop P at mine (All-filter (λ y. home y == first) P xs kept)))
    (all_rests P size home xs (first + 1) n some kept)

-- **Each chunk has 1 item to so many, all of its partition, and each item of a chunk is one of the list.**
pub chunks_are : {X : Type 0} (P : X → Type 0) (size : ℕ) (home : X → ℕ) (parts : ℕ) (xs : List X) → 1 ≤ size → All P xs →
    All (λ c. IsChunkOf size home c × All P c.items) (chunks size home parts xs)
chunks_are P size home parts xs some kept =
    All-append (IsGood P size home) (full_chunks size home [] xs) (rests (left_over size home xs) 0 parts)
    (all_full_chunks P size home [] xs (All-nil P) kept)
    (all_rests P size home xs 0 parts some kept)
