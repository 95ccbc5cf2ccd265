-- Buffers against the chunks of a list: what one item more completes, and what is left over.
use Rattle.std.proofs.Common.{◌≡◌, ◌≢◌, ◌⊎◌, inl, inr, ℕ, zero, suc, ◌+◌, ◌-◌, ◌*◌, ◌/◌, ◌%◌, ◌==◌, ◌<◌, ◌≤◌, Bool, true, false, cond, List, [], ◌∷◌, ◌++◌, length, drop, get_or, set, refl, sym, ◌∙◌, ap, arith, append-nil, append_assoc, length-append, length-drop, length-set}
use Rattle.std.specs.List.{flat_map, range_with_len}
use Rattle.std.proofs.lemmas.List.{drop-append-le, drop_all, get_or-set_same, get_or-set_other}
use Rattle.std.proofs.lemmas.List.Elements.{filter-append}
use Rattle.std.proofs.lemmas.Nat.{div-mul-add, mod-mul-add, div-add-mod'}
use Rattle.std.proofs.lemmas.Bool.{eqb-true, eqb-false, eq-eqb, ne_eqb}
use Rattle.chunk_model.specs.Chunks.{items_of, chunk_of, filled_by, full_chunks, left_over}
use Rattle.chunk_model.specs.Buffers.{Holds}

-- The parts of a number.
pub split : (size n q r : ℕ) → r < size → n ≡ q * size + r → (n / size ≡ q) × (n % size ≡ r)
split size n q r below is =
    (ap (λ k. k / size) is ∙ div-mul-add q size r below, ap (λ k. k % size) is ∙ mod-mul-add q size r below)

-- Lists in pieces of a size.
-- what the pieces leave over
abbrev pub rest_of : {X : Type 0} → ℕ → List X → List X
rest_of size mine = drop (length mine / size * size) mine

pub length_rest : {X : Type 0} (size : ℕ) (mine : List X) → length (rest_of size mine) ≡ length mine % size
length_rest size mine =
    omega (arith, length-drop (length mine / size * size) mine, div-add-mod' (length mine) size)

-- one more item that fills no piece
pub rest_grows : {X : Type 0} (size : ℕ) (mine : List X) (x : X) → length (rest_of size mine) + 1 < size →
    (rest_of size (mine ++ x ∷ []) ≡ rest_of size mine ++ x ∷ []) × ((length (mine ++ x ∷ []) % size == 0) ≡ false)
rest_grows size mine x below =
    let q : ℕ = length mine / size in
    let r : ℕ = length mine % size in
    let more : length (mine ++ x ∷ []) ≡ q * size + (r + 1) = omega (arith, length-append mine (x ∷ []), div-add-mod' (length mine) size) in
    let left : r + 1 < size = omega (arith, length_rest size mine) in
    let parts = split size (length (mine ++ x ∷ [])) q (r + 1) left more in
    let within : q * size ≤ length mine = omega (arith, div-add-mod' (length mine) size) in
    let some : length (mine ++ x ∷ []) % size ≢ 0 = omega (arith, parts.1) in
    (ap (λ k. drop (k * size) (mine ++ x ∷ [])) parts.0 ∙ drop-append-le (q * size) mine (x ∷ []) within, ne_eqb _ _ some)

-- one more item that fills a piece
pub rest_fills : {X : Type 0} (size : ℕ) (mine : List X) (x : X) → length (rest_of size mine) + 1 ≡ size →
    (rest_of size (mine ++ x ∷ []) ≡ []) × ((length (mine ++ x ∷ []) % size == 0) ≡ true)
    × (drop (length (mine ++ x ∷ []) - size) (mine ++ x ∷ []) ≡ rest_of size mine ++ x ∷ [])
rest_fills size mine x full =
    let q : ℕ = length mine / size in
    let r : ℕ = length mine % size in
    let left : r + 1 ≡ size = omega (arith, length_rest size mine) in
    let more : length (mine ++ x ∷ []) ≡ (q + 1) * size + 0 = omega (arith, length-append mine (x ∷ []), div-add-mod' (length mine) size) in
    let positive : 0 < size = omega arith in
    let parts = split size (length (mine ++ x ∷ [])) (q + 1) 0 positive more in
    let within : q * size ≤ length mine = omega (arith, div-add-mod' (length mine) size) in
    let back : length (mine ++ x ∷ []) - size ≡ q * size = omega arith in (
      ap (λ k. drop (k * size) (mine ++ x ∷ [])) parts.0 ∙ drop_all ((q + 1) * size) (mine ++ x ∷ []) (omega arith),
      eq-eqb _ _ parts.1,
      ap (λ k. drop k (mine ++ x ∷ [])) back ∙ drop-append-le (q * size) mine (x ∷ []) within,
    )

-- The items of a partition, with one more.
pub items_of-here : {X : Type 0} (home : X → ℕ) (p : ℕ) (xs : List X) (x : X) → home x ≡ p → items_of home p (xs ++ x ∷ []) ≡ items_of home p xs ++ x ∷ []
items_of-here {X} home p xs x here =
    filter-append (λ y. home y == p) xs (x ∷ []) ∙ ap (λ b. items_of home p xs ++ cond b (x ∷ []) []) (eq-eqb (home x) p here)

pub items_of-other : {X : Type 0} (home : X → ℕ) (p : ℕ) (xs : List X) (x : X) → home x ≢ p → items_of home p (xs ++ x ∷ []) ≡ items_of home p xs
items_of-other {X} home p xs x other =
    filter-append (λ y. home y == p) xs (x ∷ [])
    ∙ ap (λ b. items_of home p xs ++ cond b (x ∷ []) []) (ne_eqb (home x) p other)
    ∙ append-nil (items_of home p xs)

pub same_or_other : (a b : ℕ) → (a ≡ b) ⊎ (a ≢ b)
same_or_other a b = by_test (a == b) refl
  where
    by_test : (t : Bool) → (a == b) ≡ t → (a ≡ b) ⊎ (a ≢ b)
    by_test true e = inl (eqb-true a b e)
    by_test false e = inr (eqb-false a b e)

-- **No items, and empty buffers.**
pub hold_none : {X : Type 0} (size : ℕ) (home : X → ℕ) (parts : ℕ) (buffers : List (List X)) → length buffers ≡ parts →
    ((p : ℕ) → p < parts → get_or buffers p [] ≡ []) → Holds size home parts [] buffers
hold_none size home parts buffers many empty =
    record { many = many; hold = λ p below. empty p below ∙ sym (drop_all (0 / size * size) [] (omega arith)) }

-- what is left over of another partition
left_over-other : {X : Type 0} (size : ℕ) (home : X → ℕ) (xs : List X) (x : X) (p : ℕ) → home x ≢ p →
    left_over size home (xs ++ x ∷ []) p ≡ left_over size home xs p
left_over-other size home xs x p other = ap (rest_of size) (items_of-other home p xs x other)

-- **An item that fills no buffer**: it waits, and no chunk is made.
pub item_kept : {X : Type 0} (size : ℕ) (home : X → ℕ) (parts : ℕ) (xs : List X) (x : X) (buffers after : List (List X)) →
    Holds size home parts xs buffers → home x < parts → length (get_or buffers (home x) []) + 1 < size →
    after ≡ set buffers (home x) (get_or buffers (home x) [] ++ x ∷ []) →
    Holds size home parts (xs ++ x ∷ []) after × (filled_by size home xs x ≡ [])
item_kept {X} size home parts xs x buffers after holds below room is = (record { many = many; hold = hold }, none)
  where
    mine : List X
    mine = items_of home (home x) xs

    now : items_of home (home x) (xs ++ x ∷ []) ≡ mine ++ x ∷ []
    now = items_of-here home (home x) xs x refl

    waits : get_or buffers (home x) [] ≡ rest_of size mine
    waits = holds.hold (home x) below

    grows : (rest_of size (mine ++ x ∷ []) ≡ rest_of size mine ++ x ∷ []) × ((length (mine ++ x ∷ []) % size == 0) ≡ false)
    grows = rest_grows size mine x (omega (arith, ap length waits))

    none : filled_by size home xs x ≡ []
    none = ap (λ ys. cond (length ys % size == 0) (chunk_of (home x) (drop (length ys - size) ys)) []) now
        ∙ ap (λ b. cond b (chunk_of (home x) (drop (length (mine ++ x ∷ []) - size) (mine ++ x ∷ []))) []) grows.1

    many : length after ≡ parts
    many = ap length is ∙ length-set buffers (home x) (get_or buffers (home x) [] ++ x ∷ []) ∙ holds.many

    hold : (p : ℕ) → p < parts → get_or after p [] ≡ left_over size home (xs ++ x ∷ []) p
    hold p within = by_place p within (same_or_other (home x) p)
      where
        by_place : (p : ℕ) → p < parts → (home x ≡ p) ⊎ (home x ≢ p) → get_or after p [] ≡ left_over size home (xs ++ x ∷ []) p
        by_place p within (inl here) =
            ap (λ ys. get_or ys p []) is
            ∙ ap (λ k. get_or (set buffers (home x) (get_or buffers (home x) [] ++ x ∷ [])) k []) (sym here)
            ∙ get_or-set_same buffers (home x) (get_or buffers (home x) [] ++ x ∷ []) [] (omega (arith, holds.many))
            ∙ ap (λ ys. ys ++ x ∷ []) waits
            ∙ sym grows.0
            ∙ sym (ap (rest_of size) now)
            ∙ ap (left_over size home (xs ++ x ∷ [])) here
        by_place p within (inr other) =
            ap (λ ys. get_or ys p []) is
            ∙ get_or-set_other buffers (home x) p (get_or buffers (home x) [] ++ x ∷ []) [] (λ e. other (sym e))
            ∙ holds.hold p within
            ∙ sym (left_over-other size home xs x p other)

-- **An item that fills its buffer**: with what waited it is the chunk that is made, and the buffer is emptied.
pub item_fills : {X : Type 0} (size : ℕ) (home : X → ℕ) (parts : ℕ) (xs : List X) (x : X) (buffers after : List (List X)) →
    Holds size home parts xs buffers → home x < parts → length (get_or buffers (home x) []) + 1 ≡ size →
    after ≡ set buffers (home x) [] →
    Holds size home parts (xs ++ x ∷ []) after
    × (filled_by size home xs x ≡ record { partition = home x; items = get_or buffers (home x) [] ++ x ∷ [] } ∷ [])
item_fills {X} size home parts xs x buffers after holds below full is = (record { many = many; hold = hold }, made)
  where
    mine : List X
    mine = items_of home (home x) xs

    now : items_of home (home x) (xs ++ x ∷ []) ≡ mine ++ x ∷ []
    now = items_of-here home (home x) xs x refl

    waits : get_or buffers (home x) [] ≡ rest_of size mine
    waits = holds.hold (home x) below

    fills : (rest_of size (mine ++ x ∷ []) ≡ []) × ((length (mine ++ x ∷ []) % size == 0) ≡ true)
        × (drop (length (mine ++ x ∷ []) - size) (mine ++ x ∷ []) ≡ rest_of size mine ++ x ∷ [])
    fills = rest_fills size mine x (omega (arith, ap length waits))

    chunk_of-more : (p : ℕ) (ys : List X) (y : X) → chunk_of p (ys ++ y ∷ []) ≡ record { partition = p; items = ys ++ y ∷ [] } ∷ []
    chunk_of-more p [] y = refl
    chunk_of-more p (z ∷ ys) y = refl

    made : filled_by size home xs x ≡ record { partition = home x; items = get_or buffers (home x) [] ++ x ∷ [] } ∷ []
    made = ap (λ ys. cond (length ys % size == 0) (chunk_of (home x) (drop (length ys - size) ys)) []) now
        ∙ ap (λ b. cond b (chunk_of (home x) (drop (length (mine ++ x ∷ []) - size) (mine ++ x ∷ []))) []) fills.1
        ∙ ap (chunk_of (home x)) (fills.2 ∙ ap (λ ys. ys ++ x ∷ []) (sym waits))
        ∙ chunk_of-more (home x) (get_or buffers (home x) []) x

    many : length after ≡ parts
    many = ap length is ∙ length-set buffers (home x) [] ∙ holds.many

    hold : (p : ℕ) → p < parts → get_or after p [] ≡ left_over size home (xs ++ x ∷ []) p
    hold p within = by_place p within (same_or_other (home x) p)
      where
        by_place : (p : ℕ) → p < parts → (home x ≡ p) ⊎ (home x ≢ p) → get_or after p [] ≡ left_over size home (xs ++ x ∷ []) p
        by_place p within (inl here) =
            ap (λ ys. get_or ys p []) is
            ∙ ap (λ k. get_or (set buffers (home x) []) k []) (sym here)
            ∙ get_or-set_same buffers (home x) [] [] (omega (arith, holds.many))
            ∙ sym fills.0
            ∙ sym (ap (rest_of size) now)
            ∙ ap (left_over size home (xs ++ x ∷ [])) here
        by_place p within (inr other) =
            ap (λ ys. get_or ys p []) is
            ∙ get_or-set_other buffers (home x) p [] [] (λ e. other (sym e))
            ∙ holds.hold p within
            ∙ sym (left_over-other size home xs x p other)

-- **The chunks that one item more completes.**
pub full_chunks-more : {X : Type 0} (size : ℕ) (home : X → ℕ) (before xs : List X) (x : X) →
    full_chunks size home before (xs ++ x ∷ []) ≡ full_chunks size home before xs ++ filled_by size home (before ++ xs) x
full_chunks-more size home before [] x =
    append-nil (filled_by size home before x) ∙ ap (λ ys. filled_by size home ys x) (sym (append-nil before))
full_chunks-more size home before (y ∷ xs) x =
    ap (λ cs. filled_by size home before y ++ cs) (full_chunks-more size home (before ++ y ∷ []) xs x)
    ∙ sym (append_assoc (filled_by size home before y) (full_chunks size home (before ++ y ∷ []) xs) (filled_by size home ((before ++ y ∷ []) ++ xs) x))
    ∙ ap (λ ys. (filled_by size home before y ++ full_chunks size home (before ++ y ∷ []) xs) ++ filled_by size home ys x) (append_assoc before (y ∷ []) xs)

-- one partition more of those whose rest is written
pub flat_map-more : {X : Type 0} (f : ℕ → List X) (first n : ℕ) →
    flat_map f (range_with_len first (suc n)) ≡ flat_map f (range_with_len first n) ++ f (first + n)
flat_map-more f first zero = append-nil (f first) ∙ ap f (omega arith)
flat_map-more f first (suc n) =
    ap (λ ys. f first ++ ys) (flat_map-more f (first + 1) n)
    ∙ sym (append_assoc (f first) (flat_map f (range_with_len (first + 1) n)) (f (first + 1 + n)))
    ∙ ap (λ k. (f first ++ flat_map f (range_with_len (first + 1) n)) ++ f k) (omega arith)
