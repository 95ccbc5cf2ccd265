-- Chunks on a device: their lengths, and that the bytes tell the records.
use Rattle.std.proofs.Common.{◌≡◌, ℕ, ◌+◌, ◌*◌, ◌^◌, ◌<◌, ◌≤◌, true, List, [], ◌∷◌, ◌++◌, length, take, drop, refl, sym, ◌∙◌, ap, arith, append_assoc, length-append, length-drop}
use Rattle.std.specs.List.{All, flat_map}
use Rattle.std.specs.Int.{to_be_bytes, from_be_bytes, w32}
use Rattle.std.proofs.lemmas.Nat.{from_be_bytes-to_be_bytes_4}
use Rattle.std.proofs.lemmas.List.{take_at, drop_at, append_cancel_left, drop-drop, drop-append-le}
use Rattle.std.proofs.lemmas.List.Elements.{All-head, All-tail}
use Rattle.chunk_model.specs.Layout.{Layout, IsLayout}
use Rattle.chunk_model.specs.ChunkBytes.{chunk_head, chunk_bytes, chunk_width, StandsAt}

-- Lengths.
pub length-chunk_head : (p n : ℕ) → length (chunk_head p n) ≡ 8
unfolding chunk_head
length-chunk_head p n = refl

pub length-records : {X : Type 0} (layout : Layout X) → IsLayout layout → (records : List X) → length (flat_map layout.bytes records) ≡ layout.width * length records
length-records layout laws [] = omega arith
length-records layout laws (r ∷ rs) =
    omega (arith, length-append (layout.bytes r) (flat_map layout.bytes rs), laws.length_is r, length-records layout laws rs)

pub length-chunk_bytes : {X : Type 0} (layout : Layout X) → IsLayout layout → (p : ℕ) (records : List X) →
    length (chunk_bytes layout p records) ≡ chunk_width layout.width (length records)
unfolding chunk_bytes
length-chunk_bytes layout laws p records =
    omega (arith, length-append (chunk_head p (length records)) (flat_map layout.bytes records), length-chunk_head p (length records), length-records layout laws records)

-- **What was appended stands at its place, whatever follows.**
pub appended_stands : (bytes text rest : List ℕ) → StandsAt (length bytes) text ((bytes ++ text) ++ rest)
appended_stands bytes text rest = (rest, ap (drop (length bytes)) (append_assoc bytes text rest) ∙ drop_at bytes (text ++ rest) (length bytes) refl)

-- what stands somewhere ends within the bytes
pub stands_within : (at : ℕ) (text bytes : List ℕ) → StandsAt at text bytes → 0 < length text → at + length text ≤ length bytes
stands_within at text bytes stands some =
    omega (arith, length-drop at bytes, ap length stands.1, length-append text stands.0)

-- it still stands there where the bytes go on
pub stands_longer : (at : ℕ) (text bytes more : List ℕ) → StandsAt at text bytes → 0 < length text → StandsAt at text (bytes ++ more)
stands_longer at text bytes more stands some =
    (stands.0 ++ more, drop-append-le at bytes more (omega (arith, stands_within at text bytes stands some)) ∙ ap (λ xs. xs ++ more) stands.1 ∙ append_assoc text stands.0 more)

-- The bytes tell the chunk.
-- two numbers whose four bytes are the same
pub same_number : (a b : ℕ) → a < 2 ^ 32 → b < 2 ^ 32 → to_be_bytes w32 a ≡ to_be_bytes w32 b → a ≡ b
same_number a b below below' same =
    sym (from_be_bytes-to_be_bytes_4 a below) ∙ ap (from_be_bytes w32) same ∙ from_be_bytes-to_be_bytes_4 b below'

front_of_head : (p n : ℕ) (rest : List ℕ) → take 4 (chunk_head p n ++ rest) ≡ to_be_bytes w32 p
unfolding chunk_head
front_of_head p n rest = refl

back_of_head : (p n : ℕ) (rest : List ℕ) → take 4 (drop 4 (chunk_head p n ++ rest)) ≡ to_be_bytes w32 n
unfolding chunk_head
back_of_head p n rest = refl

pub chunk_bytes-front : {X : Type 0} (layout : Layout X) (p : ℕ) (records : List X) (rest : List ℕ) →
    chunk_bytes layout p records ++ rest ≡ chunk_head p (length records) ++ (flat_map layout.bytes records ++ rest)
unfolding chunk_bytes
chunk_bytes-front layout p records rest = append_assoc (chunk_head p (length records)) (flat_map layout.bytes records) rest

-- the first four bytes are the partition, and the next four the number of records
pub told_partition : {X : Type 0} (layout : Layout X) (p at : ℕ) (bytes : List ℕ) (records : List X) →
    StandsAt at (chunk_bytes layout p records) bytes → take 4 (drop at bytes) ≡ to_be_bytes w32 p
told_partition layout p at bytes records stands =
    ap (take 4) (stands.1 ∙ chunk_bytes-front layout p records stands.0) ∙ front_of_head p (length records) (flat_map layout.bytes records ++ stands.0)

pub told_count : {X : Type 0} (layout : Layout X) (p at : ℕ) (bytes : List ℕ) (records : List X) →
    StandsAt at (chunk_bytes layout p records) bytes → take 4 (drop (at + 4) bytes) ≡ to_be_bytes w32 (length records)
told_count layout p at bytes records stands =
    ap (take 4) (sym (drop-drop 4 at bytes) ∙ ap (drop 4) (stands.1 ∙ chunk_bytes-front layout p records stands.0))
    ∙ back_of_head p (length records) (flat_map layout.bytes records ++ stands.0)

-- records whose bytes begin the same bytes
same_records : {X : Type 0} (layout : Layout X) → IsLayout layout → (rs ts : List X) (rest others : List ℕ) → length rs ≡ length ts →
    All (λ r. layout.holds r ≡ true) rs → All (λ r. layout.holds r ≡ true) ts →
    flat_map layout.bytes rs ++ rest ≡ flat_map layout.bytes ts ++ others → rs ≡ ts
same_records layout laws [] [] rest others many held held' same = refl
same_records layout laws [] (t ∷ ts) rest others many held held' same = absurd (omega arith)
same_records layout laws (r ∷ rs) [] rest others many held held' same = absurd (omega arith)
same_records {X} layout laws (r ∷ rs) (t ∷ ts) rest others many held held' same =
    let whole : layout.bytes r ++ (flat_map layout.bytes rs ++ rest) ≡ layout.bytes t ++ (flat_map layout.bytes ts ++ others) =
    sym (append_assoc (layout.bytes r) (flat_map layout.bytes rs) rest) ∙ same ∙ append_assoc (layout.bytes t) (flat_map layout.bytes ts) others in
    let first : layout.bytes r ≡ layout.bytes t =
    sym (take_at (layout.bytes r) (flat_map layout.bytes rs ++ rest) layout.width (laws.length_is r))
    ∙ ap (take layout.width) whole
    ∙ take_at (layout.bytes t) (flat_map layout.bytes ts ++ others) layout.width (laws.length_is t) in
    let here : r ≡ t =
    sym (laws.reads_back r (All-head (λ x. layout.holds x ≡ true) r rs held))
    ∙ ap layout.read first
    ∙ laws.reads_back t (All-head (λ x. layout.holds x ≡ true) t ts held') in
    let behind : flat_map layout.bytes rs ++ rest ≡ flat_map layout.bytes ts ++ others =
    append_cancel_left (layout.bytes r) (flat_map layout.bytes rs ++ rest) (flat_map layout.bytes ts ++ others)
    (whole ∙ ap (λ xs. xs ++ (flat_map layout.bytes ts ++ others)) (sym first)) in
    let others_same : rs ≡ ts =
    same_records layout laws rs ts rest others (omega arith) (All-tail (λ x. layout.holds x ≡ true) r rs held) (All-tail (λ x. layout.holds x ≡ true) t ts held') behind in
    ap (λ x. x ∷ rs) here ∙ ap (λ xs. t ∷ xs) others_same

-- **At a place there is one chunk at most.**
pub one_chunk : {X : Type 0} (layout : Layout X) → IsLayout layout → (p q at : ℕ) (bytes : List ℕ) (rs ts : List X) →
    p < 2 ^ 32 → q < 2 ^ 32 → length rs < 2 ^ 32 → length ts < 2 ^ 32 →
    All (λ r. layout.holds r ≡ true) rs → All (λ r. layout.holds r ≡ true) ts →
    StandsAt at (chunk_bytes layout p rs) bytes → StandsAt at (chunk_bytes layout q ts) bytes → (p ≡ q) × (rs ≡ ts)
one_chunk {X} layout laws p q at bytes rs ts p_below q_below rs_few ts_few held held' stands stands' = (
  same_number p q p_below q_below (sym (told_partition layout p at bytes rs stands) ∙ told_partition layout q at bytes ts stands'),
  same_records layout laws rs ts stands.0 stands'.0 many held held' bodies,
)
  where
    many : length rs ≡ length ts
    many = same_number (length rs) (length ts) rs_few ts_few (sym (told_count layout p at bytes rs stands) ∙ told_count layout q at bytes ts stands')

    body_of : (k : ℕ) (xs : List X) (rest : List ℕ) → drop 8 (chunk_bytes layout k xs ++ rest) ≡ flat_map layout.bytes xs ++ rest
    body_of k xs rest =
        ap (drop 8) (chunk_bytes-front layout k xs rest)
        ∙ drop_at (chunk_head k (length xs)) (flat_map layout.bytes xs ++ rest) 8 (length-chunk_head k (length xs))

    bodies : flat_map layout.bytes rs ++ stands.0 ≡ flat_map layout.bytes ts ++ stands'.0
    bodies = sym (body_of p rs stands.0) ∙ ap (drop 8) (sym stands.1 ∙ stands'.1) ∙ body_of q ts stands'.0
