-- What a write or a cut, done as a whole or in part, leaves of the bytes.
use Rattle.std.proofs.Common.{◌≡◌, ℕ, ◌+◌, ◌-◌, ◌<◌, ◌≤◌, ◌⊎◌, min, List, [], ◌++◌, length, take, drop, get_or, inl, inr, arith, refl, sym, ◌∙◌, ap, subst}
use Rattle.std.proofs.lemmas.List.{take_all, take_min, take-take, take_at, drop_at, drop_all, drop-drop, drop-take, append-nil, append_assoc, length-take, length-take-le, length-drop, length-append, get_or-take, get_or-drop, get_or_append_left, get_or-append_right, ext_get_or}
use Rattle.std.proofs.lemmas.Bool.{cases_lt}
use Rattle.std.proofs.Math.Seq.{take-add}
use Rattle.ports.specs.Bytes.{bytes_at, after_write, Torn, CutShort}

pub torn_same : (at count : ℕ) (bytes : List ℕ) → Torn at count bytes bytes
torn_same at count bytes = record { no_shorter = omega arith; no_longer = omega arith; stays = λ i within outside. refl }

pub cut_same : (size : ℕ) (bytes : List ℕ) → CutShort size bytes bytes
cut_same size bytes = record { no_shorter = omega arith; front = take_all (length bytes) bytes (omega arith) }

pub cut_take : (size : ℕ) (bytes : List ℕ) → CutShort size bytes (take size bytes)
cut_take size bytes = record {
  no_shorter = rw (length-take size bytes) (omega arith);
  front = ap (λ n. take n bytes) (length-take size bytes) ∙ take_min size bytes;
}

-- a write within the bytes keeps their number
pub length-torn : (at count : ℕ) (old new : List ℕ) → Torn at count old new → at + count ≤ length old → length new ≡ length old
length-torn at count old new torn within = omega (arith, torn.no_shorter, torn.no_longer)

pub length-after_write : (at : ℕ) (piece old : List ℕ) → length (after_write at piece old) ≡ min at (length old) + length piece + (length old - (at + length piece))
length-after_write at piece old = simp (length-append, length-take, length-drop)

-- the whole write is one way to do it in part
pub torn_after_write : (at : ℕ) (piece old : List ℕ) → Torn at (length piece) old (after_write at piece old)
torn_after_write at piece old =
    let front : List ℕ = take at old ++ piece in
    let rest : List ℕ = drop (at + length piece) old in
    let long : length front ≡ min at (length old) + length piece = simp (length-append, length-take) in
    record {
      no_shorter = omega (arith, length-after_write at piece old);
      no_longer = omega (arith, length-after_write at piece old);
      stays = λ i within outside.
          elim outside [
            | inl before ↦
                let here : i < length (take at old) = omega (arith, length-take at old) in
                let here' : i < length front = omega (arith, long) in
                get_or_append_left front rest 0 i here' ∙ get_or_append_left (take at old) piece 0 i here ∙ get_or-take at old i 0 before
            | inr behind ↦
                let there : length front ≡ at + length piece = omega (arith, long) in
                let back : at + length piece + (i - (at + length piece)) ≡ i = omega arith in
                get_or-append_right front rest (at + length piece) i 0 there behind
                ∙ get_or-drop (at + length piece) old (i - (at + length piece)) 0
                ∙ ap (λ n. get_or old n 0) back
          ];
    }

-- what is written is there
pub bytes_at-after_write : (at : ℕ) (piece old : List ℕ) → at ≤ length old → bytes_at at (length piece) (after_write at piece old) ≡ piece
bytes_at-after_write at piece old within =
    let rest : List ℕ = drop (at + length piece) old in
    ap (λ bytes. take (length piece) (drop at bytes)) (append_assoc (take at old) piece rest)
    ∙ ap (λ bytes. take (length piece) bytes) (drop_at (take at old) (piece ++ rest) at (length-take-le at old within))
    ∙ take_at piece rest (length piece) refl

-- a write at the end
pub after_write-end : (at : ℕ) (piece old : List ℕ) → at ≡ length old → after_write at piece old ≡ old ++ piece
after_write-end at piece old end =
    let rest : drop (at + length piece) old ≡ [] = drop_all (at + length piece) old (omega arith) in
    ap (λ bytes. take at old ++ piece ++ bytes) rest
    ∙ append-nil (take at old ++ piece)
    ∙ ap (λ bytes. bytes ++ piece) (take_all at old (omega arith))

get_or-bytes_at : (at count : ℕ) (bytes : List ℕ) (i : ℕ) → i < count → get_or (bytes_at at count bytes) i 0 ≡ get_or bytes (at + i) 0
get_or-bytes_at at count bytes i within = get_or-take count (drop at bytes) i 0 within ∙ get_or-drop at bytes i 0

pub length-bytes_at : (at count : ℕ) (bytes : List ℕ) → at + count ≤ length bytes → length (bytes_at at count bytes) ≡ count
length-bytes_at at count bytes within =
    let there : count ≤ length (drop at bytes) = omega (arith, length-drop at bytes) in
    length-take-le count (drop at bytes) there

-- bytes outside the range of a write stay
pub bytes_at-torn : (at count : ℕ) (old new : List ℕ) (a n : ℕ) → Torn at count old new → (a + n ≤ at) ⊎ (at + count ≤ a) → a + n ≤ length old → bytes_at a n new ≡ bytes_at a n old
bytes_at-torn at count old new a n torn apart within =
    let there : a + n ≤ length new = omega (arith, torn.no_shorter) in
    let long : length (bytes_at a n new) ≡ n = length-bytes_at a n new there in
    ext_get_or 0 (bytes_at a n new) (bytes_at a n old) (long ∙ sym (length-bytes_at a n old within))
    (λ i below.
    let below' : i < n = omega (arith, long) in
    get_or-bytes_at a n new i below'
    ∙ torn.stays (a + i) (omega arith) (elim apart [ inl before ↦ inl (omega arith) | inr behind ↦ inr (omega arith) ])
    ∙ sym (get_or-bytes_at a n old i below'))

-- a byte that is torn and comes out as it was has changed nothing
pub torn_byte : (at : ℕ) (old new : List ℕ) → Torn at 1 old new → at < length old → get_or new at 0 ≡ get_or old at 0 → new ≡ old
torn_byte at old new torn within same =
    let long : length new ≡ length old = length-torn at 1 old new torn (omega arith) in
    ext_get_or 0 new old long
    (λ i below.
    elim (cases_lt i at) [
      | inl before ↦ torn.stays i (omega (arith, long)) (inl before)
      | inr from ↦ elim (cases_lt at i) [
        | inl behind ↦ torn.stays i (omega (arith, long)) (inr (omega arith))
        | inr to ↦ let here : at ≡ i = omega arith in subst (λ (k : ℕ). get_or new k 0 ≡ get_or old k 0) here same
      ]
    ])

-- bytes in two parts
pub bytes_at-split : (at m n : ℕ) (bytes : List ℕ) → bytes_at at (m + n) bytes ≡ bytes_at at m bytes ++ bytes_at (at + m) n bytes
bytes_at-split at m n bytes =
    take-add m n (drop at bytes) ∙ ap (λ rest. take m (drop at bytes) ++ take n rest) (drop-drop m at bytes)

-- bytes within bytes
pub bytes_at-within : (a n k m : ℕ) (bytes : List ℕ) → k + m ≤ n → bytes_at k m (bytes_at a n bytes) ≡ bytes_at (a + k) m bytes
bytes_at-within a n k m bytes within =
    let back : n ≡ k + (n - k) = omega arith in
    ap (λ j. take m (drop k (take j (drop a bytes)))) back
    ∙ ap (λ xs. take m xs) (drop-take k (n - k) (drop a bytes))
    ∙ take-take m (n - k) (drop k (drop a bytes)) (omega arith)
    ∙ ap (λ xs. take m xs) (drop-drop k a bytes)

-- two pieces, one behind the other
pub bytes_at-two : (at : ℕ) (a b old : List ℕ) → at + length a + length b ≤ length old → bytes_at at (length a + length b) (after_write (at + length a) b (after_write at a old)) ≡ a ++ b
bytes_at-two at a b old within =
    let first : List ℕ = after_write at a old in
    let long : length first ≡ length old = length-torn at (length a) old first (torn_after_write at a old) (omega arith) in
    bytes_at-split at (length a) (length b) (after_write (at + length a) b first)
    ∙ ap (λ bytes. bytes ++ bytes_at (at + length a) (length b) (after_write (at + length a) b first))
    (bytes_at-torn (at + length a) (length b) first (after_write (at + length a) b first) at (length a) (torn_after_write (at + length a) b first) (inl (omega arith)) (omega (arith, long))
    ∙ bytes_at-after_write at a old (omega arith))
    ∙ ap (λ bytes. a ++ bytes) (bytes_at-after_write (at + length a) b first (omega (arith, long)))

-- the front of what was written, up to the end of the piece
pub take-after_write : (at n : ℕ) (piece old : List ℕ) → at ≤ length old → n ≡ at + length piece → take n (after_write at piece old) ≡ take at old ++ piece
take-after_write at n piece old within end =
    take_at (take at old ++ piece) (drop (at + length piece) old) n
    (length-append (take at old) piece ∙ ap (λ k. k + length piece) (length-take-le at old within) ∙ sym end)
