-- A write over bytes that were made long enough by zero bytes.
use Rattle.std.proofs.Common.{◌≡◌, ℕ, ◌+◌, ◌-◌, ◌<◌, ◌≤◌, inl, inr, List, ◌++◌, length, take, drop, replicate, arith, sym, subst, ◌∙◌, ap}
use Rattle.std.proofs.lemmas.Bool.{cases_lt}
use Rattle.std.proofs.lemmas.List.{take_all, take_at, take-append-le, drop_all, append-nil, append_assoc, length-append, length-drop, length-replicate, replicate-append-replicate, get_or_append_left, get_or-take}
use Rattle.ports.specs.Bytes.{after_write, Torn}
use Rattle.ports.proofs.Parts.{torn_after_write}
use Rattle.mem_devices.specs.Bytes.{overlay}

drop-grown : (end : ℕ) (bytes : List ℕ) → drop end (bytes ++ replicate (end - length bytes) 0) ≡ drop end bytes
drop-grown end bytes =
    let zeros : List ℕ = replicate (end - length bytes) 0 in
    let long : length (bytes ++ zeros) ≡ length bytes + (end - length bytes) = simp (length-append, length-replicate) in
    elim (cases_lt (length bytes) end) [
      | inl short ↦ drop_all end (bytes ++ zeros) (omega (arith, long)) ∙ sym (drop_all end bytes (omega arith))
      | inr enough ↦
          let none : end - length bytes ≡ 0 = omega arith in
          ap (λ n. drop end (bytes ++ replicate n 0)) none ∙ ap (λ xs. drop end xs) (append-nil bytes)
    ]

take-padded : (at gap more : ℕ) (bytes : List ℕ) → length bytes + gap ≡ at → take at (bytes ++ replicate (gap + more) 0) ≡ bytes ++ replicate gap 0
take-padded at gap more bytes there =
    let long : length (bytes ++ replicate gap 0) ≡ at = length-append bytes (replicate gap 0) ∙ ap (λ n. length bytes + n) (length-replicate gap 0) ∙ there in
    ap (λ xs. take at (bytes ++ xs)) (sym (replicate-append-replicate gap more 0))
    ∙ ap (λ xs. take at xs) (sym (append_assoc bytes (replicate gap 0) (replicate more 0)))
    ∙ take_at (bytes ++ replicate gap 0) (replicate more 0) at long

take-grown : (at end : ℕ) (bytes : List ℕ) → at ≤ end → take at (bytes ++ replicate (end - length bytes) 0) ≡ take at bytes ++ replicate (at - length bytes) 0
take-grown at end bytes within =
    elim (cases_lt at (length bytes)) [
      | inl inside ↦
          let none : at - length bytes ≡ 0 = omega arith in
          let there : at ≤ length bytes = omega arith in
          take-append-le at bytes (replicate (end - length bytes) 0) there
          ∙ sym (ap (λ n. take at bytes ++ replicate n 0) none ∙ append-nil (take at bytes))
      | inr past ↦
          let split : end - length bytes ≡ at - length bytes + (end - at) = omega arith in
          ap (λ n. take at (bytes ++ replicate n 0)) split
          ∙ take-padded at (at - length bytes) (end - at) bytes (omega arith)
          ∙ ap (λ xs. xs ++ replicate (at - length bytes) 0) (sym (take_all at bytes past))
    ]

pub after_write-grown : (at : ℕ) (piece bytes : List ℕ) → after_write at piece (bytes ++ replicate (at + length piece - length bytes) 0) ≡ overlay at piece bytes
after_write-grown at piece bytes =
    let end : ℕ = at + length piece in
    ap (λ xs. xs ++ piece ++ drop end (bytes ++ replicate (end - length bytes) 0)) (take-grown at end bytes (omega arith))
    ∙ ap (λ xs. take at bytes ++ replicate (at - length bytes) 0 ++ piece ++ xs) (drop-grown end bytes)

-- a write within the bytes or at their end
pub overlay-within : (at : ℕ) (piece bytes : List ℕ) → at ≤ length bytes → overlay at piece bytes ≡ after_write at piece bytes
overlay-within at piece bytes within =
    let none : at - length bytes ≡ 0 = omega arith in
    ap (λ n. take at bytes ++ replicate n 0 ++ piece ++ drop (at + length piece) bytes) none
    ∙ ap (λ xs. xs ++ piece ++ drop (at + length piece) bytes) (append-nil (take at bytes))

-- one way to do it in part is to do it as a whole
pub torn_overlay : (at : ℕ) (piece bytes : List ℕ) → Torn at (length piece) bytes (overlay at piece bytes)
torn_overlay at piece bytes =
    elim (cases_lt (length bytes) at) [
      | inl past ↦
          let front : List ℕ = take at bytes ++ replicate (at - length bytes) 0 ++ piece in
          let rest : List ℕ = drop (at + length piece) bytes in
          let kept : length (take at bytes) ≡ length bytes = ap length (take_all at bytes (omega arith)) in
          let long : length front ≡ length bytes + (at - length bytes) + length piece =
          simp (length-append, length-replicate) (ap (λ n. n + (at - length bytes) + length piece) kept) in
          let whole : length (overlay at piece bytes) ≡ at + length piece =
          length-append front rest ∙ ap (λ n. length front + n) (length-drop (at + length piece) bytes) ∙ omega (arith, long) in
          record {
            no_shorter = omega (arith, whole);
            no_longer = omega (arith, whole);
            stays = λ i within outside.
                let here : i < length (take at bytes) = omega (arith, kept) in
                let here' : i < length (take at bytes ++ replicate (at - length bytes) 0) = omega (arith, here, length-append (take at bytes) (replicate (at - length bytes) 0)) in
                let here'' : i < length front = omega (arith, long) in
                get_or_append_left front rest 0 i here''
                ∙ get_or_append_left (take at bytes ++ replicate (at - length bytes) 0) piece 0 i here'
                ∙ get_or_append_left (take at bytes) (replicate (at - length bytes) 0) 0 i here
                ∙ get_or-take at bytes i 0 (omega arith);
          }
      | inr inside ↦ subst (Torn at (length piece) bytes) (sym (overlay-within at piece bytes inside)) (torn_after_write at piece bytes)
    ]
