-- Values that are written one behind the other.
use Rattle.std.proofs.Common.{◌≡◌, ℕ, ◌+◌, ◌*◌, ◌<◌, ◌≤◌, List, [], ◌∷◌, ◌++◌, length, take, drop, get_or, sym, ◌∙◌, ap, arith, length-append, append_assoc}
use Rattle.std.specs.Int.{to_be_bytes, w64}
use Rattle.std.proofs.lemmas.List.{take_at, drop_at, drop-drop, take_more, length-take-le, append-nil}
use Rattle.std.proofs.lemmas.Grind.{flat_map-append}
use Rattle.graph_model.specs.declared.value.Value.{Value}
use Rattle.ports.specs.Bytes.{after_write}
use Rattle.ports.proofs.Parts.{take-after_write}
use Rattle.store_model.specs.Slots.{value_bytes, values_bytes}
use Rattle.store_model.proofs.SlotLemmas.{length-value_bytes}

-- two pieces, one behind the other, as one
pub writes_join : (at : ℕ) (a b old : List ℕ) → at + length a + length b ≤ length old → after_write (at + length a) b (after_write at a old) ≡ after_write at (a ++ b) old
writes_join at a b old within =
    let m : ℕ = at + length a in
    let front : List ℕ = take at old ++ a in
    let behind : List ℕ = drop m old in
    let long : length front ≡ m = length-append (take at old) a ∙ ap (λ k. k + length a) (length-take-le at old (omega arith)) in
    let end : m + length b ≡ at + length (a ++ b) = omega (arith, length-append a b) in
    let rest : drop (m + length b) (front ++ behind) ≡ drop (at + length (a ++ b)) old =
    sym (drop-drop (length b) m (front ++ behind))
    ∙ ap (drop (length b)) (drop_at front behind m long)
    ∙ drop-drop (length b) m old
    ∙ ap (λ n. drop n old) end in
    ap (λ f. f ++ b ++ drop (m + length b) (front ++ behind)) (take_at front behind m long)
    ∙ ap (λ r. front ++ b ++ r) rest
    ∙ ap (λ f. f ++ drop (at + length (a ++ b)) old) (append_assoc (take at old) a b)

pub put_value_is : (at : ℕ) (value : Value) (old : List ℕ) → at + 16 ≤ length old →
    after_write (at + 8) (to_be_bytes w64 value.side) (after_write at (to_be_bytes w64 value.main) old) ≡ after_write at (value_bytes value) old
unfolding value_bytes
put_value_is at value old within = writes_join at (to_be_bytes w64 value.main) (to_be_bytes w64 value.side) old (omega arith)

-- a loop that writes values, one behind the other
pub put_more : (values : List Value) (bytes : List ℕ) (i : ℕ) (d : Value) → i < length values → 16 * (i + 1) ≤ length bytes →
    take (16 * i) bytes ≡ values_bytes (take i values) →
    take (16 * (i + 1)) (after_write (16 * i) (value_bytes (get_or values i d)) bytes) ≡ values_bytes (take (i + 1) values)
put_more values bytes i d below within so_far =
    let value : Value = get_or values i d in
    let end : 16 * (i + 1) ≡ 16 * i + length (value_bytes value) = omega (arith, length-value_bytes value) in
    take-after_write (16 * i) (16 * (i + 1)) (value_bytes value) bytes (omega arith) end
    ∙ ap (λ front. front ++ value_bytes value) so_far
    ∙ ap (λ rest. values_bytes (take i values) ++ rest) (sym (append-nil (value_bytes value)))
    ∙ sym (ap values_bytes (take_more values i d below) ∙ flat_map-append value_bytes (take i values) (value ∷ []))
