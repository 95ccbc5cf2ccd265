-- Numbers and values, read from the bytes of a device.
use Rattle.std.proofs.Common.{◌≡◌, ◌∙◌, ◌↔◌, ℕ, ◌+◌, ◌*◌, ◌<◌, ◌^◌, List, [], ◌∷◌, ◌++◌, length, take, drop, set, flat_map, get_or, ap, sym, subst, arith, rules, nat_eq, IsTrue}
use Rattle.std.specs.Int.{to_be_bytes, w64}
use Rattle.std.specs.List.{All}
use Rattle.std.proofs.lemmas.List.Elements.{All-push}
use Rattle.std.proofs.lemmas.List.{take_more_set}
use Rattle.std.proofs.lemmas.Grind.{flat_map-append}
use Rattle.std.proofs.Math.Seq.{take-add}
use Rattle.std.proofs.lemmas.List.{append-nil, get_or-take, get_or-drop}
use Rattle.graph_model.specs.declared.value.Value.{Value}
use Rattle.ports.specs.Bytes.{bytes_at}
use Rattle.ports.proofs.Parts.{bytes_at-split, bytes_at-within}
use Rattle.store_model.specs.Slots.{slot_start, slot_numbers, number_bytes, value_bytes, values_bytes, IsOpen}
use Rattle.store_reader.specs.declared.store.SlotHead.{SlotHead}
use Rattle.store_reader.specs.Reading.{TellsHead}

-- two numbers of eight bytes, one behind the other
two_numbers : (at : ℕ) (bytes : List ℕ) (a b : ℕ) → to_be_bytes w64 a ≡ bytes_at at 8 bytes → to_be_bytes w64 b ≡ bytes_at (at + 8) 8 bytes → to_be_bytes w64 a ++ to_be_bytes w64 b ≡ bytes_at at 16 bytes
two_numbers at bytes a b first second =
    ap (λ front. front ++ to_be_bytes w64 b) first ∙ ap (λ rest. bytes_at at 8 bytes ++ rest) second ∙ sym (bytes_at-split at 8 8 bytes)

-- one value more
pub value_more : (k : ℕ) (bytes : List ℕ) (into : List Value) (value : Value) → k < length into
    → values_bytes (take k into) ≡ take (16 * k) bytes
    → to_be_bytes w64 value.main ≡ bytes_at (16 * k) 8 bytes
    → to_be_bytes w64 value.side ≡ bytes_at (16 * k + 8) 8 bytes
    → values_bytes (take (k + 1) (set into k value)) ≡ take (16 * (k + 1)) bytes
unfolding value_bytes
value_more k bytes into value within so_far main side =
    let piece : value_bytes value ≡ bytes_at (16 * k) 16 bytes = two_numbers (16 * k) bytes value.main value.side main side in
    let long : 16 * (k + 1) ≡ 16 * k + 16 = omega arith in
    let none : value_bytes value ++ [] ≡ value_bytes value = append-nil (value_bytes value) in
    ap values_bytes (take_more_set into k value within)
    ∙ flat_map-append value_bytes (take k into) (value ∷ [])
    ∙ ap (λ front. front ++ flat_map value_bytes (value ∷ [])) so_far
    ∙ ap (λ rest. take (16 * k) bytes ++ rest) (none ∙ piece)
    ∙ sym (take-add (16 * k) 16 bytes)
    ∙ ap (λ n. take n bytes) (sym long)

-- the numbers of each value that was read are below 2^64
abbrev pub HasRoom : Value → Type 0
HasRoom value = (value.main < 2 ^ 64) × (value.side < 2 ^ 64)

pub held_more : (k : ℕ) (into : List Value) (value : Value) → k < length into → HasRoom value
    → All HasRoom (take k into) → All HasRoom (take (k + 1) (set into k value))
held_more k into value within room so_far =
    subst (All HasRoom) (sym (take_more_set into k value within)) (All-push HasRoom (take k into) value so_far room)

-- the head of a slot
pub tells_head : (own slot at : ℕ) (read bytes : List ℕ) (head : SlotHead) → at ≡ slot_start own slot → read ≡ bytes_at at 24 bytes
    → head.is_open ≡ nat_eq (get_or read 0 0) 165
    → to_be_bytes w64 head.round ≡ bytes_at 8 8 read
    → to_be_bytes w64 head.changed ≡ bytes_at 16 8 read
    → TellsHead own slot head bytes
tells_head own slot at read bytes head place is_read gate round changed =
    let first : get_or read 0 0 ≡ get_or bytes (slot_start own slot) 0 =
    ap (λ xs. get_or xs 0 0) is_read ∙ get_or-take 24 (drop at bytes) 0 0 (omega arith) ∙ get_or-drop at bytes 0 0 ∙ ap (λ n. get_or bytes n 0) (plus_zero at ∙ place) in
    let numbers : number_bytes head.round head.changed ≡ bytes_at 8 16 read = two_numbers 8 read head.round head.changed round changed in
    let here : bytes_at 8 16 read ≡ slot_numbers own slot bytes =
    ap (λ xs. bytes_at 8 16 xs) is_read ∙ bytes_at-within at 24 8 16 bytes (omega arith) ∙ ap (λ n. bytes_at (n + 8) 16 bytes) place in
    record {
      gate = subst (λ b. IsTrue b ↔ IsOpen own slot bytes) (sym (gate ∙ ap (λ n. nat_eq n 165) first)) (search rules);
      numbers = sym (numbers ∙ here);
    }
  where
    plus_zero : (n : ℕ) → n + 0 ≡ n
    plus_zero n = omega arith
