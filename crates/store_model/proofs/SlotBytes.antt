-- What stands in a slot depends on the bytes of the slot alone.
use Rattle.std.proofs.Common.{◌≡◌, ℕ, ◌+◌, ◌*◌, List, drop, get_or, sym, ◌∙◌, ap, arith}
use Rattle.std.proofs.lemmas.List.{get_or-take, get_or-drop}
use Rattle.graph_model.specs.declared.value.Value.{Value}
use Rattle.ports.specs.Bytes.{bytes_at}
use Rattle.ports.proofs.Parts.{bytes_at-within}
use Rattle.store_model.specs.Slots.{slot_size, slot_start, slot_bytes, slot_numbers, slot_values, IsClosed, HoldsRound}

module _ (own slot : ℕ) where
  gate_in : (bytes : List ℕ) → get_or (slot_bytes own slot bytes) 0 0 ≡ get_or bytes (slot_start own slot) 0
  gate_in bytes =
      let here : slot_start own slot + 0 ≡ slot_start own slot = omega arith in
      get_or-take (slot_size own) (drop (slot_start own slot) bytes) 0 0 (omega arith) ∙ get_or-drop (slot_start own slot) bytes 0 0 ∙ ap (λ n. get_or bytes n 0) here

  numbers_in : (bytes : List ℕ) → bytes_at 8 16 (slot_bytes own slot bytes) ≡ slot_numbers own slot bytes
  numbers_in bytes = bytes_at-within (slot_start own slot) (slot_size own) 8 16 bytes (omega arith)

  values_in : (bytes : List ℕ) → bytes_at 24 (16 * own) (slot_bytes own slot bytes) ≡ slot_values own slot bytes
  values_in bytes = bytes_at-within (slot_start own slot) (slot_size own) 24 (16 * own) bytes (omega arith)

  module _ (a b : List ℕ) (same : slot_bytes own slot b ≡ slot_bytes own slot a) where
    same_gate : get_or b (slot_start own slot) 0 ≡ get_or a (slot_start own slot) 0
    same_gate = sym (gate_in b) ∙ ap (λ bytes. get_or bytes 0 0) same ∙ gate_in a

    pub same_values : slot_values own slot b ≡ slot_values own slot a
    same_values = sym (values_in b) ∙ ap (bytes_at 24 (16 * own)) same ∙ values_in a

    pub closed_still : IsClosed own slot a → IsClosed own slot b
    closed_still closed = λ is_open. closed (sym same_gate ∙ is_open)

    pub held_still : (round changed : ℕ) (values : List Value) → HoldsRound own slot round changed values a → HoldsRound own slot round changed values b
    held_still round changed values holds = record {
      is_open = same_gate ∙ holds.is_open;
      numbers = sym (numbers_in b) ∙ ap (bytes_at 8 16) same ∙ numbers_in a ∙ holds.numbers;
      values_are = same_values ∙ holds.values_are;
    }
