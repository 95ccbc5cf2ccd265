-- The values device of an engine: two slots, each with the values of the engine's vertices in a round. `own` is the
-- number of these vertices.
use Rattle.std.specs.Prelude.{◌≡◌, ◌≢◌, ℕ, ◌+◌, ◌*◌, ◌%◌, List, ◌++◌, length, flat_map, slice_index}
use Rattle.std.specs.Int.{to_be_bytes, w64}
use Rattle.graph_model.specs.declared.value.Value.{Value}
use Rattle.ports.specs.Bytes.{bytes_at}
use Rattle.store_model.specs.Gates.{OPEN}

-- a gate and seven bytes that are not read, the round, and how many values changed in it; 16 bytes a vertex
abbrev pub slot_size : ℕ → ℕ
slot_size own = 24 + 16 * own

abbrev pub slot_start : ℕ → ℕ → ℕ
slot_start own slot = slot * slot_size own

abbrev pub device_size : ℕ → ℕ
device_size own = 2 * slot_size own

-- the slot of a round
abbrev pub slot_of : ℕ → ℕ
slot_of round = round % 2

-- What stands in a slot.
abbrev pub slot_bytes : ℕ → ℕ → List ℕ → List ℕ
slot_bytes own slot bytes = bytes_at (slot_start own slot) (slot_size own) bytes

abbrev pub slot_gate : ℕ → ℕ → List ℕ → ℕ
slot_gate own slot bytes = slice_index bytes (slot_start own slot)

-- the round and the number of changed values
abbrev pub slot_numbers : ℕ → ℕ → List ℕ → List ℕ
slot_numbers own slot bytes = bytes_at (slot_start own slot + 8) 16 bytes

abbrev pub slot_values : ℕ → ℕ → List ℕ → List ℕ
slot_values own slot bytes = bytes_at (slot_start own slot + 24) (16 * own) bytes

-- of these, the values of so many vertices, of which so many stand before them
abbrev pub set_start : ℕ → ℕ → ℕ → ℕ
set_start own slot before = slot_start own slot + 24 + 16 * before

abbrev pub set_bytes : ℕ → ℕ → ℕ → ℕ → List ℕ → List ℕ
set_bytes own slot before count bytes = bytes_at (set_start own slot before) (16 * count) bytes

abbrev pub IsOpen : ℕ → ℕ → List ℕ → Type 0
IsOpen own slot bytes = slot_gate own slot bytes ≡ OPEN

abbrev pub IsClosed : ℕ → ℕ → List ℕ → Type 0
IsClosed own slot bytes = slot_gate own slot bytes ≢ OPEN

-- How numbers and values are written.
abbrev pub number_bytes : (round changed : ℕ) → List ℕ
number_bytes round changed = to_be_bytes w64 round ++ to_be_bytes w64 changed

unfoldable pub value_bytes : Value → List ℕ
value_bytes value = to_be_bytes w64 value.main ++ to_be_bytes w64 value.side

abbrev pub values_bytes : List Value → List ℕ
values_bytes values = flat_map value_bytes values

-- **A slot is open, with this round, so many changed values, and these values.**
pub record HoldsRound (own slot round changed : ℕ) (values : List Value) (bytes : List ℕ) : Type 0 where
  pub is_open : IsOpen own slot bytes
  pub numbers : slot_numbers own slot bytes ≡ number_bytes round changed
  pub values_are : slot_values own slot bytes ≡ values_bytes values

-- a device of the exact size, both of whose slots are closed
pub record IsBlank (own : ℕ) (bytes : List ℕ) : Type 0 where
  pub exact : length bytes ≡ device_size own
  pub first : IsClosed own 0 bytes
  pub second : IsClosed own 1 bytes
