-- Numbers as they are written: eight bytes each, high byte first.
use Rattle.std.specs.Prelude.{ℕ, ◌+◌, zero, suc, List, [], ◌∷◌, flat_map}
use Rattle.std.specs.Int.{to_be_bytes, from_be_bytes, w64}
use Rattle.ports.specs.Bytes.{bytes_at}

abbrev pub bytes_of_numbers : List ℕ → List ℕ
bytes_of_numbers numbers = flat_map (to_be_bytes w64) numbers

-- so many numbers, which stand from a place on
unfoldable pub numbers_at : (at count : ℕ) (bytes : List ℕ) → List ℕ
numbers_at at zero bytes = []
numbers_at at (suc count) bytes = from_be_bytes w64 (bytes_at at 8 bytes) ∷ numbers_at (at + 8) count bytes
