-- What a write gives to a sink.
use Rattle.std.specs.Prelude.{◌≡◌, ℕ, ◌≤◌, List, ◌++◌, length, take}

abbrev pub Appends : List ℕ → List ℕ → List ℕ → Type 0
Appends bytes old new = new ≡ old ++ bytes

-- some bytes of the front of the piece are appended, perhaps none
abbrev pub AppendsFront : List ℕ → List ℕ → List ℕ → Type 0
AppendsFront piece old new = (count : ℕ) × (count ≤ length piece) × Appends (take count piece) old new
