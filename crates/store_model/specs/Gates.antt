-- Gates: the byte before a head or a slot that says whether it counts.
use Rattle.std.specs.Prelude.{ℕ}

-- the gate of what is open; any other byte is closed
abbrev pub OPEN : ℕ
OPEN = 165
