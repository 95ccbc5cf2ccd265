-- A disk that does not tell its bytes.
use Rattle.std.specs.Prelude.{ℕ, None}
use Rattle.ports.specs.Disk.{DiskState}

-- it has no image, and its moment need not rise
abbrev pub untold_state : (size beat faults : ℕ) → DiskState
untold_state size beat faults = record {
  size = size;
  bytes = None;
  moment = 0;
  beat = beat;
  images = λ c. ⊥;
  stops = λ b t c. ⊥;
  faults = faults;
}
