-- A disk that does not tell its bytes is a disk.
use Rattle.std.proofs.Common.{ℕ}
use Rattle.ports.specs.Disk.{IsDisk}
use Rattle.ports.specs.Untold.{untold_state}

pub untold_is_disk : (size beat faults : ℕ) → IsDisk (untold_state size beat faults)
untold_is_disk size beat faults = record {
  sized = tt;
  present = tt;
  told = λ c image. absurd image;
  counts_now = λ b t c later before image. absurd image;
  only_now = λ b c stop. absurd stop;
  later_beats = λ b t c later stop. absurd stop;
}
