-- What contracts see of a file as a disk.
use Rattle.std.specs.Prelude.{ℕ}
use Rattle.ports.specs.Disk.{DiskState}
use Rattle.ports.specs.Untold.{untold_state}

pub record FileState : Type 0 where
  -- by which meters know the file
  pub number : ℕ
  pub size : ℕ
  -- the beat's number at the last write, cut or sync
  pub beat : ℕ
  -- how often one of these has failed
  pub faults : ℕ

-- A file tells no bytes.
abbrev pub untold : FileState → DiskState
untold file = untold_state file.size file.beat file.faults
