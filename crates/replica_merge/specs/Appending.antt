-- What bytes appended to a disk, in one write or several, make of it.
use Rattle.std.specs.Prelude.{◌≡◌, ℕ, ◌+◌, ◌≤◌, List, ◌++◌, length, Result, OnOk}
use Rattle.ports.specs.Bytes.{Torn}
use Rattle.ports.specs.Disk.{DiskState, After}
use Rattle.ports.specs.Faults.{HasCause}
use Rattle.ports.specs.Stops.{Leaves}
use Rattle.ports.specs.Told.{AsTold}

-- A stop at any moment, and a failure, leaves the disk as it was, with some part of the piece written behind its end.
pub record HasAppended {T E : Type 0} (number : ℕ) (piece : List ℕ) (old new : DiskState) (result : Result T E) : Type 0 where
  pub any_moment : Leaves number old new (After (Torn old.size (length piece)) old)
  pub bytes : AsTold (Torn old.size (length piece)) old.bytes new.bytes
  pub appended : OnOk result (AsTold (λ before now. now ≡ before ++ piece) old.bytes new.bytes)
  pub grown : OnOk result (new.size ≡ old.size + length piece)
  pub no_shorter : old.size ≤ new.size
  pub no_longer : new.size ≤ old.size + length piece
  pub beat : new.beat ≤ number
  pub cause : HasCause old.faults new.faults result
