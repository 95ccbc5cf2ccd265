-- What a write and a sync behind it make of a disk, where the write lies within it.
use Rattle.std.specs.Prelude.{◌≡◌, ℕ, List, length, Result, OnOk}
use Rattle.ports.specs.Bytes.{Torn, after_write}
use Rattle.ports.specs.Disk.{DiskState, After, IsSettled}
use Rattle.ports.specs.Faults.{HasCause}
use Rattle.ports.specs.Stops.{Leaves}
use Rattle.ports.specs.Told.{AsTold}

pub record WritesSynced {T E : Type 0} (number at : ℕ) (piece : List ℕ) (old new : DiskState) (result : Result T E) : Type 0 where
  pub any_moment : Leaves number old new (After (Torn at (length piece)) old)
  pub bytes : AsTold (Torn at (length piece)) old.bytes new.bytes
  pub settled : OnOk result (IsSettled new)
  pub written : OnOk result (AsTold (λ before now. now ≡ after_write at piece before) old.bytes new.bytes)
  pub size : new.size ≡ old.size
  pub beat : new.beat ≡ number
  pub cause : HasCause old.faults new.faults result
