-- What dropping a store leaves of its devices.
use Rattle.std.specs.Prelude.{◌≡◌, ◌⊎◌, ℕ, ◌<◌, ◌≤◌, List, []}
use Rattle.ports.specs.Bytes.{CutShort}
use Rattle.ports.specs.Disk.{DiskState, InEveryImage, After, Continues, ContinuesUnder}
use Rattle.ports.specs.Stops.{Leaves}
use Rattle.store_model.specs.Heads.{IsShutGraph}

-- an image of a device, or a graph device that is not open
abbrev pub IsAsBeforeOrShut : DiskState → List ℕ → Type 0
IsAsBeforeOrShut start c = start.images c ⊎ IsShutGraph c

-- What a stop in beat b leaves of a graph device: what it was, or one that is not open; from the second beat on, one
-- that is not open.
pub record WhileDropped (second : ℕ) (start : DiskState) (b : ℕ) (c : List ℕ) : Type 0 where
  pub always : IsAsBeforeOrShut start c
  pub shut : second ≤ b → IsShutGraph c

-- And of a values device: what it was; from the second beat on, a front of it.
pub record WhileEmptied (second : ℕ) (start : DiskState) (b : ℕ) (c : List ℕ) : Type 0 where
  pub unwritten : b < second → start.images c
  pub front : After (CutShort 0) start c

-- nothing stands on a device, to a read and after any stop
pub record IsEmpty (disk : DiskState) : Type 0 where
  pub size : disk.size ≡ 0
  pub images : InEveryImage disk (λ c. c ≡ [])

-- What is left of a device whatever the answer: no bytes behind its old end, no later beat, no lower count.
pub record HandsBack (number : ℕ) (old new : DiskState) : Type 0 where
  pub size : new.size ≤ old.size
  pub beat : new.beat ≤ number
  pub later : Continues old new

-- the gate of a graph device is being closed
pub record Closes (number : ℕ) (old new : DiskState) : Type 0 where
  pub leaves : Leaves number old new (IsAsBeforeOrShut old)
  pub size : new.size ≡ old.size
  pub goes_on : ContinuesUnder number old new
