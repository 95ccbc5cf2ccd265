-- What the steps in which a store is made do to its devices.
use Rattle.std.specs.Prelude.{◌≡◌, ◌≢◌, ◌⊎◌, ℕ, ◌+◌, ◌<◌, ◌≤◌, List, [], ◌∷◌, ◌++◌, length, slice_index, slice_index_or, Some, IfSome}
use Rattle.ports.specs.Bytes.{after_write, Same}
use Rattle.ports.specs.Disk.{DiskState, InEveryImage, IsSettled}
use Rattle.ports.specs.Stops.{Leaves}
use Rattle.ports.specs.Told.{AsTold}
use Rattle.store_model.specs.Gates.{OPEN}
use Rattle.store_model.specs.Heads.{IsShutGraph}

-- where every image had P, a stop at any moment since leaves it too
abbrev pub Keeps : (P : List ℕ → Type 0) → (number : ℕ) → (old new : DiskState) → Type 0
Keeps P number old new = Leaves number old new (λ c. InEveryImage old P → P c)

-- any bytes may follow on any
abbrev pub Any : List ℕ → List ℕ → Type 0
Any before now = Unit {0}

-- the count of faults does not fall, and the device tells its bytes just where it did before
pub record IsLater (old new : DiskState) : Type 0 where
  pub faults : old.faults ≤ new.faults
  pub told : AsTold Any old.bytes new.bytes

-- Calls under the beat of this number, whatever they answer: they keep P, and the count of faults does not fall.
pub record Step (P : List ℕ → Type 0) (number : ℕ) (old new : DiskState) : Type 0 where
  pub keeps : Keeps P number old new
  pub faults : old.faults ≤ new.faults
  pub told : AsTold Any old.bytes new.bytes
  pub beat : old.beat ≤ number → new.beat ≤ number

-- nothing is asked of the bytes
abbrev pub Anything : List ℕ → Type 0
Anything bytes = Unit {0}

-- a gate that is closed, on a device that is too long to be shut by its length
pub record IsClosedFront (bytes : List ℕ) : Type 0 where
  pub long : 64 ≤ length bytes
  pub closed : slice_index bytes 0 ≢ OPEN

-- these bytes, to a read and in every image
pub record HoldsExactly (bytes : List ℕ) (disk : DiskState) : Type 0 where
  pub size : disk.size ≡ length bytes
  pub read : IfSome disk.bytes (λ told. told ≡ bytes)
  pub images : InEveryImage disk (λ c. c ≡ bytes)

-- a device whose gate is being opened: not open, or as a read gave it before, with an open gate
abbrev pub ShutOrOpened : DiskState → List ℕ → Type 0
ShutOrOpened start bytes = IsShutGraph bytes ⊎ ((read : List ℕ) × (start.bytes ≡ Some read) × (bytes ≡ after_write 0 (OPEN ∷ []) read))

-- of each device, with its number, as it was and as it is
abbrev pub EachOne : {X : Type 0} → (X → DiskState) → (ℕ → DiskState → DiskState → Type 0) → (olds news : List X) → Type 0
EachOne {X} state Q olds news = (e : ℕ) (d : X) → e < length news → Q e (state (slice_index_or olds e d)) (state (slice_index_or news e d))

-- these bytes are appended; the size is known whether or not they are told
pub record Appended (piece : List ℕ) (old new : DiskState) : Type 0 where
  pub bytes : AsTold (λ a b. b ≡ a ++ piece) old.bytes new.bytes
  pub size : new.size ≡ old.size + length piece

-- a sync that succeeded
pub record Synced (old new : DiskState) : Type 0 where
  pub bytes : AsTold Same old.bytes new.bytes
  pub size : new.size ≡ old.size
  pub settled : IsSettled new

-- A settled device whose gate was closed: at any moment it is not open, or is as before with an open gate.
pub record Opens (number : ℕ) (old new : DiskState) : Type 0 where
  pub leaves : Leaves number old new (ShutOrOpened old)
  pub faults : old.faults ≤ new.faults
  pub told : AsTold Any old.bytes new.bytes
  pub beat : old.beat ≤ number → new.beat ≤ number

-- the gate was opened, and a stop leaves what a read gives
pub record Opened (old new : DiskState) : Type 0 where
  pub bytes : AsTold (λ a b. b ≡ after_write 0 (OPEN ∷ []) a) old.bytes new.bytes
  pub size : new.size ≡ old.size
  pub settled : IsSettled new
