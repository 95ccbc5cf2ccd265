-- What is said of a store's devices, where they tell their bytes; it asks nothing of those that do not.
use Rattle.std.specs.Prelude.{ℕ, ◌<◌, ◌≤◌, List, length, slice_index_or, IfSome}
use Rattle.ports.specs.Disk.{DiskState}
use Rattle.store_model.specs.Heads.{HEAD_SIZE, IsOpenGraph, IsShutGraph}

-- a graph device that has a whole head with an open gate
pub record IsOpenDevice (disk : DiskState) : Type 0 where
  pub whole : HEAD_SIZE ≤ disk.size
  pub gate : IfSome disk.bytes IsOpenGraph

-- one that has not
abbrev pub IsShutDevice : DiskState → Type 0
IsShutDevice disk = IfSome disk.bytes IsShutGraph

-- one of some devices is not open
abbrev pub SomeShut : {X : Type 0} → (X → DiskState) → List X → Type 0
SomeShut {X} state disks = (e : ℕ) × (e < length disks) × ((d : X) → IsShutDevice (state (slice_index_or disks e d)))
