-- Devices that tell their bytes, and why a store was not recovered.
use Rattle.std.specs.Prelude.{◌≡◌, ℕ, ◌<◌, List, Some, length, slice_index_or, ⊤}
use Rattle.ports.specs.Disk.{DiskState}
use Rattle.store_model.specs.Kept.{device}
use Rattle.store_model.specs.Damage as damage
use Rattle.store_reader.specs.declared.store.Part.TheVariants.{Graph, Values, Lane}
use Rattle.chunk_file.specs.declared.fault.ChunkFault.{ChunkFault}
use Rattle.chunk_file.specs.declared.fault.ChunkFault.TheVariants.{DiskFault as ReadFailed, Damaged as NoChunk, Memory as NoMemory}
use Rattle.store_checks.specs.declared.fault.RecoverFault.{RecoverFault}
use Rattle.store_checks.specs.declared.fault.RecoverFault.TheVariants.{NotPrepared, EnginesDiffer, Damaged, DiskFault, Memory}

-- each of some devices tells its bytes, and these are they
pub record Tell {X : Type 0} (state : X → DiskState) (disks : List X) (bytes : List (List ℕ)) : Type 0 where
  pub many : length bytes ≡ length disks
  pub told : (e : ℕ) (d : X) → e < length disks → (state (slice_index_or disks e d)).bytes ≡ Some (device bytes e)

-- What is so where each fault is answered: of the devices' bytes it is found; a read has failed; nothing is said where
-- there was no memory.
abbrev pub HasRecoverCause : (rose : Type 0) → (IsFound : damage.Fault → Type 0) → RecoverFault → Type 0
HasRecoverCause rose IsFound NotPrepared = IsFound damage.NotPrepared
HasRecoverCause rose IsFound (EnginesDiffer held asked) = IsFound (damage.EnginesDiffer held asked)
HasRecoverCause rose IsFound (Damaged Graph engine place) = IsFound (damage.GraphDamaged engine place)
HasRecoverCause rose IsFound (Damaged Values engine place) = IsFound (damage.ValuesDamaged engine place)
HasRecoverCause rose IsFound (Damaged Lane engine place) = ⊥
HasRecoverCause rose IsFound DiskFault = rose
HasRecoverCause rose IsFound Memory = ⊤

-- what a fault of a scan of an engine's graph device is to the store
abbrev pub scan_fault : (engine : ℕ) → ChunkFault → RecoverFault
scan_fault engine ReadFailed = DiskFault
scan_fault engine (NoChunk at) = Damaged Graph engine at
scan_fault engine NoMemory = Memory
