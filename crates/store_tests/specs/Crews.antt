-- Workers' accumulators, each with its device.
use Rattle.std.specs.Prelude.{◌≡◌, ℕ, ◌<◌, List, length, slice_index_or}
use Rattle.std.specs.List.{All}
use Rattle.mem_devices.specs.declared.disk.MemDisk.{MemDisk}
use Rattle.mem_devices.specs.MemDisk.{disk_state}
use Rattle.partitioner.specs.declared.split.Split.{Split}
use Rattle.replica_merge.specs.declared.replicas.Replicas.{Replicas}
use Rattle.replica_merge.specs.Accumulators.{split_of, LiesWithin}

-- the replicas are of this split, and what each has spilled lies within its device
pub record AreOfSplit (split : Split) (replicas : List Replicas) (spills : List MemDisk) : Type 0 where
  pub splits : All (λ r. split_of r ≡ split) replicas
  pub each : length spills ≡ length replicas
  pub within : (w : ℕ) (r : Replicas) (d : MemDisk) → w < length replicas → LiesWithin (slice_index_or replicas w r) (disk_state (slice_index_or spills w d)).size
