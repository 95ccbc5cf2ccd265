-- Accumulators in memory.
use Rattle.std.specs.Prelude.{◌≡◌, ℕ, Option, Some, None, replicate}
use Rattle.replica_merge.specs.declared.replicas.Replicas.{Replicas}
use Rattle.replica_merge.specs.Accumulators.{split_of, unit_of, begun_of, sums_of, len_of}

-- the same was spilled, to the same places
pub record SameSpills (old new : Replicas) : Type 0 where
  pub split : split_of new ≡ split_of old
  pub unit : unit_of new ≡ unit_of old
  pub places : new.places ≡ old.places

-- the partition was begun, where none was
abbrev pub HasCome : (old new : Replicas) → Option ℕ → (partition : ℕ) → Type 0
HasCome old new None partition = SameSpills old new × (begun_of new ≡ partition) × (sums_of new ≡ replicate (len_of (split_of old) partition) (unit_of old))
HasCome old new (Some begun) partition = new ≡ old

-- the partition that is begun, or this one
abbrev pub begun_or : Option ℕ → ℕ → ℕ
begun_or None partition = partition
begun_or (Some begun) partition = begun
