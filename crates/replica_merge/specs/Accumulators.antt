-- What contracts see of a worker's accumulators: with its device, one list for each partition.
use Rattle.std.specs.Prelude.{◌≡◌, ◌≢◌, ℕ, ◌+◌, ◌*◌, ◌<◌, ◌≤◌, List, replicate, Option, Some, None, slice_index_or}
use Rattle.graph_model.specs.Partitions.{part_len}
use Rattle.partitioner.specs.declared.split.Split.{Split}
use Rattle.replica_merge.specs.declared.replicas.Replicas.{Replicas}
use Rattle.replica_merge.specs.Numbers.{numbers_at}

-- the number of vertices of a partition
abbrev pub len_of : Split → ℕ → ℕ
len_of split partition = part_len split.vertices split.parts partition

abbrev pub split_of : Replicas → Split
split_of replicas = replicas.split

abbrev pub unit_of : Replicas → ℕ
unit_of replicas = replicas.unit

-- the partition that was begun last, and its accumulators in memory
abbrev pub begun_of : Replicas → ℕ
begun_of replicas = replicas.partition

abbrev pub sums_of : Replicas → List ℕ
sums_of replicas = replicas.sums.items

-- where on the device a partition was spilled to, if it was since the replicas were made or last reset
abbrev pub place_of : Replicas → ℕ → Option ℕ
place_of replicas partition = slice_index_or replicas.places.items partition None

abbrev pub accumulators_at : Option ℕ → (count unit : ℕ) → List ℕ → List ℕ
accumulators_at None count unit device = replicate count unit
accumulators_at (Some at) count unit device = numbers_at at count device

-- **The accumulators of a partition, with the device's bytes**: units, or what was spilled.
abbrev pub accumulators_of : Replicas → (device : List ℕ) → (partition : ℕ) → List ℕ
accumulators_of replicas device partition =
    accumulators_at (place_of replicas partition) (len_of replicas.split partition) replicas.unit device

-- no partition was spilled
abbrev pub IsUnspilled : Replicas → Type 0
IsUnspilled replicas = (partition : ℕ) → place_of replicas partition ≡ None

-- **What was spilled lies within a device of this size**: for each partition the eight bytes a vertex from its place on.
abbrev pub LiesWithin : Replicas → (size : ℕ) → Type 0
LiesWithin replicas size = (partition at : ℕ) → partition < replicas.split.parts → place_of replicas partition ≡ Some at →
    at + 8 * len_of replicas.split partition ≤ size

-- the accumulators of all partitions but one are as before
abbrev pub KeepsOthers : Replicas → Replicas → (partition : ℕ) → (before now : List ℕ) → Type 0
KeepsOthers old new partition before now = (other : ℕ) → other ≢ partition → other < old.split.parts →
    accumulators_of new now other ≡ accumulators_of old before other
