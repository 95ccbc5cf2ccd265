-- The values of a round of all vertices, in order of ids, and what stands of them on the values device of an engine.
use Rattle.std.specs.Prelude.{◌≡◌, ℕ, ◌+◌, ◌<◌, ◌≤◌, zero, suc, if◌then◌else◌, List, length, map, count_by, Option, Some}
use Rattle.graph_model.specs.declared.value.Value.{Value}
use Rattle.graph_model.specs.Partitions.{first_vertex, own_vertices}
use Rattle.graph_model.specs.Programs.{Rules}
use Rattle.graph_model.specs.Rounds.{merged, of_vertices, value_at, has_changed}
use Rattle.partitioner.specs.declared.split.Split.{Split}
use Rattle.ports.specs.Disk.{DiskState, InEveryImage}
use Rattle.ports.specs.Stops.{Leaves}
use Rattle.replica_merge.specs.declared.replicas.Replicas.{Replicas}
use Rattle.replica_merge.specs.Merging.{sums_for}
use Rattle.store_model.specs.Kept.{values_of}
use Rattle.store_model.specs.Slots.{slot_of, slot_values, values_bytes, HoldsRound}
use Rattle.store_reader.specs.Reading.{own_in, len_in}
use Rattle.checkpoint.specs.Storing.{WhileStoring}

-- **The values of a round, made of a number for each vertex.** `before` are those of the round before.
abbrev pub made : Rules → (vertices round : ℕ) → (numbers : ℕ → ℕ) → (before : List Value) → List Value
made rules vertices zero numbers before = of_vertices vertices (λ v. rules.start v (if rules.counts then numbers v else 0))
made rules vertices (suc round) numbers before = of_vertices vertices (λ v. rules.next (value_at before v) (numbers v))

-- how many of some vertices have another value than before; in round 0, all
abbrev pub changed_among : (round : ℕ) → (before now : List Value) → (vertices : List ℕ) → ℕ
changed_among zero before now vertices = length vertices
changed_among (suc round) before now vertices = count_by (has_changed before now) vertices

-- the vertices of an engine's partitions, and their values
abbrev pub own_by : Split → (engine : ℕ) → List ℕ
own_by split engine = own_vertices split.vertices split.engines split.parts engine

abbrev pub share_of : Split → (engine : ℕ) → List Value → List Value
share_of split engine all = values_of (own_by split engine) all

-- The numbers are the merges of the accumulators of all workers, whose devices tell these bytes.
pub record AreMerged (rules : Rules) (split : Split) (replicas : List Replicas) (spills : List (Option (List ℕ))) (numbers : ℕ → ℕ) : Type 0 where
  pub devices : List (List ℕ)
  pub told : spills ≡ map (λ device. Some device) devices
  pub are : (partition place : ℕ) → partition < split.parts → place < len_in split partition →
      merged rules (sums_for replicas devices partition place) ≡ numbers (first_vertex split.vertices split.parts partition + place)

-- The values device of an engine tells its bytes, and in a round after the first the values before stand in a slot.
pub record ShareStands (split : Split) (slot round : ℕ) (before : List Value) (engine : ℕ) (bytes : Option (List ℕ)) : Type 0 where
  pub read : List ℕ
  pub told : bytes ≡ Some read
  pub stand : 1 ≤ round → slot_values (own_in split engine) slot read ≡ values_bytes (share_of split engine before)

-- What a stop leaves of the values device of an engine, while its share of a round is stored.
abbrev pub LeavesShare : Split → (round number : ℕ) → (before now : List Value) → (engine : ℕ) → (old new : DiskState) → Type 0
LeavesShare split round number before now engine old new =
    Leaves number old new (WhileStoring (own_in split engine) (slot_of round) round (changed_among round before now (own_by split engine)) (share_of split engine now) old)

-- Its share stands in the round's slot.
abbrev pub HoldsShare : Split → (round : ℕ) → (before now : List Value) → (engine : ℕ) → DiskState → Type 0
HoldsShare split round before now engine disk =
    InEveryImage disk (HoldsRound (own_in split engine) (slot_of round) round (changed_among round before now (own_by split engine)) (share_of split engine now))
