-- The values that apply makes of the accumulators of all workers.
use Rattle.std.specs.Prelude.{ℕ, ◌+◌, zero, suc, if◌then◌else◌, List, [], ◌∷◌, ◌++◌, length, map, take, drop}
use Rattle.std.specs.List.{range_with_len}
use Rattle.graph_model.specs.declared.value.Value.{Value}
use Rattle.graph_model.specs.Partitions.{vertices_in, parts_of_master}
use Rattle.graph_model.specs.Programs.{Rules}
use Rattle.graph_model.specs.Rounds.{merged, differs}
use Rattle.partitioner.specs.declared.split.Split.{Split}
use Rattle.replica_merge.specs.declared.replicas.Replicas.{Replicas}
use Rattle.replica_merge.specs.Merging.{sums_for}
use Rattle.store_reader.specs.Reading.{len_in}

-- for each vertex of a partition, in order, the merge of the accumulators of all workers, each once
abbrev pub sums_in : Rules → Split → List Replicas → (devices : List (List ℕ)) → (partition : ℕ) → List ℕ
sums_in rules split replicas devices partition =
    map (λ v. merged rules (sums_for replicas devices partition v)) (range_with_len 0 (len_in split partition))

-- the values of round 0 of some vertices with these counts
abbrev pub start_each : Rules → (vertices counts : List ℕ) → List Value
start_each rules (v ∷ vs) (s ∷ ss) = rules.start v (if rules.counts then s else 0) ∷ start_each rules vs ss
start_each rules (v ∷ vs) [] = []
start_each rules [] counts = []

-- the next values, with these sums
abbrev pub next_each : Rules → (values : List Value) → (sums : List ℕ) → List Value
next_each rules (x ∷ xs) (s ∷ ss) = rules.next x s ∷ next_each rules xs ss
next_each rules (x ∷ xs) [] = []
next_each rules [] sums = []

-- the values of a round in a partition; `before` are those of the round before
abbrev pub values_in : Rules → Split → (round : ℕ) → (sums : List ℕ) → (partition : ℕ) → (before : List Value) → List Value
values_in rules split zero sums partition before = start_each rules (vertices_in split.vertices split.parts partition) sums
values_in rules split (suc round) sums partition before = next_each rules before sums

-- the values of a round in some partitions, one behind the other
abbrev pub applied : Rules → Split → (round : ℕ) → (sums : ℕ → List ℕ) → (partitions : List ℕ) → (before : List Value) → List Value
applied rules split round sums [] before = []
applied rules split round sums (p ∷ ps) before =
    values_in rules split round (sums p) p (take (len_in split p) before)
    ++ applied rules split round sums ps (drop (len_in split p) before)

-- **The values of a round of an engine's vertices**, made of the accumulators of all workers.
abbrev pub applied_on : Rules → Split → (engine round : ℕ) → List Replicas → (devices : List (List ℕ)) → (before : List Value) → List Value
applied_on rules split engine round replicas devices before =
    applied rules split round (sums_in rules split replicas devices) (parts_of_master split.engines split.parts engine) before

-- at how many places two lists of values differ
abbrev pub changes : List Value → List Value → ℕ
changes (x ∷ xs) (y ∷ ys) = (if differs x y then 1 else 0) + changes xs ys
changes (x ∷ xs) [] = 0
changes [] values = 0

-- how many values a round has changed: in round 0, all
abbrev pub changed_by : (round : ℕ) → (before now : List Value) → ℕ
changed_by zero before now = length now
changed_by (suc round) before now = changes before now
