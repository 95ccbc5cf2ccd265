-- The merge over the accumulators of all workers.
use Rattle.std.specs.Prelude.{◌≡◌, ℕ, ◌+◌, ◌*◌, ◌/◌, ◌<◌, ◌≤◌, ◌⊎◌, List, [], ◌∷◌, length, slice_index}
use Rattle.std.specs.Int.{from_be_bytes, w64}
use Rattle.graph_model.specs.Programs.{Rules}
use Rattle.graph_model.specs.Rounds.{merged}
use Rattle.ports.specs.Bytes.{bytes_at}
use Rattle.replica_merge.specs.declared.replicas.Replicas.{Replicas}
use Rattle.replica_merge.specs.Accumulators.{accumulators_of}

-- what each worker has for the v-th vertex of a partition, worker by worker
abbrev pub sums_for : List Replicas → (devices : List (List ℕ)) → (partition v : ℕ) → List ℕ
sums_for (replicas ∷ others) (device ∷ devices) partition v =
    slice_index (accumulators_of replicas device partition) v ∷ sums_for others devices partition v
sums_for (replicas ∷ others) [] partition v = []
sums_for [] devices partition v = []

-- **For each vertex of a partition, in order, the merge over all workers, each once.**
abbrev pub MergesAll : Rules → List Replicas → (devices : List (List ℕ)) → (partition : ℕ) → List ℕ → Type 0
MergesAll rules replicas devices partition into = (v : ℕ) → v < length into →
    slice_index into v ≡ merged rules (sums_for replicas devices partition v)

-- each sum was merged with one number more
abbrev pub MergesOne : Rules → (numbers : List ℕ) → List ℕ → List ℕ → Type 0
MergesOne rules numbers old new = (v : ℕ) → v < length old →
    slice_index new v ≡ rules.merge (slice_index old v) (slice_index numbers v)

-- the sums from a place on were merged with the numbers that these bytes are, and the others are as before
pub record MergesFrom (rules : Rules) (done : ℕ) (bytes old new : List ℕ) : Type 0 where
  pub here : (k : ℕ) → k < length bytes / 8 →
      slice_index new (done + k) ≡ rules.merge (slice_index old (done + k)) (from_be_bytes w64 (bytes_at (8 * k) 8 bytes))
  pub elsewhere : (v : ℕ) → (v < done) ⊎ (done + length bytes / 8 ≤ v) → slice_index new v ≡ slice_index old v
