-- What a worker has gathered so far.
use Rattle.std.specs.Prelude.{◌≡◌, ◌≢◌, ℕ, ◌*◌, ◌/◌, ◌%◌, ◌<◌, ◌≤◌, ◌==◌, if◌then◌else◌, Option, Some, None, List, [], ◌∷◌, filter, length}
use Rattle.std.specs.List.{All}
use Rattle.graph_model.specs.declared.value.Update.{Update}
use Rattle.graph_model.specs.Partitions.{first_vertex}
use Rattle.partitioner.specs.declared.split.Split.{Split}
use Rattle.chunk_object.specs.History.{total}
use Rattle.phase_model.specs.Taken.{records_of}
use Rattle.phase_model.specs.Sums.{sum_at, sums_over}
use Rattle.worker_duty.specs.Views.{NoneOf}
use Rattle.replica_merge.specs.declared.replicas.Replicas.{Replicas}
use Rattle.replica_merge.specs.Accumulators.{split_of, unit_of, begun_of, sums_of, len_of, accumulators_of, LiesWithin}

-- How a worker sums: how a sum takes in a number, from what it starts, and how the vertices are split
pub record Adding : Type 0 where
  pub add : ℕ → ℕ → ℕ
  pub unit : ℕ
  pub split : Split

-- the sums of a partition's vertices over these updates
abbrev pub partition_sums : Adding → List Update → (partition : ℕ) → List ℕ
partition_sums a updates partition = sums_over (sum_at a.add a.unit updates) (first_vertex a.split.vertices a.split.parts partition) (len_of a.split partition)

-- the chunks of a partition
abbrev pub of_partition : ℕ → List (ℕ × ℕ) → List (ℕ × ℕ)
of_partition partition chunks = filter (λ (chunk : ℕ × ℕ). chunk.0 % 64 == partition) chunks

-- a number, where there is a chunk, else 0
abbrev pub len_where : ℕ → List (ℕ × ℕ) → ℕ
len_where len [] = 0
len_where len (chunk ∷ chunks) = len

-- the vertices of a partition, where a chunk of it was taken, else 0
abbrev pub touched_len : Split → List (ℕ × ℕ) → ℕ → ℕ
touched_len split chunks partition = len_where (len_of split partition) (of_partition partition chunks)

-- the vertices of the partitions of which chunks were taken, but for one
abbrev pub touched_but : Split → List (ℕ × ℕ) → ℕ → ℕ
touched_but split chunks partition = total split.parts (λ q. if q == partition then 0 else touched_len split chunks q)

-- of all of them
abbrev pub touched : Split → List (ℕ × ℕ) → ℕ
touched split chunks = total split.parts (touched_len split chunks)

-- the chunk is one of those with which the cursors were opened
pub record IsOf (engines parts : ℕ) (lens : ℕ → ℕ) (chunk : ℕ × ℕ) : Type 0 where
  pub engine : chunk.0 / 64 < engines
  pub partition : chunk.0 % 64 < parts
  pub place : chunk.1 < lens chunk.0

module _ (a : Adding) (engines : ℕ) (lens : ℕ → ℕ) (Described : (ℕ → ℕ → List Update) → Type 0) where
  -- with the device, the accumulators of a partition are the sums over its chunks, whatever updates the devices tell there
  abbrev pub KeepsSums : (told : Option (List ℕ)) → Replicas → (chunks : List (ℕ × ℕ)) → (partition : ℕ) → Type 0
  KeepsSums told replicas chunks partition =
      (items : ℕ → ℕ → List Update) → Described items → (device : List ℕ) → told ≡ Some device → accumulators_of replicas device partition ≡ partition_sums a (records_of items (of_partition partition chunks)) partition

  -- nothing is in memory that is not on the device
  pub record Rests (told : Option (List ℕ)) (size beat number : ℕ) (replicas : Replicas) (begun : Option ℕ) (chunks : List (ℕ × ℕ)) : Type 0 where
    pub idle : begun ≡ None
    pub split : split_of replicas ≡ a.split
    pub unit : unit_of replicas ≡ a.unit
    pub within : LiesWithin replicas size
    pub width : size ≡ 8 * touched a.split chunks
    pub in_time : beat ≤ number
    pub known : All (IsOf engines a.split.parts lens) chunks
    pub sums : (q : ℕ) → q < a.split.parts → KeepsSums told replicas chunks q

  -- a partition that is begun is in memory, and else no chunk of it was taken
  abbrev pub StandsHere : (told : Option (List ℕ)) → Replicas → Option ℕ → (chunks : List (ℕ × ℕ)) → (partition : ℕ) → Type 0
  StandsHere told replicas None chunks partition = NoneOf partition chunks × KeepsSums told replicas chunks partition
  StandsHere told replicas (Some begun) chunks partition =
      (begun ≡ partition) × (begun_of replicas ≡ partition) × ((length (of_partition partition chunks) ≡ 0) → ⊥)
      × ((items : ℕ → ℕ → List Update) → Described items → sums_of replicas ≡ partition_sums a (records_of items (of_partition partition chunks)) partition)

  -- the worker is at a partition
  pub record Meets (told : Option (List ℕ)) (size beat number : ℕ) (replicas : Replicas) (begun : Option ℕ) (chunks : List (ℕ × ℕ)) (partition : ℕ) : Type 0 where
    pub split : split_of replicas ≡ a.split
    pub unit : unit_of replicas ≡ a.unit
    pub within : LiesWithin replicas size
    pub width : size ≡ 8 * touched_but a.split chunks partition
    pub in_time : beat ≤ number
    pub known : All (IsOf engines a.split.parts lens) chunks
    pub sums : (q : ℕ) → q < a.split.parts → q ≢ partition → KeepsSums told replicas chunks q
    pub here : StandsHere told replicas begun chunks partition
