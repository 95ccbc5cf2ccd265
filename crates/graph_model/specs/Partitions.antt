-- The partitions: ranges of consecutive vertices, each with the engine that is its master.
use Rattle.std.specs.Prelude.{◌≡◌, ℕ, ◌+◌, ◌-◌, ◌*◌, ◌/◌, ◌%◌, ◌==◌, ◌≤◌, min, max, List, filter, flat_map, sum_by}
use Rattle.std.specs.List.{range_with_len}

-- `a / b`, rounded up
abbrev pub ceil_div : ℕ → ℕ → ℕ
ceil_div a b = (a + (b - 1)) / b

-- so many partitions are a multiple of the engines, and none has more vertices than `most`
pub record IsEnough (vertices engines most parts : ℕ) : Type 0 where
  pub turns : ℕ
  pub positive : 1 ≤ turns
  pub multiple : parts ≡ engines * turns
  pub small : ceil_div vertices parts ≤ most

-- the number of partitions is the least that is enough
pub record IsPartCount (vertices engines most parts : ℕ) : Type 0 where
  pub enough : IsEnough vertices engines most parts
  pub least : (other : ℕ) → IsEnough vertices engines most other → parts ≤ other

-- it, computed; without vertices there is one empty partition for each engine
abbrev pub part_count : ℕ → ℕ → ℕ → ℕ
part_count vertices engines most = engines * max 1 (ceil_div vertices (engines * most))

-- no job has more partitions
abbrev pub MAX_PARTS : ℕ
MAX_PARTS = 64

-- the first vertex of a partition; the one past its last is the first of the next
abbrev pub first_vertex : ℕ → ℕ → ℕ → ℕ
first_vertex vertices parts p = min (p * ceil_div vertices parts) vertices

-- the partition of a vertex
abbrev pub partition_of : ℕ → ℕ → ℕ → ℕ
partition_of vertices parts v = v / ceil_div vertices parts

-- the engine that is the master of a partition
abbrev pub master_of : ℕ → ℕ → ℕ
master_of engines p = p % engines

-- the number of vertices of a partition
abbrev pub part_len : ℕ → ℕ → ℕ → ℕ
part_len vertices parts p = first_vertex vertices parts (p + 1) - first_vertex vertices parts p

-- the vertices of a partition, in order
abbrev pub vertices_in : ℕ → ℕ → ℕ → List ℕ
vertices_in vertices parts p = range_with_len (first_vertex vertices parts p) (part_len vertices parts p)

-- the partitions below `parts` of which an engine is the master, in order
abbrev pub parts_of_master : ℕ → ℕ → ℕ → List ℕ
parts_of_master engines parts e = filter (λ p. master_of engines p == e) (range_with_len 0 parts)

-- the vertices of an engine's partitions, in order of partitions and of ids in each
abbrev pub own_vertices : ℕ → ℕ → ℕ → ℕ → List ℕ
own_vertices vertices engines parts e = flat_map (vertices_in vertices parts) (parts_of_master engines parts e)

-- their number
abbrev pub own_count : ℕ → ℕ → ℕ → ℕ → ℕ
own_count vertices engines parts e = sum_by (part_len vertices parts) (parts_of_master engines parts e)

-- the number of vertices of the partitions below p that have the master of p
abbrev pub own_before : ℕ → ℕ → ℕ → ℕ → ℕ
own_before vertices engines parts p = sum_by (part_len vertices parts) (parts_of_master engines p (master_of engines p))
