-- The jobs that can be run: each field is in its range, and there are few enough partitions.
use Rattle.std.specs.Prelude.{◌≡◌, ℕ, ◌^◌, ◌<◌, ◌≤◌, ◌==◌, if◌then◌else◌, ⊤}
use Rattle.std.specs.Int.{IsInRange}
use Rattle.graph_model.specs.declared.job.Job.{Job}
use Rattle.graph_model.specs.declared.job.Program.{Program}
use Rattle.graph_model.specs.declared.job.Program.TheVariants.{Bfs, Labels, Sssp, Degrees, PageRank}
use Rattle.graph_model.specs.Partitions.{MAX_PARTS, ceil_div, part_count}

-- the number of a job's partitions
abbrev pub parts_of : Job → ℕ
parts_of job = part_count job.vertices job.engines job.most

-- the number of vertices of each partition but the last ones
abbrev pub span_of : Job → ℕ
span_of job = ceil_div job.vertices (parts_of job)

-- a root is a vertex, and there is a round at least
abbrev pub IsWellFormedProgram : ℕ → Program → Type 0
IsWellFormedProgram vertices (Bfs root) = root < vertices
IsWellFormedProgram vertices Labels = ⊤
IsWellFormedProgram vertices (Sssp root) = root < vertices
IsWellFormedProgram vertices Degrees = ⊤
IsWellFormedProgram vertices (PageRank rounds) = IsInRange 1 100000 rounds

-- the most vertices of a job whose store has this format
abbrev pub most_vertices : ℕ → ℕ
most_vertices format = if format == 1 then 4194304 else 67108864

-- **What every call that takes a job asks of it.**
pub record IsWellFormedJob (job : Job) : Type 0 where
  pub program : IsWellFormedProgram job.vertices job.program
  pub vertices : job.vertices ≤ most_vertices job.format
  pub engines : IsInRange 1 8 job.engines
  pub most : IsInRange 1 67108864 job.most
  pub chunk : IsInRange 1 65536 job.chunk
  pub seed : job.seed < 2 ^ 64
  pub alpha : job.alpha ≤ 10000
  pub limit : IsInRange 1 1000000 job.limit
  pub format : IsInRange 1 2 job.format
  pub keep : job.keep ≡ 1
  pub few_parts : parts_of job ≤ MAX_PARTS
