-- The splits that `Split::of` answers.
use Rattle.std.specs.Prelude.{◌≡◌, ℕ, ◌^◌, ◌<◌, ◌≤◌, max, sum_by}
use Rattle.std.specs.Int.{IsInRange}
use Rattle.graph_model.specs.declared.job.Job.{Job}
use Rattle.graph_model.specs.Partitions.{IsPartCount, MAX_PARTS, ceil_div, part_count, part_len, parts_of_master}
use Rattle.graph_model.specs.Jobs.{parts_of, span_of}
use Rattle.partitioner.specs.declared.split.Split.{Split}

-- the split of so many vertices over these engines, with at most `most` vertices in a partition
pub record IsSplitBy (vertices engines most : ℕ) (split : Split) : Type 0 where
  pub all_vertices : split.vertices ≡ vertices
  pub all_engines : split.engines ≡ engines
  pub parts : IsPartCount vertices engines most split.parts
  pub few : split.parts ≤ MAX_PARTS
  pub span : split.span ≡ ceil_div vertices split.parts

-- the number of partitions is too large for a split
abbrev pub NeedsTooMany : ℕ → ℕ → ℕ → Type 0
NeedsTooMany vertices engines most = (parts : ℕ) → IsPartCount vertices engines most parts → MAX_PARTS < parts

-- **What every call that is handed a split asks of it:** it is one that `Split::of` answers. The most vertices of a
-- partition are not kept, and need not be: the split's own span, or 1, asks for the same partitions.
pub record IsSplit (split : Split) : Type 0 where
  pub vertices : split.vertices < 2 ^ 32
  pub engines : IsInRange 1 8 split.engines
  pub parts : split.parts ≡ part_count split.vertices split.engines (max 1 split.span)
  pub few : split.parts ≤ MAX_PARTS
  pub span : split.span ≡ ceil_div split.vertices split.parts

-- the split of a job
pub record IsSplitOf (job : Job) (split : Split) : Type 0 where
  pub vertices : split.vertices ≡ job.vertices
  pub engines : split.engines ≡ job.engines
  pub parts : split.parts ≡ parts_of job
  pub span : split.span ≡ span_of job

-- that split itself
abbrev pub split_for : Job → Split
split_for job = record { vertices = job.vertices; engines = job.engines; parts = parts_of job; span = span_of job }

-- the number of vertices of the partitions below this one that have this engine as their master
abbrev pub own_below : (vertices engines parts partition engine : ℕ) → ℕ
own_below vertices engines parts partition engine = sum_by (part_len vertices parts) (parts_of_master engines partition engine)
