-- The job that a head says.
use Rattle.std.specs.Prelude.{◌≡◌, ℕ, List}
use Rattle.graph_model.specs.declared.job.Job.{Job}
use Rattle.store_model.specs.declared.field.Field.TheVariants.{Format, Engines, Program, Argument, Vertices, Most, Chunk, Seed, Alpha, Limit}
use Rattle.store_model.specs.Heads.{program_number, argument}
use Rattle.store_model.specs.Damage.{value_of}

-- each field of the job is what stands in the head; every checkpoint of it is durable
pub record SaysJob (head : List ℕ) (job : Job) : Type 0 where
  pub program : program_number job.program ≡ value_of Program head
  pub argument_is : argument job.program ≡ value_of Argument head
  pub vertices : job.vertices ≡ value_of Vertices head
  pub engines : job.engines ≡ value_of Engines head
  pub most : job.most ≡ value_of Most head
  pub chunk : job.chunk ≡ value_of Chunk head
  pub seed : job.seed ≡ value_of Seed head
  pub alpha : job.alpha ≡ value_of Alpha head
  pub limit : job.limit ≡ value_of Limit head
  pub format : job.format ≡ value_of Format head
  pub keep : job.keep ≡ 1
