-- What a run asks of what it is handed.
use Rattle.std.specs.Prelude.{◌≡◌, ℕ, ◌≤◌, Some}
use Rattle.graph_model.specs.Jobs.{IsWellFormedJob}
use Rattle.graph_model.specs.Programs.{Rules}
use Rattle.partitioner.specs.Splits.{IsSplit, IsSplitOf}
use Rattle.chunk_object.specs.History.{most_chunks}
use Rattle.store_reader.specs.Indexed.{lens_of}
use Rattle.round_steps.specs.declared.run.Run.{Run}

-- the most rounds of any job
abbrev pub MOST_ROUNDS : ℕ
MOST_ROUNDS = 1000000

-- a job with its split, and an index of few chunks, for a program of few rounds
pub record IsRun {R P G : Type 0} (rules : P → Rules) (run : Run R P G) : Type 0 where
  pub job : IsWellFormedJob run.job.now
  pub split : IsSplit run.split.now
  pub of_job : IsSplitOf run.job.now run.split.now
  pub few : (cursor : ℕ) → lens_of run.index.now cursor ≤ most_chunks
  pub rounds : (last : ℕ) → (rules run.program.now).rounds ≡ Some last → last ≤ MOST_ROUNDS
