-- The values of a partition, as they were read from a slot.
use Rattle.std.proofs.Common.{◌≡◌, ℕ, ◌+◌, ◌*◌, ◌≤◌, arith}
use Rattle.graph_model.specs.declared.job.Job.{Job}
use Rattle.graph_model.specs.Jobs.{span_of}
use Rattle.graph_model.specs.Partitions.{ceil_div}
use Rattle.partitioner.specs.declared.split.Split.{Split}
use Rattle.partitioner.specs.Splits.{IsSplit, IsSplitOf}
use Rattle.store_reader.specs.Reading.{len_in}

-- a set is no longer than the rooms for it
pub set_short : (job : Job) (split : Split) (p : ℕ) → IsSplit split → IsSplitOf job split → len_in split p ≤ span_of job
set_short job split p is of_job =
    let next : (p + 1) * ceil_div split.vertices split.parts ≡ p * ceil_div split.vertices split.parts + ceil_div split.vertices split.parts = grind arith in
    omega (arith, next, is.span, of_job.span)
