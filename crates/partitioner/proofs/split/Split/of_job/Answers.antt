-- A well-formed job has a split.
use Rattle.std.proofs.Common.{◌<◌, arith}
use Rattle.graph_model.specs.Jobs.{parts_of}
use Rattle.graph_model.proofs.SplitLemmas.{part_count_is}
use Rattle.partitioner.proofs.Made.{made-of_job, split_is}
use Rattle.partitioner.proofs.split.Split.of_job.Goals as goal

pub unreachable-requires : goal.unreachable-requires
unreachable-requires c =
    let job = c.args.job.now in
    let more : 64 < parts_of job = c.in-None.ensures.none (parts_of job) (part_count_is job.vertices job.engines job.most c.requires.engines.0 c.requires.most.0) in
    omega (arith, more, c.requires.few_parts)

pub returns-clause-of_job : goal.returns-clause-of_job
returns-clause-of_job c = made-of_job c.args.job.now c.in-Some.split c.requires c.in-Some.ensures.by

pub returns-clause-same : goal.returns-clause-same
returns-clause-same c = split_is c.args.job.now c.in-Some.split (returns-clause-of_job c)
