use Rattle.worker_duty.proofs.duty.drain_partition.Goals as goal

pub returns-clause-follows : goal.returns-clause-follows
returns-clause-follows g c = c.requires.acts.joins _ _ _ c.drain_engines-worked.ensures.follows c.leave_partition-is_through.ensures.goes_on
