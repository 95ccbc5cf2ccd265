use Rattle.std.proofs.Common.{◌∙◌}
use Rattle.worker_duty.proofs.Cursors.{begins, takes_on, drained, stopped}
use Rattle.worker_duty.proofs.duty.drain_cursor.Goals as goal

pub chunks-preserved : goal.chunks-preserved
chunks-preserved g c = record {
  follows = c.requires.acts.joins _ _ _ c.chunks.invariant.follows c.in-Took.ensures.goes_on;
  table = c.in-Took.ensures.table_is ∙ c.chunks.invariant.table;
  taking = takes_on _ _ _ _ _ _ c.chunks.invariant.taking c.in-Took.ensures.call;
  meets = c.in-Took.ensures.at (λ e. cc);
}

pub returns-in-Exhausted-clause-piece : goal.returns-in-Exhausted-clause-piece
returns-in-Exhausted-clause-piece g c = drained _ _ _ _ _ _ c.chunks.invariant.taking c.in-Exhausted.ensures.call

pub returns-in-Stopped-clause-piece : goal.returns-in-Stopped-clause-piece
returns-in-Stopped-clause-piece g c = stopped _ _ _ _ _ _ c.chunks.invariant.taking c.in-Stopped.ensures.call

pub chunks-init : goal.chunks-init
chunks-init g c = record {
  follows = c.requires.acts.stays c.args.desk.now;
  table = c.requires.table;
  taking = begins _ _ _ c.requires.ready;
  meets = c.requires.meets;
}

pub returns-in-Exhausted-clause-follows : goal.returns-in-Exhausted-clause-follows
returns-in-Exhausted-clause-follows g c = c.requires.acts.joins _ _ _ c.chunks.invariant.follows c.in-Exhausted.ensures.goes_on

pub returns-in-Stopped-clause-follows : goal.returns-in-Stopped-clause-follows
returns-in-Stopped-clause-follows g c = c.requires.acts.joins _ _ _ c.chunks.invariant.follows c.in-Stopped.ensures.goes_on
