use Rattle.std.proofs.Common.{◌≡◌, ◌-◌}
use Rattle.chunk_object.specs.History.{taken_by, opened_len}
use Rattle.chunk_object.specs.Epochs.{cursor_of}
use Rattle.chunk_cursor.specs.View.{knows}
use Rattle.worker_duty.specs.Views.{taken_by_seat}
use Rattle.worker_duty.proofs.Cursors.{IsTaking}
use Rattle.worker_duty.proofs.duty.drain_cursor.Given as goal

abbrev pub invariant-chunks : goal.invariant-chunks
invariant-chunks g l = record {
  follows : g.P.Phase.follows l.context l.fn.desk l.desk;
  table : (g.P.Phase.hold l.desk).table ≡ g.P.Phase.table l.context;
  taking : IsTaking (cursor_of l.engine l.partition) (g.P.Phase.lens l.context (cursor_of l.engine l.partition)) (g.P.Phase.hold l.fn.desk).view (g.P.Phase.hold l.desk).view l.claims;
  meets : g.P.Phase.meets l.context l.desk l.partition (taken_by_seat (g.P.Phase.hold l.desk).view);
}

abbrev pub decreases-chunks : goal.decreases-chunks
decreases-chunks g l = let v = (g.P.Phase.hold l.desk).view in opened_len (cursor_of l.engine l.partition) (knows v) - taken_by v.worker (cursor_of l.engine l.partition) (knows v)
