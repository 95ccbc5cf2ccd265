use Rattle.std.proofs.Common.{◌≡◌, ℕ, ◌*◌, ◌<◌, ◌≤◌, true}
use Rattle.chunk_object.specs.Epochs.{cursor_of}
use Rattle.chunk_object.specs.Duty.{claims_at, EndsExhausted}
use Rattle.worker_duty.specs.Views.{taken_by_seat, IsReady}
use Rattle.worker_duty.proofs.Parts.{PartTo}
use Rattle.worker_duty.proofs.duty.drain_engines.Given as goal

abbrev pub invariant-engines : goal.invariant-engines
invariant-engines g l = record {
  follows : g.P.Phase.follows l.context l.fn.desk l.desk;
  table : (g.P.Phase.hold l.desk).table ≡ (g.P.Phase.hold l.fn.desk).table;
  part : PartTo (λ engine. claims_at (cursor_of engine l.partition)) (λ engine. true) (λ engine. EndsExhausted) l.engine (g.P.Phase.hold l.fn.desk).view (g.P.Phase.hold l.desk).view true l.claims 0;
  ready : (e : ℕ) → l.engine ≤ e → e < l.engines → IsReady (g.P.Phase.hold l.desk).view (cursor_of e l.partition) (g.P.Phase.lens l.context (cursor_of e l.partition));
  meets : g.P.Phase.meets l.context l.desk l.partition (taken_by_seat (g.P.Phase.hold l.desk).view);
  few : l.claims ≤ l.engine * 2147483648;
}
