use Rattle.std.proofs.Common.{◌≡◌, ◌≢◌, ℕ, ◌*◌, ◌%◌, ◌<◌, ◌≤◌, true, not}
use Rattle.chunk_object.specs.Duty.{is_on, Helps}
use Rattle.worker_duty.specs.Shares.{is_master}
use Rattle.worker_duty.specs.Views.{taken_by_seat, MayWorkAt}
use Rattle.worker_duty.proofs.Parts.{PartTo}
use Rattle.worker_duty.proofs.duty.other_partitions.Given as goal

abbrev pub invariant-others : goal.invariant-others
invariant-others g l = record {
  follows : g.P.Phase.follows l.context l.fn.desk l.desk;
  table : (g.P.Phase.hold l.desk).table ≡ (g.P.Phase.hold l.fn.desk).table;
  worker : (g.P.Phase.hold l.desk).view.worker ≡ (g.P.Phase.hold l.fn.desk).view.worker;
  part : PartTo is_on (λ p. not (is_master (g.P.Phase.terms l.context) l.share.worker p)) (Helps (g.P.Phase.terms l.context)) l.partition (g.P.Phase.hold l.fn.desk).view (g.P.Phase.hold l.desk).view true l.claims l.admitted;
  may : (p : ℕ) → p < l.share.partitions → l.partition ≤ p → p % l.share.engines ≢ l.share.worker → MayWorkAt (g.P.Phase.terms l.context) (g.P.Phase.lens l.context) (g.P.Phase.hold l.desk).view p;
  rests : g.P.Phase.rests l.context l.desk (taken_by_seat (g.P.Phase.hold l.desk).view);
  few : l.claims ≤ l.partition * 17179869184;
  helped : l.admitted ≤ l.partition;
}
