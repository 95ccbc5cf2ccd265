use Rattle.update_lanes.proofs.Marked.{AreMarked}
use Rattle.update_lanes.proofs.sending.mark_changes.Given as goal

abbrev pub invariant-vertices : goal.invariant-vertices
invariant-vertices l = AreMarked l.before l.now l.vertex l.changed
