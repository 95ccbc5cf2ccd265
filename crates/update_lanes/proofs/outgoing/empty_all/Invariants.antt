use Rattle.update_lanes.proofs.Emptying.{IsEmptying}
use Rattle.update_lanes.proofs.outgoing.empty_all.Given as goal

abbrev pub invariant-buffers : goal.invariant-buffers
invariant-buffers l = IsEmptying l.partition l.initial.buffers.items l.buffers.items
