use Rattle.std.proofs.Common.{◌≡◌, length}
use Rattle.update_lanes.specs.Outgoing.{AreBuffers}
use Rattle.update_lanes.proofs.outgoing.Outgoing.new.Given as goal

abbrev pub invariant-buffers : goal.invariant-buffers
invariant-buffers l = AreBuffers l.size l.buffers.items × (length l.buffers.items ≡ l.counter)
