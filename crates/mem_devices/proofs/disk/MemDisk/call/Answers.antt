use Rattle.std.proofs.Common.{arith}
use Rattle.mem_devices.proofs.Kept.{kept_in_order}
use Rattle.mem_devices.proofs.disk.MemDisk.call.Goals as goal

pub invariant_of-self : goal.invariant_of-self
invariant_of-self c =
    let begun = c.begin-failed.new.self in
    let kept = c.add.ensures in
    record { in_order = kept_in_order c.add.result begun.history.calls.items c.add.new.self.calls.items _ begun.beat begun.beat begun.in_order (omega arith) (omega arith) kept.calls kept.calls_stay }
