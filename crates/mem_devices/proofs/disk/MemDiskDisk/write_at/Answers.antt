use Rattle.std.proofs.Common.{List, ℕ, sym, subst}
use Rattle.ports.specs.Disk.{Writes}
use Rattle.mem_devices.specs.History.{recorded_state}
use Rattle.mem_devices.specs.MemDisk.{disk_state}
use Rattle.mem_devices.proofs.Entering.{enters_writes}
use Rattle.mem_devices.proofs.disk.MemDiskDisk.write_at.Goals as goal

pub returns-in-Ok-clause-writes : goal.returns-in-Ok-clause-writes
returns-in-Ok-clause-writes c =
    let old = c.args.self.now in
    let new = c.call.new.self in
    let done = c.call.ensures in
    let piece = c.in-Ok.ensures.items in
    let first = sym done.first in
    let beat = sym done.beat in
    subst (λ (p : List ℕ × List ℕ × ℕ). Writes c.args.beat.now c.args.at p.0 (disk_state old) (recorded_state p.1 new.history.bytes.items new.history.calls.items p.2 new.plan.faults) c.call.result)
    (λ i. (piece i, first i, beat i))
    (enters_writes c.call.result c.args.beat.now _ old.history.first.items old.history.bytes.items new.history.bytes.items old.history.calls.items new.history.calls.items old.beat old.plan.faults new.plan.faults c.requires.place done.enters done.cause)
