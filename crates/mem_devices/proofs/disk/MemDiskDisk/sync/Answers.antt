use Rattle.std.proofs.Common.{List, ℕ, sym, subst}
use Rattle.ports.specs.Disk.{Syncs}
use Rattle.mem_devices.specs.History.{recorded_state}
use Rattle.mem_devices.specs.MemDisk.{disk_state}
use Rattle.mem_devices.proofs.Entering.{enters_syncs}
use Rattle.mem_devices.proofs.disk.MemDiskDisk.sync.Goals as goal

pub returns-clause-syncs : goal.returns-clause-syncs
returns-clause-syncs c =
    let old = c.args.self.now in
    let new = c.call.new.self in
    let done = c.call.ensures in
    let first = sym done.first in
    let beat = sym done.beat in
    subst (λ (p : List ℕ × ℕ). Syncs c.args.beat.now (disk_state old) (recorded_state p.0 new.history.bytes.items new.history.calls.items p.1 new.plan.faults) c.call.result)
    (λ i. (first i, beat i))
    (enters_syncs c.call.result c.args.beat.now old.history.first.items old.history.bytes.items new.history.bytes.items old.history.calls.items new.history.calls.items old.beat old.plan.faults new.plan.faults old.history.replayed done.enters done.cause)
