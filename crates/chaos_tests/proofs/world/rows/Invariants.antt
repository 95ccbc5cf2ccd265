use Rattle.std.proofs.Common.{◌≡◌, length}
use Rattle.std.specs.List.{All}
use Rattle.mem_devices.specs.MemDisk.{disk_state}
use Rattle.ports.specs.Devices.{AreDevices}
use Rattle.chaos_tests.proofs.world.rows.Given as goal

abbrev pub invariant-loop-worker : goal.invariant-loop-worker
invariant-loop-worker g l = (length l.rows.items ≡ l.worker) × All (λ row. AreDevices disk_state l.engines 0 row.items) l.rows.items
