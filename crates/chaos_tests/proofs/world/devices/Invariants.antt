use Rattle.std.proofs.Common.{◌≡◌, ◌≤◌, length}
use Rattle.std.specs.List.{All}
use Rattle.mem_devices.specs.MemDisk.{disk_state}
use Rattle.chaos_tests.proofs.world.devices.Given as goal

abbrev pub invariant-loop-engine : goal.invariant-loop-engine
invariant-loop-engine g l = (length l.devices.items ≡ l.engine) × All (λ disk. (disk_state disk).beat ≤ 0) l.devices.items
