use Rattle.std.proofs.Common.{◌≤◌}
use Rattle.mem_devices.specs.MemDisk.{disk_state}
use Rattle.mem_devices.proofs.tests.disks.play.Given as goal

abbrev pub invariant-loop-step : goal.invariant-loop-step
invariant-loop-step g l = (disk_state l.disk).beat ≤ l.beat
