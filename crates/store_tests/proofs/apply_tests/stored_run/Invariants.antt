use Rattle.std.proofs.Common.{◌≡◌}
use Rattle.mem_devices.specs.MemDisk.{disk_state}
use Rattle.store_tests.proofs.apply_tests.stored_run.Given as goal

abbrev pub invariant-loop-round : goal.invariant-loop-round
invariant-loop-round g l = ((disk_state l.first).beat ≡ 0) × ((disk_state l.second).beat ≡ 0)
