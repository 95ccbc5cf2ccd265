use Rattle.std.proofs.Common.{◌≡◌, ◌≤◌, vec_len}
use Rattle.std.specs.List.{All}
use Rattle.mem_devices.specs.MemDisk.{disk_state}
use Rattle.round_tests.proofs.made.devices.Given as goal

abbrev pub invariant-loop-engine : goal.invariant-loop-engine
invariant-loop-engine g l = (vec_len l.devices ≡ l.engine) × All (λ disk. (disk_state disk).beat ≤ 0) l.devices.items
