use Rattle.std.proofs.Common.{◌≡◌, ◌≤◌, length, vec_len}
use Rattle.std.specs.List.{All}
use Rattle.mem_devices.specs.MemDisk.{disk_state}
use Rattle.round_tests.proofs.made.rows.Given as goal

abbrev pub invariant-loop-worker : goal.invariant-loop-worker
invariant-loop-worker g l = (vec_len l.rows ≡ l.worker) × All (λ row. (length row.items ≡ l.engines) × All (λ disk. (disk_state disk).beat ≤ 0) row.items) l.rows.items
