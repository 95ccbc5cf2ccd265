use Rattle.std.proofs.Common.{◌≡◌}
use Rattle.mem_devices.specs.MemDisk.{disk_state}
use Rattle.replica_merge.specs.Accumulators.{split_of, LiesWithin}
use Rattle.store_tests.proofs.crew.spilled.Given as goal

abbrev pub invariant-loop-partition : goal.invariant-loop-partition
invariant-loop-partition g l = (split_of l.replicas ≡ l.split) × ((disk_state l.disk).beat ≡ 0) × LiesWithin l.replicas (disk_state l.disk).size
