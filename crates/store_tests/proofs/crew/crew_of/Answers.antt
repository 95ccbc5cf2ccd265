use Rattle.std.proofs.Common.{rules, refl}
use Rattle.mem_devices.specs.declared.disk.MemDisk.{MemDisk}
use Rattle.mem_devices.specs.MemDisk.{disk_state}
use Rattle.replica_merge.specs.declared.replicas.Replicas.{Replicas}
use Rattle.replica_merge.specs.Accumulators.{LiesWithin}
use Rattle.store_tests.proofs.Crews.{three}
use Rattle.store_tests.proofs.crew.crew_of.Goals as goal

pub returns : goal.returns
returns g c = record {
  splits = search (rules, c.spilled-one.ensures.split, c.spilled-two.ensures.split, c.spilled-three.ensures.split);
  each = refl;
  within = three (λ (r : Replicas) (d : MemDisk). LiesWithin r (disk_state d).size) _ _ _ _ _ _ c.spilled-one.ensures.within c.spilled-two.ensures.within c.spilled-three.ensures.within;
}
