-- Two replicas, each with its device.
use Rattle.std.proofs.Common.{arith}
use Rattle.graph_model.proofs.ListLemmas.{pair_related}
use Rattle.mem_devices.specs.declared.disk.MemDisk.{MemDisk}
use Rattle.mem_devices.specs.MemDisk.{disk_state}
use Rattle.replica_merge.specs.declared.replicas.Replicas.{Replicas}
use Rattle.replica_merge.specs.Accumulators.{LiesWithin}
use Rattle.replica_merge.proofs.tests.merged.Goals as goal

pub merge_replicas-requires-clause-into : goal.merge_replicas-requires-clause-into
merge_replicas-requires-clause-into g c κs = omega (arith, c.range-start.ensures.first, c.range-start.ensures.end)

pub merge_replicas-requires-clause-within : goal.merge_replicas-requires-clause-within
merge_replicas-requires-clause-within g c κs =
    pair_related (λ (r : Replicas) (d : MemDisk). LiesWithin r (disk_state d).size) c.args.one.0 c.args.two.0 c.args.one.1 c.args.two.1 c.requires.within.0 c.requires.within.1
