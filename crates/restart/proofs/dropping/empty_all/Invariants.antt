use Rattle.ports.specs.Devices.{NoneRose}
use Rattle.ports.specs.Stops.{Empties}
use Rattle.restart.specs.Dropping.{IsEmpty}
use Rattle.graph_model.proofs.OneByOne.{DoneBelow}
use Rattle.restart.proofs.dropping.empty_all.Given as goal

abbrev pub invariant-loop-disk : goal.invariant-loop-disk
invariant-loop-disk g l = record {
  done : DoneBelow (λ old new. Empties l.beat (g.D.Disk.state old) (g.D.Disk.state new)) (λ e before disk. IsEmpty (g.D.Disk.state disk)) l.disk-index l.fn.disks l.disks;
  calm : NoneRose g.D.Disk.state l.fn.disks l.disks;
}
