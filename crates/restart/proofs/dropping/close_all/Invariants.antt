use Rattle.std.proofs.Common.{◌≡◌, ◌≤◌}
use Rattle.ports.specs.Devices.{NoneRose}
use Rattle.ports.specs.Disk.{InEveryImage}
use Rattle.store_model.specs.Heads.{IsShutGraph}
use Rattle.restart.specs.Dropping.{Closes}
use Rattle.graph_model.proofs.OneByOne.{DoneBelow}
use Rattle.restart.proofs.dropping.close_all.Given as goal

abbrev pub invariant-loop-disk : goal.invariant-loop-disk
invariant-loop-disk g l = record {
  done : DoneBelow (λ old new. Closes l.beat (g.D.Disk.state old) (g.D.Disk.state new)) (λ e before disk. InEveryImage (g.D.Disk.state disk) IsShutGraph) l.disk-index l.fn.graphs l.graphs;
  later : g.D.M.Meter.faults l.fn.meter ≤ g.D.M.Meter.faults l.meter;
  calm : g.D.M.Meter.faults l.meter ≡ g.D.M.Meter.faults l.fn.meter;
  calm_graphs : NoneRose g.D.Disk.state l.fn.graphs l.graphs;
}
