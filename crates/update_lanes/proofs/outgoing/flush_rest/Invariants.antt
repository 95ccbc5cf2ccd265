use Rattle.update_lanes.proofs.Flushing.{IsFlushing}
use Rattle.update_lanes.proofs.outgoing.flush_rest.Given as goal

abbrev pub invariant-partitions : goal.invariant-partitions
invariant-partitions g l = IsFlushing g.D.Disk.state l.beat l.partition l.initial.out l.out l.initial.lanes l.lanes l.initial.places.items l.places.items
