use Rattle.std.proofs.Common.{take}
use Rattle.ports.specs.Devices.{NoneRose}
use Rattle.update_lanes.specs.Outgoing.{SendsOn}
use Rattle.update_lanes.proofs.Marked.{sent_by_marked}
use Rattle.update_lanes.proofs.sending.send_changed.Given as goal

abbrev pub invariant-edges : goal.invariant-edges
invariant-edges g l = record {
  sends : SendsOn g.D.Disk.state l.beat l.initial.out l.out l.initial.lanes l.lanes l.initial.places.items l.places.items (sent_by_marked (g.P.VertexProgram.rules l.program) l.first l.now l.changed (take l.edge-index l.edges));
  calm : NoneRose g.D.Disk.state l.initial.lanes l.lanes;
}
