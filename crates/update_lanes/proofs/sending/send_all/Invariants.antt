use Rattle.std.proofs.Common.{take}
use Rattle.ports.specs.Devices.{NoneRose}
use Rattle.phase_model.specs.Sends.{sent_by}
use Rattle.update_lanes.specs.Outgoing.{SendsOn}
use Rattle.update_lanes.specs.Sending.{sending_all}
use Rattle.update_lanes.proofs.sending.send_all.Given as goal

abbrev pub invariant-edges : goal.invariant-edges
invariant-edges g l = record {
  sends : SendsOn g.D.Disk.state l.beat l.initial.out l.out l.initial.lanes l.lanes l.initial.places.items l.places.items (sent_by (sending_all (g.P.VertexProgram.rules l.program) l.first l.now) (take l.edge-index l.edges));
  calm : NoneRose g.D.Disk.state l.initial.lanes l.lanes;
}
