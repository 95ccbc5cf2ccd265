use Rattle.std.proofs.Common.{◌≡◌, List}
use Rattle.graph_model.specs.declared.edge.Edge.{Edge}
use Rattle.ports.specs.Devices.{Each, NoneRose}
use Rattle.storage_engine.specs.Making.{IsMaking}
use Rattle.storage_engine.specs.Steps.{Step, IsClosedFront}
use Rattle.storage_engine.proofs.Flushing.{RestWritten}
use Rattle.storage_engine.proofs.maker.Maker.write_rest.Given as goal

abbrev pub invariant-parts : goal.invariant-parts
invariant-parts g l = record {
  steps : Each g.D.Disk.state (Step IsClosedFront l.beat) l.fn.graphs l.graphs;
  calm : NoneRose g.D.Disk.state l.fn.graphs l.graphs;
  job : l.self.job ≡ l.fn.self.job;
  written : (edges : List Edge) → IsMaking g.D.Disk.state l.fn.self.job edges l.fn.self.buffers l.fn.self.placer l.fn.self.index l.fn.graphs
      → RestWritten g.D.Disk.state l.fn.self.job edges l.partition l.fn.self.buffers l.self.buffers l.self.placer l.self.index l.graphs;
}
