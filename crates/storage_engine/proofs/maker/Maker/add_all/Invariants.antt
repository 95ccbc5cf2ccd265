use Rattle.std.proofs.Common.{◌≡◌, List, ◌++◌, take}
use Rattle.graph_model.specs.declared.edge.Edge.{Edge}
use Rattle.ports.specs.Devices.{Each, NoneRose}
use Rattle.storage_engine.specs.Making.{IsMaking}
use Rattle.storage_engine.specs.Steps.{Step, IsClosedFront}
use Rattle.storage_engine.proofs.maker.Maker.add_all.Given as goal

abbrev pub invariant-loop-k : goal.invariant-loop-k
invariant-loop-k g l = record {
  steps : Each g.D.Disk.state (Step IsClosedFront l.beat) l.fn.graphs l.graphs;
  calm : NoneRose g.D.Disk.state l.fn.graphs l.graphs;
  job : l.self.job ≡ l.fn.self.job;
  making : (before : List Edge) → IsMaking g.D.Disk.state l.fn.self.job before l.fn.self.buffers l.fn.self.placer l.fn.self.index l.fn.graphs
      → IsMaking g.D.Disk.state l.fn.self.job (before ++ take l.k l.edges) l.self.buffers l.self.placer l.self.index l.graphs;
}
