use Rattle.std.proofs.Common.{◌≡◌, ◌+◌, ◌-◌, ◌≤◌}
use Rattle.graph_model.specs.EdgeText.{text_limit}
use Rattle.ports.specs.Devices.{Each, NoneRose}
use Rattle.storage_engine.specs.Steps.{Step, IsClosedFront}
use Rattle.storage_engine.proofs.Texts.{HasTaken}
use Rattle.storage_engine.proofs.text.make_chunks.Given as goal

abbrev pub invariant-pieces : goal.invariant-pieces
invariant-pieces g l = record {
  later : g.S.Source.faults l.fn.source ≤ g.S.Source.faults l.source;
  calm : (g.S.Source.faults l.source ≡ g.S.Source.faults l.fn.source) × NoneRose g.D.Disk.state l.fn.graphs l.graphs;
  job : l.maker.job ≡ l.fn.maker.job;
  steps : Each g.D.Disk.state (Step IsClosedFront l.beat) l.fn.graphs l.graphs;
  front : HasTaken g.D.Disk.state l.fn.maker.job (g.S.Source.left l.fn.source) (g.S.Source.left l.source) l.reader l.taken l.maker.buffers l.maker.placer l.maker.index l.graphs;
}

abbrev pub decreases-pieces : goal.decreases-pieces
decreases-pieces g l = text_limit l.fn.maker.job.chunk + 1 - l.taken
