use Rattle.std.proofs.Common.{take}
use Rattle.graph_model.specs.Programs.{plus}
use Rattle.phase_model.specs.Sums.{counts_of}
use Rattle.gather_phase.specs.Summing.{HasSummed}
use Rattle.gather_phase.proofs.sums.count_edges.Given as goal

abbrev pub invariant-loop-edge : goal.invariant-loop-edge
invariant-loop-edge l = HasSummed plus l.first (counts_of (take l.edge-index l.edges)) l.fn.counts l.counts
