use Rattle.std.proofs.Common.{take}
use Rattle.gather_phase.specs.Summing.{HasSummed}
use Rattle.gather_phase.proofs.sums.fold_updates.Given as goal

abbrev pub invariant-loop-update : goal.invariant-loop-update
invariant-loop-update g l = HasSummed (g.P.VertexProgram.rules l.program).fold l.first (take l.update-index l.updates) l.fn.sums l.sums
