-- Each sum is the fold of the updates so far.
use Rattle.std.proofs.Common.{◌≡◌, ℕ, get_or, take}
use Rattle.phase_core.proofs.Gathering.{gathered}
use Rattle.phase_core.proofs.gather.fold_updates.Given as goal

abbrev pub invariant-loop-update : goal.invariant-loop-update
invariant-loop-update g l = (place : ℕ) → get_or l.sums place 0 ≡ gathered (g.P.VertexProgram.rules l.fn.program).fold l.first l.fn.sums (take l.update-index l.updates) place
