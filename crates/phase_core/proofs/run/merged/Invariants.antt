-- The sums so far are merged.
use Rattle.std.proofs.Common.{◌≡◌, ◌+◌, ◌<◌, ℕ, get_or}
use Rattle.phase_core.specs.Sums.{merged_at}
use Rattle.phase_core.specs.View.{machine_of}
use Rattle.phase_core.proofs.run.merged.Given as goal

abbrev pub invariant-loop-place : goal.invariant-loop-place
invariant-loop-place g l = (k : ℕ) → k < l.place → get_or l.into k 0 ≡ merged_at (g.P.VertexProgram.rules l.fn.program) (machine_of l.core) (l.first + k)
