-- The merge of the sums of the workers so far.
use Rattle.std.proofs.Common.{◌≡◌, map}
use Rattle.std.specs.List.{range_with_len}
use Rattle.graph_model.specs.Rounds.{merged}
use Rattle.phase_core.specs.View.{machine_of}
use Rattle.phase_core.proofs.run.merged_at.Given as goal

abbrev pub invariant-loop-worker : goal.invariant-loop-worker
invariant-loop-worker g l = l.merged ≡ merged (g.P.VertexProgram.rules l.fn.program) (map (λ worker. (machine_of l.core).sums worker l.vertex) (range_with_len 0 l.worker))
