use Rattle.std.proofs.Common.{◌≡◌, slice_index}
use Rattle.graph_model.specs.Rounds.{of_vertices}
use Rattle.plain_rounds.proofs.start.start_all.Given as goal

-- the values of the vertices so far
abbrev pub invariant-loop-vertex : goal.invariant-loop-vertex
invariant-loop-vertex g l =
    l.values.items ≡ of_vertices l.vertex (λ v. (g.P.VertexProgram.rules l.fn.program).start v (slice_index l.counts v))
