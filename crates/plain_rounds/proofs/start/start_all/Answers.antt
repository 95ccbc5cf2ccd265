-- One value more.
use Rattle.std.proofs.Common.{slice_index}
use Rattle.graph_model.proofs.RoundLemmas.{of_vertices_more}
use Rattle.plain_rounds.proofs.start.start_all.Goals as goal

pub loop-vertex-preserved : goal.loop-vertex-preserved
loop-vertex-preserved g c =
    of_vertices_more (λ v. (g.P.VertexProgram.rules c.args.program.now).start v (slice_index c.args.counts.now v))
    c.loop-vertex.values.items c.push.new.self.items c.loop-vertex.vertex c.start.result
    c.loop-vertex.invariant c.start.ensures c.in_ok-push.ensures.items
