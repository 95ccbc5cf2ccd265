use Rattle.std.proofs.Common.{◌≡◌, ℕ, ◌<◌, length, get_or, take}
use Rattle.graph_model.specs.Rounds.{merged, sent_to}
use Rattle.plain_rounds.proofs.pass.gather.Given as goal

-- each vertex has the merge of what the edges so far send to it
abbrev pub invariant-loop-edge : goal.invariant-loop-edge
invariant-loop-edge g l =
    (v : ℕ) → v < length l.sums → get_or l.sums v 0
    ≡ merged (g.P.VertexProgram.rules l.fn.program) (sent_to (g.P.VertexProgram.rules l.fn.program) (take l.edge-index l.edges) l.values v)
