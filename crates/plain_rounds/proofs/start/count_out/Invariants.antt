use Rattle.std.proofs.Common.{◌≡◌, ℕ, ◌<◌, length, get_or, take}
use Rattle.graph_model.specs.Rounds.{out_degree}
use Rattle.plain_rounds.proofs.start.count_out.Given as goal

-- each vertex has the number of edges so far
abbrev pub invariant-loop-edge : goal.invariant-loop-edge
invariant-loop-edge l = (v : ℕ) → v < length l.counts → get_or l.counts v 0 ≡ out_degree (take l.edge-index l.edges) v
