-- After the last edge each vertex has the number of all its edges.
use Rattle.std.proofs.Common.{◌≡◌, length, take, ◌∙◌, ap, arith}
use Rattle.std.proofs.lemmas.Grind.{common_steps}
use Rattle.std.proofs.lemmas.List.FromFn.{fill_by_all}
use Rattle.graph_model.specs.Rounds.{out_degree}
use Rattle.plain_rounds.proofs.start.count_out.Goals as goal

pub returns : goal.returns
returns c =
    let all : take c.loop-edge.edge-index c.args.edges.now ≡ c.args.edges.now = grind (arith, common_steps) in
    let long : length c.loop-edge.counts ≡ length c.args.counts.now = grind arith in
    fill_by_all (out_degree c.args.edges.now) c.loop-edge.counts (length c.args.counts.now) 0 long
    (λ v below. c.loop-edge.invariant v (omega arith) ∙ ap (λ edges. out_degree edges v) all)
