use Rattle.std.proofs.Common.{◌∙◌, ◌+◌, ap, cond, get_or, arith}
use Rattle.checkpoint.proofs.ValueSteps.{start_more}
use Rattle.checkpoint.proofs.values.start_values.Goals as goal

pub loop-index-preserved : goal.loop-index-preserved
loop-index-preserved g c =
    let rules = g.P.VertexProgram.rules c.args.program.now in
    start_more rules c.args.first c.loop-index.index c.args.counts.now c.loop-index.into c.start.result
    (omega arith) (omega (arith, c.requires.same)) c.loop-index.invariant
    (c.start.ensures ∙ ap (rules.start (c.args.first + c.loop-index.index)) (c.counted.ensures ∙ ap (λ uses. cond uses (get_or c.args.counts.now c.loop-index.index 0) 0) c.counts-counting.ensures))
