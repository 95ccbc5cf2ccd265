use Rattle.std.proofs.Common.{◌∙◌, ap, ◌*◌, ◌+◌, take, arith}
use Rattle.graph_model.specs.declared.value.Value.{Value}
use Rattle.checkpoint.proofs.ByteLemmas.{put_more}
use Rattle.checkpoint.proofs.bytes.put_values.Goals as goal

pub loop-index-preserved : goal.loop-index-preserved
loop-index-preserved c =
    let zero : Value = record { main = 0; side = 0 } in
    ap (take (16 * (c.loop-index.index + 1))) c.put_value.ensures
    ∙ put_more c.args.values.now c.loop-index.bytes c.loop-index.index zero (omega arith) (omega (arith, c.requires)) c.loop-index.invariant
