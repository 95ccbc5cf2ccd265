use Rattle.std.proofs.Common.{take, arith, ◌∙◌, sym}
use Rattle.std.proofs.lemmas.List.{length-take}
use Rattle.mem_devices.proofs.Picking.{covered_count-more, covered_count-same, length-covered}
use Rattle.mem_devices.proofs.image.covered_count.Goals as goal
use Rattle.mem_devices.proofs.image.covered_count.Goals.{then-covers, else-covers}

pub loop-index-preserved : goal.loop-index-preserved
loop-index-preserved c =
    elim c.if-covers.branch [
      | then-covers w ↦ w.count-is ∙ covered_count-more c.args.calls.now c.loop-index.index c.index-calls-index.result c.loop-index-test.true c.index-calls-index.is (sym c.covers.ensures ∙ w.if-covers.true)
      | else-covers w ↦ w.count-is ∙ c.loop-index.invariant ∙ covered_count-same c.args.calls.now c.loop-index.index c.index-calls-index.result c.loop-index-test.true c.index-calls-index.is (sym c.covers.ensures ∙ w.if-covers.false)
    ]

pub returns-clause-within : goal.returns-clause-within
returns-clause-within c = omega (arith, c.loop-index.invariant, length-covered (take c.loop-index.index c.args.calls.now), length-take c.loop-index.index c.args.calls.now)
