-- All engines were counted.
use Rattle.std.proofs.Common.{arith}
use Rattle.std.proofs.lemmas.List.FromFn.{fill_by_all}
use Rattle.run_model.specs.Telling.{count_on, counts_of}
use Rattle.run_model.proofs.telling.counts_of.Goals as goal

pub returns : goal.returns
unfolding counts_of
returns c =
    fill_by_all (count_on c.args.index.now) c.loop-engine.counts 8 0 c.loop-engine.invariant.many
    (λ k below. c.loop-engine.invariant.so_far k (omega (arith, below, c.loop-engine-test.false)))
