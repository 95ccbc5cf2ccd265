-- One worker more.
use Rattle.std.proofs.Common.{◌∙◌, ap, arith}
use Rattle.replica_merge.specs.Accumulators.{split_of}
use Rattle.round_steps.proofs.Resetting.{none_reset, one_reset, splits_kept}
use Rattle.round_steps.proofs.epochs.reset_all.Goals as goal

pub workers-init : goal.workers-init
workers-init c = none_reset c.args.unit c.args.all.now.items

pub workers-preserved : goal.workers-preserved
workers-preserved c =
    let here = c.index_mut.result.now in
    one_reset c.args.unit c.workers.worker c.args.all.now.items c.workers.all.items here c.reset.new.self (omega (arith, c.workers-test.true)) c.workers.invariant
    (c.reset.ensures.split ∙ ap split_of c.index_mut.ensures.value) (c.reset.ensures.unit, c.reset.ensures.unspilled)

pub returns-clause-splits : goal.returns-clause-splits
returns-clause-splits c = λ split splits. splits_kept c.args.unit c.workers.worker c.args.all.now.items c.workers.all.items split c.workers.invariant splits

pub returns-clause-reset : goal.returns-clause-reset
returns-clause-reset c = λ k d below. c.workers.invariant.done k d (omega (arith, below, c.workers.invariant.many))
