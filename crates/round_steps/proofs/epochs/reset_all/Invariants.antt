use Rattle.round_steps.proofs.Resetting.{ResetBelow}
use Rattle.round_steps.proofs.epochs.reset_all.Given as goal

abbrev pub invariant-workers : goal.invariant-workers
invariant-workers l = ResetBelow l.unit l.worker l.fn.all.items l.all.items
