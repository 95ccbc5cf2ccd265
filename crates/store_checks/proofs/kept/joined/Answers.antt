use Rattle.std.proofs.Common.{subst}
use Rattle.store_model.specs.Kept.{device}
use Rattle.store_checks.specs.Rounds.{TellsSlot}
use Rattle.store_checks.proofs.KeptRounds.{same_joins, another_joins_not}
use Rattle.store_checks.proofs.kept.joined.Goals as goal

pub returns-then-next-so_far-clause-joins : goal.returns-then-next-so_far-clause-joins
returns-then-next-so_far-clause-joins c = λ own told slot e some finds tells.
    another_joins_not own told slot e c.args.so_far c.in_ok-next.next some finds (subst (TellsSlot (own e) slot (device told e)) c.in_ok-next.was tells) c.if-next-so_far.true

pub returns-clause-joins : goal.returns-clause-joins
returns-clause-joins c = λ own told slot e some finds tells.
    same_joins own told slot e c.args.so_far c.in_ok-next.next finds (subst (TellsSlot (own e) slot (device told e)) c.in_ok-next.was tells) c.if-next-so_far.false
