use Rattle.std.proofs.Common.{◌≡◌, ◌≤◌, length, IfSome, subst, arith}
use Rattle.store_model.specs.Slots.{slot_of}
use Rattle.store_checks.specs.Rounds.{FindsRound}
use Rattle.store_checks.proofs.KeptRounds.{first_is_greater, second_is_greater, only_first, only_second, neither}
use Rattle.store_checks.proofs.kept.greater.Goals as goal

pub returns-then-first-second-clause-kept : goal.returns-then-first-second-clause-kept
returns-then-first-second-clause-kept c = λ own told some even odd.
    second_is_greater own told c.in-Some-Some.first c.in-Some-Some.second some
    (subst (λ x. IfSome x (λ standing. (slot_of standing.round ≡ 1) × (standing.round ≤ 1000000))) c.in-Some-Some.is-1 c.requires.odd).0
    (omega (arith, c.if-first-second.true))
    (subst (FindsRound own told 0 (length told)) c.in-Some-Some.is-0 even)
    (subst (FindsRound own told 1 (length told)) c.in-Some-Some.is-1 odd)

pub returns-else-first-second-clause-kept : goal.returns-else-first-second-clause-kept
returns-else-first-second-clause-kept c = λ own told some even odd.
    first_is_greater own told c.in-Some-Some.first c.in-Some-Some.second some
    (subst (λ x. IfSome x (λ standing. (slot_of standing.round ≡ 0) × (standing.round ≤ 1000000))) c.in-Some-Some.is-0 c.requires.even).0
    (omega (arith, c.if-first-second.false))
    (subst (FindsRound own told 0 (length told)) c.in-Some-Some.is-0 even)
    (subst (FindsRound own told 1 (length told)) c.in-Some-Some.is-1 odd)

pub returns-in-Some-None-clause-kept : goal.returns-in-Some-None-clause-kept
returns-in-Some-None-clause-kept c = λ own told some even odd.
    only_first own told c.in-Some-None.first some
    (subst (λ x. IfSome x (λ standing. (slot_of standing.round ≡ 0) × (standing.round ≤ 1000000))) c.in-Some-None.is-0 c.requires.even).0
    (subst (FindsRound own told 0 (length told)) c.in-Some-None.is-0 even)
    (subst (FindsRound own told 1 (length told)) c.in-Some-None.is-1 odd)

pub returns-in-None-Some-clause-kept : goal.returns-in-None-Some-clause-kept
returns-in-None-Some-clause-kept c = λ own told some even odd.
    only_second own told c.in-None-Some.second some
    (subst (λ x. IfSome x (λ standing. (slot_of standing.round ≡ 1) × (standing.round ≤ 1000000))) c.in-None-Some.is-1 c.requires.odd).0
    (subst (FindsRound own told 0 (length told)) c.in-None-Some.is-0 even)
    (subst (FindsRound own told 1 (length told)) c.in-None-Some.is-1 odd)

pub returns-in-None-None-clause-kept : goal.returns-in-None-None-clause-kept
returns-in-None-None-clause-kept c = λ own told some even odd.
    neither own told
    (subst (FindsRound own told 0 (length told)) c.in-None-None.is-0 even)
    (subst (FindsRound own told 1 (length told)) c.in-None-None.is-1 odd)
