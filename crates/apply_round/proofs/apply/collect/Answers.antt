-- The sum at the end is a number of 64 bits.
use Rattle.std.proofs.Common.{arith}
use Rattle.apply_round.proofs.Desks.{capped_end}
use Rattle.apply_round.proofs.apply.collect.Goals as goal

pub returns-clause-changed : goal.returns-clause-changed
returns-clause-changed g c =
    let invariant = c.loop.invariant in
    capped_end (λ d. d.changed) c.loop.desks.items c.loop.applied.changed _ (omega arith) invariant.5 invariant.4
