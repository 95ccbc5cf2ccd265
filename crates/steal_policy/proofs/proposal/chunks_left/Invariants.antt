use Rattle.std.proofs.Common.{◌≡◌}
use Rattle.steal_policy.specs.Looks.{HasLooked}
use Rattle.steal_policy.proofs.proposal.chunks_left.Given as goal

abbrev pub invariant-loop-engine : goal.invariant-loop-engine
invariant-loop-engine l = (l.seat.table ≡ l.table) × HasLooked l.ask.partition l.engine l.initial.seat.view l.seat.view l.left
