use Rattle.std.proofs.Common.{◌≡◌, length}
use Rattle.chaos_tests.proofs.world.meters.Given as goal

abbrev pub invariant-loop-engine : goal.invariant-loop-engine
invariant-loop-engine g l = length l.meters.items ≡ l.engine
