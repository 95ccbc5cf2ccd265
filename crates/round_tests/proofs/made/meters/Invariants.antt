use Rattle.std.proofs.Common.{◌≡◌, vec_len}
use Rattle.round_tests.proofs.made.meters.Given as goal

abbrev pub invariant-loop-worker : goal.invariant-loop-worker
invariant-loop-worker g l = vec_len l.meters ≡ l.worker
