use Rattle.std.proofs.Common.{◌≡◌, ℕ, ◌<◌, length, get_or}
use Rattle.run_model.specs.Telling.{count_on}
use Rattle.run_model.proofs.telling.counts_of.Given as goal

abbrev pub invariant-loop-engine : goal.invariant-loop-engine
invariant-loop-engine l = record {
  many : length l.counts ≡ 8;
  so_far : (e : ℕ) → e < l.engine → get_or l.counts e 0 ≡ count_on l.index e;
}
