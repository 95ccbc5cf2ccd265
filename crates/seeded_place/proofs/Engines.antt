-- Each chunk is placed on an engine.
use Rattle.std.proofs.Common.{ℕ, ◌<◌, ◌≤◌, arith}
use Rattle.seeded_place.specs.Placing.{engine_of}

pub engine_below : (seed stream engines k : ℕ) → 1 ≤ engines → engine_of seed stream engines k < engines
unfolding engine_of
engine_below seed stream engines k some = omega arith
