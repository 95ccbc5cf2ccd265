use Rattle.std.proofs.Common.{◌≡◌, length}
use Rattle.store_tests.specs.Lanes.{AreOnLanes}
use Rattle.store_tests.proofs.gather_tests.index_of.Given as goal

abbrev pub invariant-loop-engine : goal.invariant-loop-engine
invariant-loop-engine g l = (length l.index ≡ 512) × AreOnLanes l.lanes l.index
