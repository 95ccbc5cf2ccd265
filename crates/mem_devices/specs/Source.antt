-- What is known of a source in memory.
use Rattle.std.specs.Prelude.{ℕ, List}
use Rattle.mem_devices.specs.Plan.{Plan}

-- The bytes left, how many a call gives at most, and which calls fail.
pub record SourceState : Type 0 where
  pub left : List ℕ
  pub most : ℕ
  pub plan : Plan
