-- What is known of a sink in memory.
use Rattle.std.specs.Prelude.{ℕ, List}
use Rattle.mem_devices.specs.Plan.{Plan}

-- The bytes written, how many a call takes at most, and which calls fail.
pub record SinkState : Type 0 where
  pub written : List ℕ
  pub most : ℕ
  pub plan : Plan
