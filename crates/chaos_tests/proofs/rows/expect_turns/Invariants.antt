use Rattle.std.proofs.Common.{◌≡◌}
use Rattle.mem_devices.specs.MemDisk.{disk_state}
use Rattle.round_loop.specs.Keeping.{moment}
use Rattle.run_model.specs.Calls.{IsReady}
use Rattle.chaos_tests.proofs.rows.expect_turns.Given as goal

abbrev pub invariant-loop-row : goal.invariant-loop-row
invariant-loop-row g l = IsReady disk_state l.world.engines (moment l.world.store l.world.meters.items l.world.seat.view l.world.beat) × (l.world.seat.table ≡ l.world.table)
