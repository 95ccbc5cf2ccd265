use Rattle.std.proofs.Common.{◌≡◌, ◌-◌}
use Rattle.chunk_object.specs.History.{taken_by, opened_len}
use Rattle.chunk_cursor.specs.View.{knows, MayClaim}
use Rattle.chunk_cursor.specs.Claiming.{HasDrained}
use Rattle.chunk_cursor.proofs.tests.drain.Given as goal

abbrev pub invariant-loop-chunk : goal.invariant-loop-chunk
invariant-loop-chunk l = (l.seat.table ≡ l.table) × MayClaim l.seat.view l.cursor × HasDrained l.cursor l.initial.seat.view l.seat.view

abbrev pub decreases-loop-chunk : goal.decreases-loop-chunk
decreases-loop-chunk l = opened_len l.cursor (knows l.seat.view) - taken_by l.seat.view.worker l.cursor (knows l.seat.view)
