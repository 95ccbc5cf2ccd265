use Rattle.std.proofs.Common.{◌≡◌}
use Rattle.chunk_cursor.specs.Claiming.{MayClaimWithin}
use Rattle.chunk_cursor.proofs.tests.drain_all.Given as goal

abbrev pub invariant-loop-cursor : goal.invariant-loop-cursor
invariant-loop-cursor l = (l.seat.table ≡ l.table) × (l.seat.view.worker ≡ l.initial.seat.view.worker) × MayClaimWithin l.cursor l.size.cursors l.seat.view
