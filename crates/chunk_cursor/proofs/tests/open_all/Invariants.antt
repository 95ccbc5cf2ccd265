use Rattle.std.proofs.Common.{◌≡◌}
use Rattle.chunk_cursor.specs.View.{IsAlone}
use Rattle.chunk_cursor.specs.Claiming.{IsFreshBelow}
use Rattle.chunk_cursor.proofs.tests.open_all.Given as goal

abbrev pub invariant-loop-cursor : goal.invariant-loop-cursor
invariant-loop-cursor l = (l.seat.table ≡ l.table) × IsAlone l.seat.view × IsFreshBelow l.cursor l.seat.view
