use Rattle.std.proofs.Common.{◌≡◌}
use Rattle.chunk_cursor.specs.View.{IsAlone}
use Rattle.chunk_cursor.proofs.tests.four_threads_take_each_chunk_of_many_cursors_once.Given as goal

abbrev pub invariant-loop : goal.invariant-loop
invariant-loop g l = (l.seat.table ≡ l.table) × IsAlone l.seat.view
