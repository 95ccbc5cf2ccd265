use Rattle.std.proofs.Common.{◌≡◌}
use Rattle.chunk_cursor.specs.View.{with_calls, IsAlone}
use Rattle.store_reader.specs.Indexed.{lens_of}
use Rattle.epoch_seats.specs.Opening.{openings}
use Rattle.epoch_seats.proofs.open.open_cursors.Given as goal

abbrev pub invariant-loop-engine : goal.invariant-loop-engine
invariant-loop-engine l = record {
  table : l.seat.table ≡ l.table;
  alone : IsAlone l.seat.view;
  calls : l.seat.view ≡ with_calls l.initial.seat.view (openings l.split.parts (lens_of l.index) l.engine);
}
