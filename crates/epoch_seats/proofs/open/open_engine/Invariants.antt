use Rattle.std.proofs.Common.{◌≡◌, map}
use Rattle.std.specs.List.{range_with_len}
use Rattle.chunk_cursor.specs.View.{with_calls, IsAlone}
use Rattle.store_reader.specs.Indexed.{lens_of}
use Rattle.epoch_seats.specs.Opening.{opening}
use Rattle.epoch_seats.proofs.open.open_engine.Given as goal

abbrev pub invariant-loop-partition : goal.invariant-loop-partition
invariant-loop-partition l = record {
  table : l.seat.table ≡ l.table;
  alone : IsAlone l.seat.view;
  calls : l.seat.view ≡ with_calls l.initial.seat.view (map (opening (lens_of l.index) l.engine) (range_with_len 0 l.partition));
}
