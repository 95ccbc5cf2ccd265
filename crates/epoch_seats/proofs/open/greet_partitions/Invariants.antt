use Rattle.std.proofs.Common.{◌≡◌, map}
use Rattle.std.specs.List.{range_with_len}
use Rattle.chunk_object.specs.declared.call.Call.TheVariants.{Greet}
use Rattle.chunk_cursor.specs.View.{with_calls, IsAlone}
use Rattle.epoch_seats.proofs.open.greet_partitions.Given as goal

abbrev pub invariant-loop-partition : goal.invariant-loop-partition
invariant-loop-partition l = record {
  table : l.seat.table ≡ l.table;
  alone : IsAlone l.seat.view;
  calls : l.seat.view ≡ with_calls l.initial.seat.view (map Greet (range_with_len 0 l.partition));
}
