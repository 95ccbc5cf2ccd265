use Rattle.std.proofs.Common.{◌≡◌, ◌+◌, vec_len, vec_capacity}
use Rattle.std.specs.List.{All}
use Rattle.chunk_cursor.specs.Hold.{Hold}
use Rattle.chunk_cursor.specs.View.{IsFirst}
use Rattle.epoch_seats.specs.Joining.{joined}
use Rattle.epoch_seats.proofs.close.join_seats.Given as goal

abbrev pub invariant-loop : goal.invariant-loop
invariant-loop l = record {
  table : l.seat.table ≡ l.table;
  tables : All (λ (other : Hold). other.table ≡ l.table) l.seats.items;
  first : IsFirst l.seat.view;
  joins : joined l.seat.view l.seats.items ≡ joined l.initial.seat.view l.initial.seats.items;
  many : vec_len l.seats + l.counter ≡ vec_len l.initial.seats;
  room : vec_capacity l.seats ≡ vec_capacity l.initial.seats;
}
