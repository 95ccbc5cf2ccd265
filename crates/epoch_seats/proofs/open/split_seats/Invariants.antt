use Rattle.std.proofs.Common.{◌≡◌, ◌≤◌, vec_len, vec_capacity}
use Rattle.epoch_seats.specs.Opening.{HasSplit, split_seats_of}
use Rattle.epoch_seats.proofs.open.split_seats.Given as goal

abbrev pub invariant-loop-worker : goal.invariant-loop-worker
invariant-loop-worker l = record {
  table : l.seat.table ≡ l.table;
  split : HasSplit l.worker l.initial.seat.view l.seat.view;
  seats : l.seats.items ≡ split_seats_of l.worker l.initial.seat;
  many : vec_len l.seats ≡ l.worker;
  room : vec_capacity l.initial.seats ≤ vec_capacity l.seats;
}
