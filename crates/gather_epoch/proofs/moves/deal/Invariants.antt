use Rattle.std.proofs.Common.{◌≡◌, ◌+◌, ◌++◌, ◌≤◌, map, vec_len, vec_capacity}
use Rattle.std.specs.List.{range_with_len}
use Rattle.gather_epoch.specs.Dealing.{seat_at, meter_at, replicas_at, spill_at, room_at, number_at}
use Rattle.gather_epoch.proofs.moves.deal.Given as goal

abbrev pub invariant-loop-worker : goal.invariant-loop-worker
invariant-loop-worker g l = record {
  seats : map seat_at l.crew.desks.items ++ l.crew.seats.items ≡ l.initial.crew.seats.items;
  meters : map meter_at l.crew.desks.items ++ l.meters.items ≡ l.initial.meters.items;
  replicas : map replicas_at l.crew.desks.items ++ l.replicas.items ≡ l.initial.replicas.items;
  spills : map spill_at l.crew.desks.items ++ l.spills.items ≡ l.initial.spills.items;
  rooms : map room_at l.crew.desks.items ++ l.crew.rooms.items ≡ l.initial.crew.rooms.items;
  numbers : map number_at l.crew.desks.items ≡ range_with_len 0 l.worker;
  many : vec_len l.crew.desks ≡ l.worker;
  many_seats : vec_len l.crew.seats + l.worker ≡ vec_len l.initial.crew.seats;
  many_meters : vec_len l.meters + l.worker ≡ vec_len l.initial.meters;
  many_replicas : vec_len l.replicas + l.worker ≡ vec_len l.initial.replicas;
  many_spills : vec_len l.spills + l.worker ≡ vec_len l.initial.spills;
  many_rooms : vec_len l.crew.rooms + l.worker ≡ vec_len l.initial.crew.rooms;
  room : vec_capacity l.initial.crew.desks ≤ vec_capacity l.crew.desks;
  seat_room : vec_capacity l.crew.seats ≡ vec_capacity l.initial.crew.seats;
  meter_room : vec_capacity l.meters ≡ vec_capacity l.initial.meters;
  replica_room : vec_capacity l.replicas ≡ vec_capacity l.initial.replicas;
  spill_room : vec_capacity l.spills ≡ vec_capacity l.initial.spills;
  room_room : vec_capacity l.crew.rooms ≡ vec_capacity l.initial.crew.rooms;
}
