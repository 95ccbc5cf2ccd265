use Rattle.std.proofs.Common.{◌≡◌, ◌+◌, ◌++◌, ◌≤◌, [], map, vec_len, vec_capacity}
use Rattle.std.specs.List.{All, range_with_len}
use Rattle.scatter_epoch.specs.Dealing.{seat_at, meter_at, lanes_at, places_on, room_at, number_at}
use Rattle.scatter_epoch.proofs.moves.deal.Given as goal

abbrev pub invariant-loop-worker : goal.invariant-loop-worker
invariant-loop-worker g l = record {
  seats : map seat_at l.crew.desks.items ++ l.crew.seats.items ≡ l.initial.crew.seats.items;
  meters : map meter_at l.crew.desks.items ++ l.meters.items ≡ l.initial.meters.items;
  lanes : map lanes_at l.crew.desks.items ++ l.lanes.items ≡ l.initial.lanes.items;
  places : All (λ desk. (places_on desk).items ≡ []) l.crew.desks.items;
  rooms : map room_at l.crew.desks.items ++ l.crew.rooms.items ≡ l.initial.crew.rooms.items;
  numbers : map number_at l.crew.desks.items ≡ range_with_len 0 l.worker;
  many : vec_len l.crew.desks ≡ l.worker;
  many_seats : vec_len l.crew.seats + l.worker ≡ vec_len l.initial.crew.seats;
  many_meters : vec_len l.meters + l.worker ≡ vec_len l.initial.meters;
  many_lanes : vec_len l.lanes + l.worker ≡ vec_len l.initial.lanes;
  many_places : vec_len l.crew.places + l.worker ≡ vec_len l.initial.crew.places;
  many_rooms : vec_len l.crew.rooms + l.worker ≡ vec_len l.initial.crew.rooms;
  room : vec_capacity l.initial.crew.desks ≤ vec_capacity l.crew.desks;
  seat_room : vec_capacity l.crew.seats ≡ vec_capacity l.initial.crew.seats;
  meter_room : vec_capacity l.meters ≡ vec_capacity l.initial.meters;
  lane_room : vec_capacity l.lanes ≡ vec_capacity l.initial.lanes;
  place_room : vec_capacity l.crew.places ≡ vec_capacity l.initial.crew.places;
  room_room : vec_capacity l.crew.rooms ≡ vec_capacity l.initial.crew.rooms;
}
