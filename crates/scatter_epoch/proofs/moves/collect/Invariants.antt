use Rattle.std.proofs.Common.{◌≡◌, ◌+◌, ◌-◌, ◌^◌, ◌∷◌, ◌++◌, ◌≤◌, map, min, vec_len, vec_capacity}
use Rattle.std.specs.List.{sum_by}
use Rattle.worker_outcomes.specs.Lowest.{lowest_outcome}
use Rattle.scatter_epoch.specs.Dealing.{seat_at, meter_at, lanes_at, places_on, room_at, outcome_at, claims_at, admitted_at}
use Rattle.scatter_epoch.proofs.moves.collect.Given as goal

abbrev pub invariant-loop : goal.invariant-loop
invariant-loop g l = record {
  seats : l.crew.seats.items ++ map seat_at l.crew.desks.items ≡ map seat_at l.initial.crew.desks.items;
  meters : l.meters.items ++ map meter_at l.crew.desks.items ≡ map meter_at l.initial.crew.desks.items;
  lanes : l.lanes.items ++ map lanes_at l.crew.desks.items ≡ map lanes_at l.initial.crew.desks.items;
  places : l.crew.places.items ++ map places_on l.crew.desks.items ≡ map places_on l.initial.crew.desks.items;
  rooms : l.crew.rooms.items ++ map room_at l.crew.desks.items ≡ map room_at l.initial.crew.desks.items;
  outcome : lowest_outcome (l.all.outcome ∷ map outcome_at l.crew.desks.items) ≡ lowest_outcome (map outcome_at l.initial.crew.desks.items);
  claims : min (l.all.claims + sum_by claims_at l.crew.desks.items) (2 ^ 64 - 1) ≡ min (sum_by claims_at l.initial.crew.desks.items) (2 ^ 64 - 1);
  admitted : min (l.all.admitted + sum_by admitted_at l.crew.desks.items) (2 ^ 64 - 1) ≡ min (sum_by admitted_at l.initial.crew.desks.items) (2 ^ 64 - 1);
  fits : (l.all.claims ≤ 2 ^ 64 - 1) × (l.all.admitted ≤ 2 ^ 64 - 1);
  left : vec_len l.crew.desks + l.counter ≡ vec_len l.initial.crew.desks;
  many_seats : vec_len l.crew.seats ≡ l.counter;
  many_meters : vec_len l.meters ≡ l.counter;
  many_lanes : vec_len l.lanes ≡ l.counter;
  many_places : vec_len l.crew.places ≡ l.counter;
  many_rooms : vec_len l.crew.rooms ≡ l.counter;
  desk_room : vec_capacity l.crew.desks ≡ vec_capacity l.initial.crew.desks;
  seat_room : vec_capacity l.initial.crew.seats ≤ vec_capacity l.crew.seats;
  meter_room : vec_capacity l.initial.meters ≤ vec_capacity l.meters;
  lane_room : vec_capacity l.initial.lanes ≤ vec_capacity l.lanes;
  place_room : vec_capacity l.initial.crew.places ≤ vec_capacity l.crew.places;
  room_room : vec_capacity l.initial.crew.rooms ≤ vec_capacity l.crew.rooms;
}
