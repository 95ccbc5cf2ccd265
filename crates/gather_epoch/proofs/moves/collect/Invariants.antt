use Rattle.std.proofs.Common.{◌≡◌, ◌+◌, ◌-◌, ◌^◌, ◌∷◌, ◌++◌, ◌≤◌, map, min, vec_len, vec_capacity}
use Rattle.std.specs.List.{sum_by}
use Rattle.worker_outcomes.specs.Lowest.{lowest_outcome}
use Rattle.gather_epoch.specs.Dealing.{seat_at, meter_at, replicas_at, spill_at, room_at, outcome_at, claims_at, admitted_at}
use Rattle.gather_epoch.proofs.moves.collect.Given as goal

abbrev pub invariant-loop : goal.invariant-loop
invariant-loop g l = record {
  seats : l.crew.seats.items ++ map seat_at l.crew.desks.items ≡ map seat_at l.initial.crew.desks.items;
  meters : l.meters.items ++ map meter_at l.crew.desks.items ≡ map meter_at l.initial.crew.desks.items;
  replicas : l.replicas.items ++ map replicas_at l.crew.desks.items ≡ map replicas_at l.initial.crew.desks.items;
  spills : l.spills.items ++ map spill_at l.crew.desks.items ≡ map spill_at l.initial.crew.desks.items;
  rooms : l.crew.rooms.items ++ map room_at l.crew.desks.items ≡ map room_at l.initial.crew.desks.items;
  outcome : lowest_outcome (l.all.outcome ∷ map outcome_at l.crew.desks.items) ≡ lowest_outcome (map outcome_at l.initial.crew.desks.items);
  claims : min (l.all.claims + sum_by claims_at l.crew.desks.items) (2 ^ 64 - 1) ≡ min (sum_by claims_at l.initial.crew.desks.items) (2 ^ 64 - 1);
  admitted : min (l.all.admitted + sum_by admitted_at l.crew.desks.items) (2 ^ 64 - 1) ≡ min (sum_by admitted_at l.initial.crew.desks.items) (2 ^ 64 - 1);
  fits : (l.all.claims ≤ 2 ^ 64 - 1) × (l.all.admitted ≤ 2 ^ 64 - 1);
  left : vec_len l.crew.desks + l.counter ≡ vec_len l.initial.crew.desks;
  many_seats : vec_len l.crew.seats ≡ l.counter;
  many_meters : vec_len l.meters ≡ l.counter;
  many_replicas : vec_len l.replicas ≡ l.counter;
  many_spills : vec_len l.spills ≡ l.counter;
  many_rooms : vec_len l.crew.rooms ≡ l.counter;
  desk_room : vec_capacity l.crew.desks ≡ vec_capacity l.initial.crew.desks;
  seat_room : vec_capacity l.initial.crew.seats ≤ vec_capacity l.crew.seats;
  meter_room : vec_capacity l.initial.meters ≤ vec_capacity l.meters;
  replica_room : vec_capacity l.initial.replicas ≤ vec_capacity l.replicas;
  spill_room : vec_capacity l.initial.spills ≤ vec_capacity l.spills;
  room_room : vec_capacity l.initial.crew.rooms ≤ vec_capacity l.crew.rooms;
}
