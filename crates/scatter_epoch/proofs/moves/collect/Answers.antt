use Rattle.std.proofs.Common.{◌∷◌, map, ap, sym, ◌∙◌, arith}
use Rattle.worker_outcomes.specs.Lowest.{lowest_outcome}
use Rattle.worker_outcomes.proofs.Lowest.{lowest_first}
use Rattle.list_moves.proofs.Moving.{back_more, sum_first, sum_none}
use Rattle.scatter_epoch.specs.Dealing.{seat_at, meter_at, lanes_at, places_on, room_at, outcome_at, claims_at, admitted_at}
use Rattle.scatter_epoch.proofs.moves.collect.Goals as goal

pub loop-preserved : goal.loop-preserved
loop-preserved g c =
    let before = c.loop.invariant in
    let taken = c.take_first-desk.ensures.items in
    let desk = c.take_first-desk.result in
    let others = c.take_first-desk.new.list.items in
    let took = sum_first claims_at c.loop.crew.desks.items others desk taken in
    let helped = sum_first admitted_at c.loop.crew.desks.items others desk taken in
    record {
      seats = back_more seat_at c.loop.crew.desks.items others desk _ _ _ before.seats taken c.put_last.ensures.items;
      meters = back_more meter_at c.loop.crew.desks.items others desk _ _ _ before.meters taken c.put_last-in-loop.ensures.items;
      lanes = back_more lanes_at c.loop.crew.desks.items others desk _ _ _ before.lanes taken c.put_last-in-loop-2.ensures.items;
      places = back_more places_on c.loop.crew.desks.items others desk _ _ _ before.places taken c.put_last-in-loop-3.ensures.items;
      rooms = back_more room_at c.loop.crew.desks.items others desk _ _ _ before.rooms taken c.put_last-in-loop-4.ensures.items;
      outcome = ap (λ o. lowest_outcome (o ∷ map outcome_at others)) c.lower_outcome-all.ensures
          ∙ (lowest_first c.loop.all.outcome desk.outcome (map outcome_at others) ∙ (sym (ap (λ l. lowest_outcome (c.loop.all.outcome ∷ map outcome_at l)) taken) ∙ before.outcome));
      claims = omega (arith, c.saturating_add.ensures, took, before.claims);
      admitted = omega (arith, c.saturating_add-in-loop.ensures, helped, before.admitted);
      fits = (omega (arith, c.saturating_add.ensures), omega (arith, c.saturating_add-in-loop.ensures));
      left = omega (arith, c.take_first-desk.ensures.len, before.left);
      many_seats = omega (arith, c.put_last.ensures.len, before.many_seats);
      many_meters = omega (arith, c.put_last-in-loop.ensures.len, before.many_meters);
      many_lanes = omega (arith, c.put_last-in-loop-2.ensures.len, before.many_lanes);
      many_places = omega (arith, c.put_last-in-loop-3.ensures.len, before.many_places);
      many_rooms = omega (arith, c.put_last-in-loop-4.ensures.len, before.many_rooms);
      desk_room = omega (arith, c.take_first-desk.ensures.room, before.desk_room);
      seat_room = omega (arith, c.put_last.ensures.room, before.seat_room);
      meter_room = omega (arith, c.put_last-in-loop.ensures.room, before.meter_room);
      lane_room = omega (arith, c.put_last-in-loop-2.ensures.room, before.lane_room);
      place_room = omega (arith, c.put_last-in-loop-3.ensures.room, before.place_room);
      room_room = omega (arith, c.put_last-in-loop-4.ensures.room, before.room_room);
    }

pub returns-clause-claims : goal.returns-clause-claims
returns-clause-claims g c = omega (arith, c.loop.invariant.claims, c.loop.invariant.fits.0, sum_none claims_at c.loop.crew.desks.items (omega (arith, c.loop.invariant.left, c.loop.crew.desks.ok.0, c.len-end.ensures)))

pub returns-clause-admitted : goal.returns-clause-admitted
returns-clause-admitted g c = omega (arith, c.loop.invariant.admitted, c.loop.invariant.fits.1, sum_none admitted_at c.loop.crew.desks.items (omega (arith, c.loop.invariant.left, c.loop.crew.desks.ok.0, c.len-end.ensures)))
