use Rattle.std.proofs.Common.{◌≡◌, [], refl, arith}
use Rattle.list_moves.proofs.Moving.{dealt_more, numbers_more, all_more}
use Rattle.scatter_epoch.specs.Dealing.{seat_at, meter_at, lanes_at, places_on, room_at, number_at}
use Rattle.scatter_epoch.proofs.moves.deal.Goals as goal

pub loop-worker-preserved : goal.loop-worker-preserved
loop-worker-preserved g c =
    let before = c.loop-worker.invariant in
    let put = c.put_last.ensures.items in
    let desks = c.loop-worker.crew.desks.items in
    let news = c.put_last.new.list.items in
    record {
      seats = dealt_more seat_at desks news _ _ _ _ before.seats c.take_first.ensures.items put;
      meters = dealt_more meter_at desks news _ _ _ _ before.meters c.take_first-in-loop-worker.ensures.items put;
      lanes = dealt_more lanes_at desks news _ _ _ _ before.lanes c.take_first-in-loop-worker-2.ensures.items put;
      places = all_more (λ desk. (places_on desk).items ≡ []) desks news _ before.places put c.clear.ensures.items;
      rooms = dealt_more room_at desks news _ _ _ _ before.rooms c.take_first-in-loop-worker-3.ensures.items put;
      numbers = numbers_more number_at desks news _ c.loop-worker.worker before.numbers refl put;
      many = omega (arith, c.put_last.ensures.len, before.many);
      many_seats = omega (arith, c.take_first.ensures.len, before.many_seats);
      many_meters = omega (arith, c.take_first-in-loop-worker.ensures.len, before.many_meters);
      many_lanes = omega (arith, c.take_first-in-loop-worker-2.ensures.len, before.many_lanes);
      many_places = omega (arith, c.take_first-places.ensures.len, before.many_places);
      many_rooms = omega (arith, c.take_first-in-loop-worker-3.ensures.len, before.many_rooms);
      room = omega (arith, c.put_last.ensures.room, before.room);
      seat_room = omega (arith, c.take_first.ensures.room, before.seat_room);
      meter_room = omega (arith, c.take_first-in-loop-worker.ensures.room, before.meter_room);
      lane_room = omega (arith, c.take_first-in-loop-worker-2.ensures.room, before.lane_room);
      place_room = omega (arith, c.take_first-places.ensures.room, before.place_room);
      room_room = omega (arith, c.take_first-in-loop-worker-3.ensures.room, before.room_room);
    }
