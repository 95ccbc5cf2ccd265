use Rattle.std.proofs.Common.{refl, arith}
use Rattle.list_moves.proofs.Moving.{dealt_more, numbers_more}
use Rattle.gather_epoch.specs.Dealing.{seat_at, meter_at, replicas_at, spill_at, room_at, number_at}
use Rattle.gather_epoch.proofs.moves.deal.Goals as goal

pub loop-worker-preserved : goal.loop-worker-preserved
loop-worker-preserved g c =
    let before = c.loop-worker.invariant in
    let put = c.put_last.ensures.items in
    record {
      seats = dealt_more seat_at c.loop-worker.crew.desks.items c.put_last.new.list.items _ _ _ _ before.seats c.take_first.ensures.items put;
      meters = dealt_more meter_at c.loop-worker.crew.desks.items c.put_last.new.list.items _ _ _ _ before.meters c.take_first-in-loop-worker.ensures.items put;
      replicas = dealt_more replicas_at c.loop-worker.crew.desks.items c.put_last.new.list.items _ _ _ _ before.replicas c.take_first-in-loop-worker-2.ensures.items put;
      spills = dealt_more spill_at c.loop-worker.crew.desks.items c.put_last.new.list.items _ _ _ _ before.spills c.take_first-in-loop-worker-3.ensures.items put;
      rooms = dealt_more room_at c.loop-worker.crew.desks.items c.put_last.new.list.items _ _ _ _ before.rooms c.take_first-in-loop-worker-4.ensures.items put;
      numbers = numbers_more number_at c.loop-worker.crew.desks.items c.put_last.new.list.items _ c.loop-worker.worker before.numbers refl put;
      many = omega (arith, c.put_last.ensures.len, before.many);
      many_seats = omega (arith, c.take_first.ensures.len, before.many_seats);
      many_meters = omega (arith, c.take_first-in-loop-worker.ensures.len, before.many_meters);
      many_replicas = omega (arith, c.take_first-in-loop-worker-2.ensures.len, before.many_replicas);
      many_spills = omega (arith, c.take_first-in-loop-worker-3.ensures.len, before.many_spills);
      many_rooms = omega (arith, c.take_first-in-loop-worker-4.ensures.len, before.many_rooms);
      room = omega (arith, c.put_last.ensures.room, before.room);
      seat_room = omega (arith, c.take_first.ensures.room, before.seat_room);
      meter_room = omega (arith, c.take_first-in-loop-worker.ensures.room, before.meter_room);
      replica_room = omega (arith, c.take_first-in-loop-worker-2.ensures.room, before.replica_room);
      spill_room = omega (arith, c.take_first-in-loop-worker-3.ensures.room, before.spill_room);
      room_room = omega (arith, c.take_first-in-loop-worker-4.ensures.room, before.room_room);
    }
