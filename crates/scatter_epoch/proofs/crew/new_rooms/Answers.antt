use Rattle.std.proofs.Common.{arith}
use Rattle.scatter_phase.specs.Rooms.{IsRoom}
use Rattle.list_moves.proofs.Moving.{all_more}
use Rattle.scatter_epoch.proofs.crew.new_rooms.Goals as goal

pub loop-preserved : goal.loop-preserved
loop-preserved c = record {
  many = omega arith;
  rooms = all_more (IsRoom c.args.job.now) c.loop.rooms.items c.put_last.new.list.items c.in_ok-room.room c.loop.invariant.rooms c.put_last.ensures.items c.in_ok-room.ensures;
  room = omega arith;
}
