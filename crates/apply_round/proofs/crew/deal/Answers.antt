-- One desk more.
use Rattle.std.proofs.Common.{arith}
use Rattle.checkpoint.specs.Room.{IsRoomOf}
use Rattle.list_moves.proofs.Moving.{dealt_more, all_more}
use Rattle.apply_round.proofs.Desks.{engines_more, all_rest}
use Rattle.apply_round.proofs.crew.deal.Goals as goal

pub loop-engine-preserved : goal.loop-engine-preserved
loop-engine-preserved g c =
    let invariant = c.loop-engine.invariant in
    let desks = c.loop-engine.desks.items in
    let more = c.put_last.ensures.items in
    let rest = all_rest (IsRoomOf c.args.split.now) c.loop-engine.rooms.items c.take_first-room.new.list.items c.take_first-room.result c.take_first-room.ensures.items invariant.4 in (
      dealt_more (λ d. d.disk) desks _ _ c.loop-engine.values.items _ _ invariant.0 c.take_first-disk.ensures.items more,
      dealt_more (λ d. d.meter) desks _ _ c.loop-engine.meters.items _ _ invariant.1 c.take_first-meter.ensures.items more,
      engines_more desks _ _ c.loop-engine.engine more (omega arith) (omega arith) invariant.2,
      all_more (λ d. IsRoomOf c.args.split.now d.room) desks _ _ invariant.3 more rest.0,
      rest.1,
      omega arith,
      omega arith,
      omega arith,
      omega arith,
      omega arith,
      omega arith,
      omega arith,
      omega arith,
    )
