use Rattle.std.proofs.Common.{rules, ◌+◌, ◌∙◌, sym, subst, arith}
use Rattle.epoch_seats.specs.Opening.{HasSplit}
use Rattle.epoch_seats.proofs.Splitting.{split_more, seat_is, seats_more}
use Rattle.epoch_seats.proofs.open.split_seats.Goals as goal

pub loop-worker-preserved : goal.loop-worker-preserved
loop-worker-preserved c =
    let before = c.loop-worker.invariant in
    let n = c.loop-worker.worker in
    record {
      table = search rules;
      split = subst (HasSplit (n + 1) c.args.seat.now.view) (sym c.split-other.ensures.first) (split_more n c.args.seat.now.view c.loop-worker.seat.view before.split);
      seats = c.put_last.ensures.items
          ∙ seats_more n c.args.seat.now c.split-other.result c.loop-worker.seats.items before.seats
          (seat_is n c.args.seat.now c.loop-worker.seat c.split-other.result before.split (c.split-other.ensures.table.1 ∙ (before.table ∙ sym c.requires.table)) c.split-other.ensures.other);
      many = omega (arith, c.put_last.ensures.len, before.many);
      room = omega (arith, c.put_last.ensures.room, before.room);
    }
