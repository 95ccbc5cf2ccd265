use Rattle.std.proofs.Common.{rules, ap, sym, ◌∙◌, ◌≡◌, subst, arith}
use Rattle.std.specs.List.{All}
use Rattle.std.proofs.lemmas.List.Elements.{All-tail}
use Rattle.chunk_cursor.specs.Hold.{Hold}
use Rattle.epoch_seats.specs.Joining.{joined}
use Rattle.epoch_seats.proofs.close.join_seats.Goals as goal

pub loop-preserved : goal.loop-preserved
loop-preserved c =
    let before = c.loop.invariant in
    record {
      table = search rules;
      tables = All-tail (λ (other : Hold). other.table ≡ c.args.table.now) c.take_first.result c.take_first.new.list.items (subst (All (λ (other : Hold). other.table ≡ c.args.table.now)) c.take_first.ensures.items before.tables);
      first = search rules;
      joins = ap (λ v. joined v c.take_first.new.list.items) c.join.ensures.call ∙ (sym (ap (joined c.loop.seat.view) c.take_first.ensures.items) ∙ before.joins);
      many = omega (arith, c.take_first.ensures.len, before.many);
      room = c.take_first.ensures.room ∙ before.room;
    }
