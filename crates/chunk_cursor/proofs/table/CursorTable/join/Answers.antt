use Rattle.std.proofs.Common.{sym, subst, rules}
use Rattle.chunk_cursor.specs.Hold.{Hold}
use Rattle.chunk_cursor.specs.View.{IsFirst}
use Rattle.chunk_cursor.proofs.Allowed.{joins}
use Rattle.chunk_cursor.proofs.table.CursorTable.join.Goals as goal

pub join_seat-requires : goal.join_seat-requires
join_seat-requires c =
    let first : IsFirst c.seat.inside.seat.me.0 = subst (λ (h : Hold). IsFirst h.view) (sym c.seat.view_is) c.requires.first in
    (search rules, search rules, search rules, search rules, joins c.seat.inside.seat.id c.seat.inside.seat.me.0 c.seat.invariant.1 first c.other.inside.seat.id c.other.inside.seat.me.0 c.other.invariant.1)
