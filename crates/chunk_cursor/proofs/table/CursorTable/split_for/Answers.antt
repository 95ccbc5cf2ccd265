use Rattle.std.proofs.Common.{◌≡◌, sym, subst, rules}
use Rattle.chunk_cursor.specs.Hold.{Hold}
use Rattle.chunk_cursor.specs.View.{IsFirst, out_at}
use Rattle.chunk_cursor.proofs.Allowed.{splits}
use Rattle.chunk_cursor.proofs.table.CursorTable.split_for.Goals as goal

pub split_seat-other-requires : goal.split_seat-other-requires
split_seat-other-requires g c =
    let first : IsFirst c.seat.inside.seat.me.0 = subst (λ (h : Hold). IsFirst h.view) (sym c.seat.view_is) c.requires.first in
    let vacant : out_at c.seat.inside.seat.me.0 g.row.NUMBER ≡ 0 = subst (λ (h : Hold). out_at h.view g.row.NUMBER ≡ 0) (sym c.seat.view_is) c.requires.worker.1 in
    (search rules, search rules, splits c.seat.inside.seat.id c.seat.inside.seat.me.0 c.seat.invariant.1 first g.row.NUMBER c.requires.worker.0 vacant)
