use Rattle.std.proofs.Common.{sym, subst, rules}
use Rattle.chunk_cursor.specs.Hold.{Hold}
use Rattle.chunk_cursor.specs.View.{IsAlone}
use Rattle.chunk_cursor.proofs.Allowed.{allows_open}
use Rattle.chunk_cursor.proofs.table.CursorTable.open.Goals as goal

pub swap-requires : goal.swap-requires
swap-requires c = (search rules, search rules, allows_open _ c.seat.inside.seat.id c.seat.inside.seat.me c.seat.invariant.1 c.args.cursor c.args.len c.requires.cursor c.requires.len (subst (λ (h : Hold). IsAlone h.view) (sym c.seat.view_is) c.requires.alone))
