use Rattle.std.proofs.Common.{sym, subst, rules}
use Rattle.chunk_cursor.specs.Hold.{Hold}
use Rattle.chunk_cursor.specs.View.{IsAlone}
use Rattle.chunk_cursor.proofs.Allowed.{allows_greet}
use Rattle.chunk_cursor.proofs.table.CursorTable.greet.Goals as goal

pub swap-requires : goal.swap-requires
swap-requires c = (search rules, search rules, allows_greet _ c.seat.inside.seat.id c.seat.inside.seat.me c.seat.invariant.1 c.args.partition c.requires.partition (subst (λ (h : Hold). IsAlone h.view) (sym c.seat.view_is) c.requires.alone))
