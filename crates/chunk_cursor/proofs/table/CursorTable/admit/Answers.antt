use Rattle.std.proofs.Common.{sym, subst, rules}
use Rattle.chunk_cursor.specs.Hold.{Hold}
use Rattle.chunk_cursor.specs.View.{MayAdmit}
use Rattle.chunk_cursor.proofs.Allowed.{allows_admit}
use Rattle.chunk_cursor.proofs.table.CursorTable.admit.Goals as goal

pub compare_exchange-found-requires : goal.compare_exchange-found-requires
compare_exchange-found-requires c = (search rules, search rules, allows_admit _ c.seat.inside.seat.id c.seat.inside.seat.me c.seat.invariant.1 c.args.partition c.args.heads c.requires.partition (subst (λ (h : Hold). MayAdmit h.view c.args.partition) (sym c.seat.view_is) c.requires.once))
