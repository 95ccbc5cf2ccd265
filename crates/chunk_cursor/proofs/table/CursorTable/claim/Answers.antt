use Rattle.std.proofs.Common.{sym, subst, rules}
use Rattle.chunk_cursor.specs.Hold.{Hold}
use Rattle.chunk_cursor.specs.View.{MayClaim}
use Rattle.chunk_cursor.proofs.Allowed.{allows_claim}
use Rattle.chunk_cursor.proofs.table.CursorTable.claim.Goals as goal

pub fetch_add-found-requires : goal.fetch_add-found-requires
fetch_add-found-requires c = (search rules, search rules, allows_claim _ c.seat.inside.seat.id c.seat.inside.seat.me c.seat.invariant.1 c.args.cursor c.requires.cursor (subst (λ (h : Hold). MayClaim h.view c.args.cursor) (sym c.seat.view_is) c.requires.once))
