use Rattle.std.proofs.Common.{rules}
use Rattle.chunk_cursor.proofs.Allowed.{allows_look}
use Rattle.chunk_cursor.proofs.table.CursorTable.look.Goals as goal

pub load-found-requires : goal.load-found-requires
load-found-requires c = (search rules, search rules, allows_look _ c.seat.inside.seat.id c.seat.inside.seat.me c.seat.invariant.1 c.args.cursor c.requires.cursor)
