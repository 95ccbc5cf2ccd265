use Rattle.std.proofs.Common.{rules}
use Rattle.chunk_cursor.proofs.Allowed.{allows_settle}
use Rattle.chunk_cursor.proofs.table.CursorTable.settle.Goals as goal

pub load-requires : goal.load-requires
load-requires c = (search rules, search rules, allows_settle _ c.seat.inside.seat.id c.seat.inside.seat.me c.seat.invariant.1)
