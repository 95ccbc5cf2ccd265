use Rattle.std.proofs.Common.{rules}
use Rattle.chunk_cursor.proofs.Allowed.{allows_heads}
use Rattle.chunk_cursor.proofs.table.CursorTable.heads.Goals as goal

pub load-requires : goal.load-requires
load-requires c = (search rules, search rules, allows_heads _ c.seat.inside.seat.id c.seat.inside.seat.me c.seat.invariant.1 c.args.partition c.requires.partition)
