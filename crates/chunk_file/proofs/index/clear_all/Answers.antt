use Rattle.std.proofs.Common.{arith}
use Rattle.chunk_file.proofs.Lists.{clear_more}
use Rattle.chunk_file.proofs.index.clear_all.Goals as goal

pub lists-preserved : goal.lists-preserved
lists-preserved c = clear_more c.lists.list c.lists.places.items c.clear.new.self (omega (arith, c.lists-test.true)) c.clear.ensures.items c.lists.invariant
