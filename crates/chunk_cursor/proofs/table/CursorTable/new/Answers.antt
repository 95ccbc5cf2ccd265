use Rattle.chunk_cursor.proofs.Begins.{begins}
use Rattle.chunk_cursor.proofs.table.CursorTable.new.Goals as goal

pub of_words-requires : goal.of_words-requires
of_words-requires c = begins
