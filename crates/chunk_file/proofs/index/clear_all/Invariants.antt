use Rattle.chunk_file.proofs.Lists.{IsCleared}
use Rattle.chunk_file.proofs.index.clear_all.Given as goal

abbrev pub invariant-lists : goal.invariant-lists
invariant-lists l = IsCleared l.list l.places.items
