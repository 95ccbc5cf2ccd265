use Rattle.std.proofs.Common.{refl}
use Rattle.chunk_file.proofs.Lists.{new_index}
use Rattle.chunk_file.proofs.index.Index.clear.Goals as goal

pub invariant_of-self : goal.invariant_of-self
invariant_of-self c = new_index _ c.clear_all.ensures refl
