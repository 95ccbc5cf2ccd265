use Rattle.chunk_object.proofs.Covered.{epoch_is_taken}
use Rattle.chunk_object.proofs.laws.epoch_is_taken_once.Goals as goal

pub returns : goal.returns
returns c = epoch_is_taken
