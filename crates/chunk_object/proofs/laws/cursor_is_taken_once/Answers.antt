use Rattle.chunk_object.proofs.Whole.{all_taken}
use Rattle.chunk_object.proofs.laws.cursor_is_taken_once.Goals as goal

pub returns : goal.returns
returns c story whole cursor chunk told = all_taken story whole cursor told chunk
