use Rattle.chunk_object.proofs.Dutiful.{duty_takes_each}
use Rattle.chunk_object.proofs.laws.duty_takes_each_chunk_once.Goals as goal

pub returns : goal.returns
returns c story whole terms few past before epoch ends duty = duty_takes_each terms epoch few duty story whole past before ends
