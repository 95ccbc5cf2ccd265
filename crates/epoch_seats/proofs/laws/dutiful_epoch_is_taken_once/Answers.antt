use Rattle.chunk_object.proofs.Dutiful.{duty_takes_each}
use Rattle.epoch_seats.proofs.laws.dutiful_epoch_is_taken_once.Goals as goal

pub returns : goal.returns
returns c terms few before after epoch ended duty = duty_takes_each terms epoch few duty after.story ended.whole before.story before.splits ended.story
