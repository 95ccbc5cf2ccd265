use Rattle.epoch_seats.proofs.Keeping.{own_still}
use Rattle.epoch_seats.proofs.laws.seats_keep_to_their_own_calls.Goals as goal

pub returns : goal.returns
returns c = own_still
