use Rattle.worker_duty.proofs.Duties.{begins_nothing}
use Rattle.worker_duty.proofs.laws.no_call_begins_a_duty.Goals as goal

pub returns : goal.returns
returns c = λ terms worker few. begins_nothing terms few worker
