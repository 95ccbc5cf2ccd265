use Rattle.worker_duty.proofs.Beginnings.{may_work}
use Rattle.worker_duty.proofs.laws.seats_may_work.Goals as goal

pub returns : goal.returns
returns c = λ terms lens past before splits v some few some_partition few_partitions ended other none held. may_work terms lens past before splits some few some_partition few_partitions ended v other none held
