use Rattle.worker_outcomes.proofs.Lowest.{all_done, is_of}
use Rattle.worker_outcomes.proofs.outcome_is_of_a_worker.Goals as goal

pub returns-clause-done : goal.returns-clause-done
returns-clause-done c = all_done

pub returns-clause-of : goal.returns-clause-of
returns-clause-of c = is_of
