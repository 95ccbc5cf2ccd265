use Rattle.worker_outcomes.proofs.Lowest.{lowest_more}
use Rattle.worker_outcomes.proofs.one_worker_more.Goals as goal

pub returns : goal.returns
returns c = lowest_more
