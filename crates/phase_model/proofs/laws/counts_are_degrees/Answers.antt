use Rattle.phase_model.proofs.Counted.{counted}
use Rattle.phase_model.proofs.laws.counts_are_degrees.Goals as goal

pub returns : goal.returns
returns c = λ edges v. counted v edges
