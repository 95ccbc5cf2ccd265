-- Nothing was spilled before.
use Rattle.std.proofs.Common.{◌≡◌, None, Some, sym, ◌∙◌}
use Rattle.replica_merge.proofs.tests.spilled.Goals as goal

pub returns-clause-within : goal.returns-clause-within
returns-clause-within g c = c.spill-written.ensures.within (λ partition at below some. let never : None ≡ Some at = sym (c.begun-replicas.ensures.unspilled partition) ∙ some in absurd cc)
