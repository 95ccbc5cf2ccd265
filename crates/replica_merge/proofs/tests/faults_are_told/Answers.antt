-- Nothing was spilled before.
use Rattle.std.proofs.Common.{◌≡◌, None, Some, sym, ◌∙◌}
use Rattle.replica_merge.proofs.tests.faults_are_told.Goals as goal

pub merged-sums-requires-clause-within : goal.merged-sums-requires-clause-within
merged-sums-requires-clause-within g c = (c.spilled-one.ensures.within, c.spill-written.ensures.within (λ partition at below some. let never : None ≡ Some at = sym (c.begun-replicas.ensures.unspilled partition) ∙ some in absurd cc))
