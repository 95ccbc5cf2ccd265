use Rattle.std.proofs.Common.{rules}
use Rattle.steal_policy.proofs.Looking.{looked_more}
use Rattle.steal_policy.proofs.proposal.chunks_left.Goals as goal

pub loop-engine-preserved : goal.loop-engine-preserved
loop-engine-preserved c = (
  search rules,
  looked_more _ _ _ _ _ _ _ c.loop-engine.invariant.1 c.look-left.ensures.call c.look-left.ensures.most.1,
)
