use Rattle.std.proofs.Common.{refl}
use Rattle.gather_phase.proofs.Adding.{counted_more}
use Rattle.gather_phase.proofs.sums.count_edges.Goals as goal

pub loop-edge-preserved : goal.loop-edge-preserved
loop-edge-preserved c = let at = c.requires.within c.loop-edge.edge-index (record { src = 0; dst = 0; weight = 0 }) c.loop-edge-test.true in counted_more c.args.first c.args.edges.now c.loop-edge.edge-index (record { src = 0; dst = 0; weight = 0 }) c.args.counts.now c.loop-edge.counts _ _ _ c.loop-edge-test.true c.loop-edge.invariant at.0 at.1 refl c.plus.ensures refl
