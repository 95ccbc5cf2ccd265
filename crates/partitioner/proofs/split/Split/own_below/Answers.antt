-- One more partition adds its vertices where the engine is its master, and none elsewhere.
use Rattle.std.proofs.Common.{◌+◌, ◌∙◌, sym, ℕ, arith}
use Rattle.partitioner.proofs.Ranges.{first_vertex-next}
use Rattle.partitioner.proofs.Owned.{own_below-master, own_below-other}
use Rattle.partitioner.proofs.split.Split.own_below.Goals as goal
use Rattle.partitioner.proofs.split.Split.own_below.Goals.{then-master_of-engine, else-master_of-engine}

-- src/split.rt:111:9
pub loop-lower-preserved : goal.loop-lower-preserved
loop-lower-preserved c =
    let n : ℕ = c.args.self.now.vertices in
    let engines : ℕ = c.args.self.now.engines in
    let parts : ℕ = c.args.self.now.parts in
    let lower : ℕ = c.loop-lower.lower in
    let next = first_vertex-next n parts lower (lower + 1) (omega arith) in
    elim c.if-master_of-engine.branch [
      | then-master_of-engine w ↦
          let more = own_below-master n engines parts lower c.args.engine (sym c.master_of.ensures ∙ w.if-master_of-engine.true) in
          record {
            counted = omega (arith, more, next, w.count-is, w.range-first.ensures.first, w.range-first.ensures.end, c.loop-lower.invariant.counted);
            small = omega (arith, next, w.count-is, w.range-first.ensures.first, w.range-first.ensures.end, c.loop-lower.invariant.small);
          }
      | else-master_of-engine w ↦
          let fewer = own_below-other n engines parts lower c.args.engine (λ master. w.if-master_of-engine.false (c.master_of.ensures ∙ master)) in
          record {
            counted = omega (arith, fewer, w.count-is, c.loop-lower.invariant.counted);
            small = omega (arith, next, w.count-is, c.loop-lower.invariant.small);
          }
    ]
