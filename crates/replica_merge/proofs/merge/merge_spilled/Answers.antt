-- A piece more, and all pieces.
use Rattle.std.proofs.Common.{ℕ, ◌+◌, ◌*◌, length, take, refl, ◌∙◌, arith, length-take}
use Rattle.ports.proofs.Told.{sized_at}
use Rattle.replica_merge.proofs.MergeSteps.{merged_piece}
use Rattle.replica_merge.proofs.merge.merge_spilled.Goals as goal

pub loop-done-preserved : goal.loop-done-preserved
loop-done-preserved g c =
    let disks = g.met.D.Disk g.world.𝓛 g.world.𝓜 g.world.𝓡 ((λ s x. x), (λ x. x), (λ x. x), λ x. x) in
    let done : ℕ = c.loop-done.done in
    let count : ℕ = c.min-count.result in
    record {
      within = omega arith;
      told = λ device told.
          merged_piece (g.P.VertexProgram.rules c.args.program.now) c.args.at done count (c.args.at + 8 * done) (length (take (8 * count) c.loop-done.bytes))
          device c.args.into.now c.loop-done.into c.merge_piece.new.into
          (omega arith) refl (omega (arith, length-take (8 * count) c.loop-done.bytes))
          (omega (arith, sized_at (g.D.Disk.state c.args.disk.now) device (disks.lawful c.args.disk.now) told))
          (c.loop-done.invariant.told device told) (c.in_ok-merge_piece.ensures.merged device told);
      later = omega (arith, c.in_ok-merge_piece.ensures.cause.later);
      calm = c.in_ok-merge_piece.ensures.cause.calm ∙ c.loop-done.invariant.calm;
    }

pub returns-clause-merged : goal.returns-clause-merged
returns-clause-merged g c = λ device told v below. (c.loop-done.invariant.told device told).here v (omega arith)
