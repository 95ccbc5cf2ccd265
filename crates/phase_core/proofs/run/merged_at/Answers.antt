-- One worker more.
use Rattle.std.proofs.Common.{◌≡◌, ◌+◌, ◌*◌, ◌<◌, ℕ, length, sym, subst, ◌∙◌, ap}
use Rattle.graph_model.specs.Programs.{Rules}
use Rattle.phase_core.specs.View.{machine_of}
use Rattle.phase_core.proofs.Tables.{entry-read, in_table}
use Rattle.phase_core.proofs.Merging.{merged_more}
use Rattle.phase_core.proofs.run.merged_at.Goals as goal

pub loop-worker-preserved : goal.loop-worker-preserved
loop-worker-preserved g c =
    let p : Rules = g.P.VertexProgram.rules c.args.program.now in
    let f : ℕ → ℕ = λ worker. (machine_of c.args.core.now).sums worker c.args.vertex in
    let worker : ℕ = c.loop-worker.worker in
    let vertices : ℕ = c.args.core.now.split.vertices in
    let below : vertices * worker + c.args.vertex < length c.args.core.now.sums.items =
    subst (λ k. vertices * worker + c.args.vertex < k) (sym c.args.core.now.sums_long) (in_table vertices worker c.args.core.now.split.engines c.args.vertex c.requires c.loop-worker-test.true) in
    let read : c.index.result.now ≡ f worker = entry-read vertices c.args.core.now.unit c.args.core.now.sums.items worker c.args.vertex c.index.result.now c.requires below c.index.ensures in
    c.merge-merged.ensures ∙ ap (λ sum. p.merge sum c.index.result.now) c.loop-worker.invariant ∙ ap (p.merge _) read ∙ sym (merged_more p.unit p.merge f worker)
