-- A worker more, and all workers.
use Rattle.std.proofs.Common.{◌≡◌, ℕ, ◌<◌, List, None, [], length, take, get_or, ◌∙◌, ap, arith}
use Rattle.std.proofs.lemmas.List.{take_all}
use Rattle.std.proofs.lemmas.List.Elements.{All-get_or}
use Rattle.replica_merge.specs.declared.replicas.Replicas.{Replicas}
use Rattle.graph_model.specs.Rounds.{merged}
use Rattle.graph_model.specs.Programs.{Rules}
use Rattle.replica_merge.specs.Accumulators.{accumulators_of, place_of}
use Rattle.replica_merge.specs.Merging.{sums_for}
use Rattle.replica_merge.proofs.MergeSteps.{merged_worker, told_at, length-told}
use Rattle.replica_merge.proofs.merge.merge_replicas.Goals as goal

pub loop-worker-preserved : goal.loop-worker-preserved
loop-worker-preserved g c = record {
  told = λ devices told v below.
      let many : length devices ≡ length c.args.disks.now = length-told (λ d. (g.D.Disk.state d).bytes) c.args.disks.now devices told in
      let rules : Rules = g.P.VertexProgram.rules c.args.program.now in
      let w : ℕ = c.loop-worker.worker in
      let device : List ℕ = get_or devices w [] in
      let here : v < length c.loop-worker.into = omega arith in
      merged_worker rules c.args.replicas.now devices w c.args.partition v c.index-replicas-worker.result c.loop-worker.into c.merge_worker.new.into
      (omega arith) (omega (arith, many, c.requires.disks))
      (c.loop-worker.invariant.told devices told v here)
      (c.in_ok-merge_worker.ensures.merged device
      (ap (λ d. (g.D.Disk.state d).bytes) c.index-disks-worker.is
      ∙ told_at (λ d. (g.D.Disk.state d).bytes) c.args.disks.now devices w c.index-disks-worker.result told (omega (arith, c.requires.disks)))
      v here
      ∙ ap (λ r. rules.merge (get_or c.loop-worker.into v 0) (get_or (accumulators_of r device c.args.partition) v 0)) c.index-replicas-worker.is);
  unread = λ none.
      (c.in_ok-merge_worker.ensures.unread (ap (λ r. place_of r c.args.partition) c.index-replicas-worker.is
      ∙ All-get_or (λ (r : Replicas). place_of r c.args.partition ≡ None) c.args.replicas.now c.loop-worker.worker c.index-replicas-worker.result (omega arith) none)).0
      ∙ c.loop-worker.invariant.unread none;
  later = omega (arith, c.in_ok-merge_worker.ensures.cause.later);
  calm = c.in_ok-merge_worker.ensures.cause.calm ∙ c.loop-worker.invariant.calm;
}

pub returns-clause-merged : goal.returns-clause-merged
returns-clause-merged g c = λ devices told v below.
    let many : length devices ≡ length c.args.disks.now = length-told (λ d. (g.D.Disk.state d).bytes) c.args.disks.now devices told in
    let w : ℕ = c.loop-worker.worker in
    c.loop-worker.invariant.told devices told v below
    ∙ ap (λ rs. merged (g.P.VertexProgram.rules c.args.program.now) (sums_for rs (take w devices) c.args.partition v)) (take_all w c.args.replicas.now (omega arith))
    ∙ ap (λ ds. merged (g.P.VertexProgram.rules c.args.program.now) (sums_for c.args.replicas.now ds c.args.partition v)) (take_all w devices (omega (arith, many, c.requires.disks)))
