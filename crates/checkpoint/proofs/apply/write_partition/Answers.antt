-- The sums are merged, and then the values are made and written.
use Rattle.std.proofs.Common.{◌≡◌, ℕ, List, subst, arith}
use Rattle.graph_model.specs.Programs.{Rules}
use Rattle.store_reader.specs.Reading.{own_in, master_in}
use Rattle.checkpoint.specs.Applied.{sums_in}
use Rattle.checkpoint.specs.Storing.{StoresPartition}
use Rattle.checkpoint.proofs.SlotSteps.{closed_start}
use Rattle.checkpoint.proofs.Partwise.{sums_are, if_ok_map}
use Rattle.checkpoint.proofs.apply.write_partition.Goals as goal

pub returns-in_err-merge_replicas-clause-any_moment : goal.returns-in_err-merge_replicas-clause-any_moment
returns-in_err-merge_replicas-clause-any_moment g c =
    let disks = g.met.D.Disk g.world.𝓛 g.world.𝓜 g.world.𝓡 ((λ s x. x), (λ x. x), (λ x. x), λ x. x) in
    let split = c.args.context.now.split.now in
    closed_start (own_in split (master_in split c.args.partition)) c.args.slot c.args.context.now.beat.now (g.D.Disk.state c.args.disk.now) (disks.lawful c.args.disk.now) c.requires.closed

pub returns-clause-stored : goal.returns-clause-stored
returns-clause-stored g c =
    if_ok_map c.write_values.result
    (λ changed stored devices read now before told told_read told_now stands.
    let split = c.args.context.now.split.now in
    let rules : Rules = g.P.VertexProgram.rules c.args.context.now.program.now in
    let sums : c.merge_replicas.new.into ≡ sums_in rules split c.args.context.now.replicas.now devices c.args.partition =
    sums_are rules split c.args.context.now.replicas.now devices c.args.partition c.merge_replicas.new.into (omega (arith, c.requires.sums, c.merge_replicas.auto.into)) (c.in_ok-merge_replicas.ensures.merged devices told) in
    subst (λ (s : List ℕ). StoresPartition rules split c.args.context.now.round s c.args.partition c.args.slot before changed read now) sums
    (stored read now before told_read told_now stands))
    c.write_values.ensures.stored
