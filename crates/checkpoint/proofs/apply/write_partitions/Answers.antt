-- One partition more, and all of them.
use Rattle.std.proofs.Common.{◌≡◌, ℕ, Some, map, refl, sym, ◌∙◌, subst, arith}
use Rattle.graph_model.specs.Programs.{Rules}
use Rattle.partitioner.specs.declared.split.Split.{Split}
use Rattle.ports.specs.Disk.{DiskState, InEveryImage}
use Rattle.ports.specs.Stops.{Leaves}
use Rattle.store_reader.specs.Reading.{own_in, master_in}
use Rattle.store_model.specs.Slots.{IsClosed}
use Rattle.checkpoint.specs.Applied.{sums_in}
use Rattle.checkpoint.specs.SlotStates.{HasExactSize, WhileClosing}
use Rattle.checkpoint.proofs.SlotSteps.{writing_on}
use Rattle.checkpoint.proofs.Partwise.{begun, skip, step_of, ended, length-sums_in}
use Rattle.checkpoint.proofs.apply.write_partitions.Goals as goal

pub loop-partition-init : goal.loop-partition-init
loop-partition-init g c =
    let disks = g.met.D.Disk g.world.𝓛 g.world.𝓜 g.world.𝓡 ((λ s x. x), (λ x. x), (λ x. x), λ x. x) in
    let context = c.args.context.now in
    let rules : Rules = g.P.VertexProgram.rules context.program.now in
    record {
      so_far = begun rules context.split.now context.round c.args.slot context.beat.now (sums_in rules context.split.now context.replicas.now)
          (λ devices. map (λ d. (g.D.Disk.state d).bytes) context.spills.now ≡ map (λ device. Some device) devices)
          (g.D.Disk.state c.args.disk.now) c.args.engine (disks.lawful c.args.disk.now) c.requires.exact c.requires.closed;
      few = omega arith;
      beat = c.requires.beat;
      faults = omega arith;
      reads = omega arith;
      calm = (refl, refl);
    }

pub loop-partition-preserved-then-master_of-engine : goal.loop-partition-preserved-then-master_of-engine
loop-partition-preserved-then-master_of-engine g c =
    let context = c.args.context.now in
    let rules : Rules = g.P.VertexProgram.rules context.program.now in
    record {
      so_far = skip rules context.split.now context.round c.args.slot context.beat.now (sums_in rules context.split.now context.replicas.now)
          (λ devices. map (λ d. (g.D.Disk.state d).bytes) context.spills.now ≡ map (λ device. Some device) devices)
          (g.D.Disk.state c.args.disk.now) c.args.engine c.loop-partition.partition c.loop-partition.changed (g.D.Disk.state c.loop-partition.disk)
          (λ same. c.if-master_of-engine.true (c.master_of.ensures ∙ same)) c.loop-partition.invariant.so_far;
      few = omega (arith, c.loop-partition.invariant.few);
      beat = c.loop-partition.invariant.beat;
      faults = c.loop-partition.invariant.faults;
      reads = c.loop-partition.invariant.reads;
      calm = c.loop-partition.invariant.calm;
    }

pub write_partition-requires-clause-exact : goal.write_partition-requires-clause-exact
write_partition-requires-clause-exact g c κs lives =
    let split : Split = c.args.context.now.split.now in
    let mine : master_in split c.loop-partition.partition ≡ c.args.engine = sym c.master_of.ensures ∙ c.if-master_of-engine.false in
    subst (λ (e : ℕ). HasExactSize (own_in split e) (g.D.Disk.state c.loop-partition.disk)) (sym mine) c.loop-partition.invariant.so_far.exact

pub write_partition-requires-clause-closed : goal.write_partition-requires-clause-closed
write_partition-requires-clause-closed g c κs lives =
    let split : Split = c.args.context.now.split.now in
    let mine : master_in split c.loop-partition.partition ≡ c.args.engine = sym c.master_of.ensures ∙ c.if-master_of-engine.false in
    subst (λ (e : ℕ). InEveryImage (g.D.Disk.state c.loop-partition.disk) (IsClosed (own_in split e) c.args.slot)) (sym mine) c.loop-partition.invariant.so_far.closed

pub returns-in_err-changed-clause-any_moment : goal.returns-in_err-changed-clause-any_moment
returns-in_err-changed-clause-any_moment g c =
    let disks = g.met.D.Disk g.world.𝓛 g.world.𝓜 g.world.𝓡 ((λ s x. x), (λ x. x), (λ x. x), λ x. x) in
    let split : Split = c.args.context.now.split.now in
    let number : ℕ = c.args.context.now.beat.now in
    let start : DiskState = g.D.Disk.state c.args.disk.now in
    let mid : DiskState = g.D.Disk.state c.loop-partition.disk in
    let new : DiskState = g.D.Disk.state c.write_partition.new.disk in
    let mine : master_in split c.loop-partition.partition ≡ c.args.engine = sym c.master_of.ensures ∙ c.if-master_of-engine.false in
    subst (λ (e : ℕ). Leaves number start new (WhileClosing (own_in split e) c.args.slot start)) mine
    (writing_on (own_in split (master_in split c.loop-partition.partition)) c.args.slot number start mid new (disks.lawful c.loop-partition.disk)
    (subst (λ (e : ℕ). Leaves number start mid (WhileClosing (own_in split e) c.args.slot start)) (sym mine) c.loop-partition.invariant.so_far.any_moment)
    c.write_partition.ensures.any_moment)

pub loop-partition-preserved : goal.loop-partition-preserved
loop-partition-preserved g c =
    let disks = g.met.D.Disk g.world.𝓛 g.world.𝓜 g.world.𝓡 ((λ s x. x), (λ x. x), (λ x. x), λ x. x) in
    let context = c.args.context.now in
    let rules : Rules = g.P.VertexProgram.rules context.program.now in
    let mine : master_in context.split.now c.loop-partition.partition ≡ c.args.engine = sym c.master_of.ensures ∙ c.if-master_of-engine.false in
    let p : ℕ = c.loop-partition.partition in
    record {
      so_far = step_of rules context.split.now context.round c.args.slot context.beat.now (sums_in rules context.split.now context.replicas.now)
          (λ devices. map (λ d. (g.D.Disk.state d).bytes) context.spills.now ≡ map (λ device. Some device) devices)
          (g.D.Disk.state c.args.disk.now) c.args.engine p c.loop-partition.changed c.in_ok-changed.field-0 (g.D.Disk.state c.loop-partition.disk) (g.D.Disk.state c.write_partition.new.disk)
          c.requires.slot mine c.loop-partition-test.true (disks.lawful c.loop-partition.disk) (λ devices. length-sums_in rules context.split.now context.replicas.now devices p)
          c.loop-partition.invariant.so_far c.write_partition.ensures.any_moment c.write_partition.ensures.closed c.write_partition.ensures.exact c.write_partition.ensures.bytes c.in_ok-changed.ensures.stored;
      few = omega (arith, c.loop-partition.invariant.few, c.in_ok-changed.ensures.few);
      beat = c.write_partition.ensures.beat;
      faults = omega (arith, c.loop-partition.invariant.faults, c.write_partition.ensures.cause.later);
      reads = omega (arith, c.loop-partition.invariant.reads, c.write_partition.ensures.cause.later');
      calm = (c.in_ok-changed.ensures.cause.calm.0 ∙ c.loop-partition.invariant.calm.0, c.in_ok-changed.ensures.cause.calm.1 ∙ c.loop-partition.invariant.calm.1);
    }

pub returns-clause-stored : goal.returns-clause-stored
returns-clause-stored g c = λ devices read now before told_devices told_read told_now stands.
    let context = c.args.context.now in
    let rules : Rules = g.P.VertexProgram.rules context.program.now in
    let last : c.loop-partition.partition ≡ context.split.now.parts = omega arith in
    (ended rules context.split.now context.round c.args.slot context.beat.now (sums_in rules context.split.now context.replicas.now)
    (λ devices'. map (λ d. (g.D.Disk.state d).bytes) context.spills.now ≡ map (λ device. Some device) devices')
    (g.D.Disk.state c.args.disk.now) c.args.engine c.loop-partition.partition c.loop-partition.changed (g.D.Disk.state c.loop-partition.disk) last c.loop-partition.invariant.so_far).stored
    devices read now before told_devices told_read told_now stands
