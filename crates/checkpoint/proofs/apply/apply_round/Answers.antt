-- The slot is closed, written and opened.
use Rattle.std.proofs.Common.{ℕ, List, Option, subst}
use Rattle.graph_model.specs.declared.value.Value.{Value}
use Rattle.graph_model.specs.Programs.{Rules}
use Rattle.partitioner.specs.declared.split.Split.{Split}
use Rattle.ports.specs.Disk.{DiskState}
use Rattle.ports.specs.Stops.{Leaves}
use Rattle.ports.specs.Told.{AsTold}
use Rattle.ports.proofs.Told.{as_told_to}
use Rattle.store_reader.specs.Reading.{own_in}
use Rattle.store_model.specs.Slots.{slot_of}
use Rattle.checkpoint.specs.Applied.{sums_in, applied_on, changed_by}
use Rattle.checkpoint.specs.SlotStates.{SameOther}
use Rattle.checkpoint.specs.Storing.{WhileStoring}
use Rattle.checkpoint.proofs.SlotSteps.{closing_on, keeps_other, not_yet, storing_on, other_while_storing, open_now, holds_now, same_other_then}
use Rattle.checkpoint.proofs.Partwise.{round_stands}
use Rattle.checkpoint.proofs.apply.apply_round.Goals as goal

pub returns-in_err-changed-clause-other : goal.returns-in_err-changed-clause-other
returns-in_err-changed-clause-other g c =
    let disks = g.met.D.Disk g.world.𝓛 g.world.𝓜 g.world.𝓡 ((λ s x. x), (λ x. x), (λ x. x), λ x. x) in
    let context = c.args.context.now in
    let own : ℕ = own_in context.split.now c.args.engine in
    let slot : ℕ = slot_of context.round in
    let start : DiskState = g.D.Disk.state c.args.disk.now in
    let mid : DiskState = g.D.Disk.state c.close_slot.new.disk in
    let new : DiskState = g.D.Disk.state c.write_partitions.new.disk in
    keeps_other own slot context.beat.now start new
    (closing_on own slot context.beat.now start mid new (disks.lawful c.close_slot.new.disk) c.in_ok-close_slot.ensures.closed c.close_slot.ensures.any_moment c.write_partitions.ensures.any_moment)

pub returns-in_err-changed-clause-any_moment : goal.returns-in_err-changed-clause-any_moment
returns-in_err-changed-clause-any_moment g c = λ devices read before told_devices told_read stands.
    let disks = g.met.D.Disk g.world.𝓛 g.world.𝓜 g.world.𝓡 ((λ s x. x), (λ x. x), (λ x. x), λ x. x) in
    let context = c.args.context.now in
    let rules : Rules = g.P.VertexProgram.rules context.program.now in
    let own : ℕ = own_in context.split.now c.args.engine in
    let slot : ℕ = slot_of context.round in
    let start : DiskState = g.D.Disk.state c.args.disk.now in
    let mid : DiskState = g.D.Disk.state c.close_slot.new.disk in
    let new : DiskState = g.D.Disk.state c.write_partitions.new.disk in
    let values : List Value = applied_on rules context.split.now c.args.engine context.round context.replicas.now devices before in
    not_yet own slot context.round (changed_by context.round before values) context.beat.now values start new
    (closing_on own slot context.beat.now start mid new (disks.lawful c.close_slot.new.disk) c.in_ok-close_slot.ensures.closed c.close_slot.ensures.any_moment c.write_partitions.ensures.any_moment)

pub returns-in_err-open_slot-clause-other : goal.returns-in_err-open_slot-clause-other
returns-in_err-open_slot-clause-other g c =
    let disks = g.met.D.Disk g.world.𝓛 g.world.𝓜 g.world.𝓡 ((λ s x. x), (λ x. x), (λ x. x), λ x. x) in
    let context = c.args.context.now in
    let own : ℕ = own_in context.split.now c.args.engine in
    let slot : ℕ = slot_of context.round in
    let start : DiskState = g.D.Disk.state c.args.disk.now in
    let closed : DiskState = g.D.Disk.state c.close_slot.new.disk in
    let mid : DiskState = g.D.Disk.state c.write_partitions.new.disk in
    let new : DiskState = g.D.Disk.state c.open_slot.new.disk in
    other_while_storing own slot context.beat.now start mid new context.round c.in_ok-changed.changed (disks.lawful c.write_partitions.new.disk)
    (closing_on own slot context.beat.now start closed mid (disks.lawful c.close_slot.new.disk) c.in_ok-close_slot.ensures.closed c.close_slot.ensures.any_moment c.write_partitions.ensures.any_moment)
    c.open_slot.ensures.any_moment

pub returns-clause-other : goal.returns-clause-other
returns-clause-other g c =
    let disks = g.met.D.Disk g.world.𝓛 g.world.𝓜 g.world.𝓡 ((λ s x. x), (λ x. x), (λ x. x), λ x. x) in
    let context = c.args.context.now in
    let own : ℕ = own_in context.split.now c.args.engine in
    let slot : ℕ = slot_of context.round in
    let start : DiskState = g.D.Disk.state c.args.disk.now in
    let closed : DiskState = g.D.Disk.state c.close_slot.new.disk in
    let mid : DiskState = g.D.Disk.state c.write_partitions.new.disk in
    let new : DiskState = g.D.Disk.state c.open_slot.new.disk in
    other_while_storing own slot context.beat.now start mid new context.round c.in_ok-changed.changed (disks.lawful c.write_partitions.new.disk)
    (closing_on own slot context.beat.now start closed mid (disks.lawful c.close_slot.new.disk) c.in_ok-close_slot.ensures.closed c.close_slot.ensures.any_moment c.write_partitions.ensures.any_moment)
    c.open_slot.ensures.any_moment

pub returns-in_err-open_slot-clause-any_moment : goal.returns-in_err-open_slot-clause-any_moment
returns-in_err-open_slot-clause-any_moment g c = λ devices read before told_devices told_read stands.
    let disks = g.met.D.Disk g.world.𝓛 g.world.𝓜 g.world.𝓡 ((λ s x. x), (λ x. x), (λ x. x), λ x. x) in
    let context = c.args.context.now in
    let split : Split = context.split.now in
    let rules : Rules = g.P.VertexProgram.rules context.program.now in
    let own : ℕ = own_in split c.args.engine in
    let slot : ℕ = slot_of context.round in
    let start : DiskState = g.D.Disk.state c.args.disk.now in
    let closed : DiskState = g.D.Disk.state c.close_slot.new.disk in
    let mid : DiskState = g.D.Disk.state c.write_partitions.new.disk in
    let new : DiskState = g.D.Disk.state c.open_slot.new.disk in
    let sums : ℕ → List ℕ = sums_in rules split context.replicas.now devices in
    let values : List Value = applied_on rules split c.args.engine context.round context.replicas.now devices before in
    let told = as_told_to (SameOther own slot) read closed.bytes (subst (λ (x : Option (List ℕ)). AsTold (SameOther own slot) x closed.bytes) told_read c.close_slot.ensures.bytes) in
    let both = round_stands rules split c.args.engine context.round slot sums before c.in_ok-changed.changed read told.0 mid.bytes stands told.2
    (subst (λ (x : Option (List ℕ)). AsTold (SameOther own slot) x mid.bytes) told.1 c.write_partitions.ensures.bytes)
    (λ other now told_now ready. c.in_ok-changed.ensures.stored devices told.0 now other told_devices told.1 told_now ready) in
    subst (λ (n : ℕ). Leaves context.beat.now start new (WhileStoring own slot context.round n values start)) both.1
    (storing_on own slot context.round c.in_ok-changed.changed context.beat.now values start mid new (disks.lawful c.write_partitions.new.disk)
    (closing_on own slot context.beat.now start closed mid (disks.lawful c.close_slot.new.disk) c.in_ok-close_slot.ensures.closed c.close_slot.ensures.any_moment c.write_partitions.ensures.any_moment)
    c.open_slot.ensures.any_moment
    both.0)

pub returns-clause-any_moment : goal.returns-clause-any_moment
returns-clause-any_moment g c = λ devices read before told_devices told_read stands.
    let disks = g.met.D.Disk g.world.𝓛 g.world.𝓜 g.world.𝓡 ((λ s x. x), (λ x. x), (λ x. x), λ x. x) in
    let context = c.args.context.now in
    let split : Split = context.split.now in
    let rules : Rules = g.P.VertexProgram.rules context.program.now in
    let own : ℕ = own_in split c.args.engine in
    let slot : ℕ = slot_of context.round in
    let start : DiskState = g.D.Disk.state c.args.disk.now in
    let closed : DiskState = g.D.Disk.state c.close_slot.new.disk in
    let mid : DiskState = g.D.Disk.state c.write_partitions.new.disk in
    let new : DiskState = g.D.Disk.state c.open_slot.new.disk in
    let sums : ℕ → List ℕ = sums_in rules split context.replicas.now devices in
    let values : List Value = applied_on rules split c.args.engine context.round context.replicas.now devices before in
    let told = as_told_to (SameOther own slot) read closed.bytes (subst (λ (x : Option (List ℕ)). AsTold (SameOther own slot) x closed.bytes) told_read c.close_slot.ensures.bytes) in
    let both = round_stands rules split c.args.engine context.round slot sums before c.in_ok-changed.changed read told.0 mid.bytes stands told.2
    (subst (λ (x : Option (List ℕ)). AsTold (SameOther own slot) x mid.bytes) told.1 c.write_partitions.ensures.bytes)
    (λ other now told_now ready. c.in_ok-changed.ensures.stored devices told.0 now other told_devices told.1 told_now ready) in
    subst (λ (n : ℕ). Leaves context.beat.now start new (WhileStoring own slot context.round n values start)) both.1
    (storing_on own slot context.round c.in_ok-changed.changed context.beat.now values start mid new (disks.lawful c.write_partitions.new.disk)
    (closing_on own slot context.beat.now start closed mid (disks.lawful c.close_slot.new.disk) c.in_ok-close_slot.ensures.closed c.close_slot.ensures.any_moment c.write_partitions.ensures.any_moment)
    c.open_slot.ensures.any_moment
    both.0)

pub returns-clause-stored : goal.returns-clause-stored
returns-clause-stored g c = λ devices read before told_devices told_read stands.
    let disks = g.met.D.Disk g.world.𝓛 g.world.𝓜 g.world.𝓡 ((λ s x. x), (λ x. x), (λ x. x), λ x. x) in
    let context = c.args.context.now in
    let split : Split = context.split.now in
    let rules : Rules = g.P.VertexProgram.rules context.program.now in
    let own : ℕ = own_in split c.args.engine in
    let slot : ℕ = slot_of context.round in
    let closed : DiskState = g.D.Disk.state c.close_slot.new.disk in
    let mid : DiskState = g.D.Disk.state c.write_partitions.new.disk in
    let new : DiskState = g.D.Disk.state c.open_slot.new.disk in
    let sums : ℕ → List ℕ = sums_in rules split context.replicas.now devices in
    let values : List Value = applied_on rules split c.args.engine context.round context.replicas.now devices before in
    let told = as_told_to (SameOther own slot) read closed.bytes (subst (λ (x : Option (List ℕ)). AsTold (SameOther own slot) x closed.bytes) told_read c.close_slot.ensures.bytes) in
    let both = round_stands rules split c.args.engine context.round slot sums before c.in_ok-changed.changed read told.0 mid.bytes stands told.2
    (subst (λ (x : Option (List ℕ)). AsTold (SameOther own slot) x mid.bytes) told.1 c.write_partitions.ensures.bytes)
    (λ other now told_now ready. c.in_ok-changed.ensures.stored devices told.0 now other told_devices told.1 told_now ready) in (
      holds_now own slot context.round c.in_ok-changed.changed context.beat.now values mid new (disks.lawful c.write_partitions.new.disk) (disks.lawful c.open_slot.new.disk)
          c.open_slot.ensures.any_moment c.in_ok-open_slot.ensures.opened
          both.0,
      both.1,
    )

pub returns-clause-opened : goal.returns-clause-opened
returns-clause-opened g c =
    let disks = g.met.D.Disk g.world.𝓛 g.world.𝓜 g.world.𝓡 ((λ s x. x), (λ x. x), (λ x. x), λ x. x) in
    let context = c.args.context.now in
    open_now (own_in context.split.now c.args.engine) (slot_of context.round) context.round c.in_ok-changed.changed context.beat.now (g.D.Disk.state c.write_partitions.new.disk) (g.D.Disk.state c.open_slot.new.disk)
    (disks.lawful c.open_slot.new.disk) c.open_slot.ensures.any_moment c.in_ok-open_slot.ensures.opened

pub returns-in_err-changed-clause-bytes : goal.returns-in_err-changed-clause-bytes
returns-in_err-changed-clause-bytes g c =
    let context = c.args.context.now in
    let own : ℕ = own_in context.split.now c.args.engine in
    let slot : ℕ = slot_of context.round in
    let start : DiskState = g.D.Disk.state c.args.disk.now in
    let closed : DiskState = g.D.Disk.state c.close_slot.new.disk in
    let mid : DiskState = g.D.Disk.state c.write_partitions.new.disk in
    same_other_then own slot start.bytes closed.bytes mid.bytes c.close_slot.ensures.bytes c.write_partitions.ensures.bytes

pub returns-in_err-open_slot-clause-bytes : goal.returns-in_err-open_slot-clause-bytes
returns-in_err-open_slot-clause-bytes g c =
    let context = c.args.context.now in
    let own : ℕ = own_in context.split.now c.args.engine in
    let slot : ℕ = slot_of context.round in
    let start : DiskState = g.D.Disk.state c.args.disk.now in
    let closed : DiskState = g.D.Disk.state c.close_slot.new.disk in
    let mid : DiskState = g.D.Disk.state c.write_partitions.new.disk in
    let new : DiskState = g.D.Disk.state c.open_slot.new.disk in
    same_other_then own slot start.bytes closed.bytes new.bytes c.close_slot.ensures.bytes (same_other_then own slot closed.bytes mid.bytes new.bytes c.write_partitions.ensures.bytes c.open_slot.ensures.bytes)

pub returns-clause-bytes : goal.returns-clause-bytes
returns-clause-bytes g c =
    let context = c.args.context.now in
    let own : ℕ = own_in context.split.now c.args.engine in
    let slot : ℕ = slot_of context.round in
    let start : DiskState = g.D.Disk.state c.args.disk.now in
    let closed : DiskState = g.D.Disk.state c.close_slot.new.disk in
    let mid : DiskState = g.D.Disk.state c.write_partitions.new.disk in
    let new : DiskState = g.D.Disk.state c.open_slot.new.disk in
    same_other_then own slot start.bytes closed.bytes new.bytes c.close_slot.ensures.bytes (same_other_then own slot closed.bytes mid.bytes new.bytes c.write_partitions.ensures.bytes c.open_slot.ensures.bytes)
