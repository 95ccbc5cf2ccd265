-- Gate 0 over an open gate, behind a sync.
use Rattle.std.proofs.Common.{◌≡◌, ◌-◌, ℕ, ap, ◌∙◌, subst, arith}
use Rattle.ports.specs.Bytes.{Torn, Same}
use Rattle.ports.specs.Disk.{DiskState, IsDisk, After}
use Rattle.ports.specs.Stops.{Leaves}
use Rattle.ports.specs.Told.{AsTold}
use Rattle.ports.proofs.Told.{as_told_then}
use Rattle.store_model.specs.Slots.{slot_start, slot_bytes}
use Rattle.store_reader.specs.Reading.{own_in}
use Rattle.checkpoint.specs.SlotStates.{SameOther}
use Rattle.checkpoint.proofs.SlotSteps.{closing_run, told_other, told_gate}
use Rattle.checkpoint.proofs.slots.close_slot.Goals as goal

pub returns-clause-any_moment : goal.returns-clause-any_moment
returns-clause-any_moment g c =
    let disks = g.met.D.Disk g.world.𝓛 g.world.𝓜 g.world.𝓡 ((λ s x. x), (λ x. x), (λ x. x), λ x. x) in
    let own : ℕ = own_in c.args.split.now c.args.engine in
    let start : DiskState = g.D.Disk.state c.args.disk.now in
    let synced : DiskState = g.D.Disk.state c.sync.new.self in
    let new : DiskState = g.D.Disk.state c.write_gate.new.disk in
    let place : c.slot_start.result ≡ slot_start own c.args.slot = c.slot_start.ensures ∙ ap (λ n. slot_start n c.args.slot) c.own.ensures in
    closing_run own c.args.slot c.requires.slot c.args.beat.now start synced new (disks.lawful c.args.disk.now) (disks.lawful c.sync.new.self)
    c.in_ok-sync.ensures.changes c.in_ok-sync.ensures.settled (c.sync.ensures.size ∙ c.requires.size)
    (told_gate own c.args.slot c.in_ok-head.head synced.bytes c.if-not-head.false c.in_ok-head.ensures.head)
    (subst (λ (at : ℕ). Leaves c.args.beat.now synced new (After (Torn at 1) synced)) place c.write_gate.ensures.any_moment)

pub returns-clause-bytes : goal.returns-clause-bytes
returns-clause-bytes g c =
    let disks = g.met.D.Disk g.world.𝓛 g.world.𝓜 g.world.𝓡 ((λ s x. x), (λ x. x), (λ x. x), λ x. x) in
    let own : ℕ = own_in c.args.split.now c.args.engine in
    let start : DiskState = g.D.Disk.state c.args.disk.now in
    let synced : DiskState = g.D.Disk.state c.sync.new.self in
    let new : DiskState = g.D.Disk.state c.write_gate.new.disk in
    let law : IsDisk synced = disks.lawful c.sync.new.self in
    let place : c.slot_start.result ≡ slot_start own c.args.slot = c.slot_start.ensures ∙ ap (λ n. slot_start n c.args.slot) c.own.ensures in
    let gate : AsTold (SameOther own c.args.slot) synced.bytes new.bytes =
    told_other own c.args.slot c.requires.slot c.slot_start.result 1 synced.size synced.bytes new.bytes law.sized (c.sync.ensures.size ∙ c.requires.size)
    (omega (arith, place)) (omega (arith, place)) c.write_gate.ensures.bytes in
    as_told_then Same (SameOther own c.args.slot) (SameOther own c.args.slot)
    (λ a b d same other. other ∙ ap (λ bytes. slot_bytes own (1 - c.args.slot) bytes) same)
    start.bytes synced.bytes new.bytes c.sync.ensures.changes.bytes gate
