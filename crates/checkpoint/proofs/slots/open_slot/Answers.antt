-- The numbers, and then the gate.
use Rattle.std.proofs.Common.{◌≡◌, ◌+◌, ℕ, [], ◌∷◌, ap, ◌∙◌, subst, arith}
use Rattle.ports.specs.Bytes.{Torn, after_write}
use Rattle.ports.specs.Disk.{DiskState, IsDisk, After}
use Rattle.ports.specs.Stops.{Leaves}
use Rattle.ports.specs.Told.{AsTold}
use Rattle.ports.proofs.Stops.{weaker}
use Rattle.ports.proofs.Told.{as_told_then, on_ok_two}
use Rattle.store_model.specs.Slots.{slot_start, number_bytes}
use Rattle.store_reader.specs.Reading.{own_in}
use Rattle.checkpoint.specs.SlotStates.{SameOther, WhileOpening}
use Rattle.checkpoint.proofs.SlotSteps.{numbering, opening_run, gate_opened, told_other}
use Rattle.checkpoint.proofs.slots.open_slot.Goals as goal

pub returns-in_err-write_numbers-clause-any_moment : goal.returns-in_err-write_numbers-clause-any_moment
returns-in_err-write_numbers-clause-any_moment g c =
    let own : ℕ = own_in c.args.split.now c.args.engine in
    let start : DiskState = g.D.Disk.state c.args.disk.now in
    let new : DiskState = g.D.Disk.state c.write_numbers.new.disk in
    let place : c.slot_start-at.result ≡ slot_start own c.args.slot = c.slot_start-at.ensures ∙ ap (λ n. slot_start n c.args.slot) c.own.ensures in
    weaker c.args.beat.now start new (After (Torn (slot_start own c.args.slot + 8) 16) start) (WhileOpening own c.args.slot c.args.round c.args.changed start)
    (subst (λ (at : ℕ). Leaves c.args.beat.now start new (After (Torn (at + 8) 16) start)) place c.in_err-write_numbers.ensures.any_moment)
    (λ bytes. numbering own c.args.slot c.requires.slot c.args.round c.args.changed start bytes c.requires.exact c.requires.closed)

pub returns-in_err-write_numbers-clause-bytes : goal.returns-in_err-write_numbers-clause-bytes
returns-in_err-write_numbers-clause-bytes g c =
    let disks = g.met.D.Disk g.world.𝓛 g.world.𝓜 g.world.𝓡 ((λ s x. x), (λ x. x), (λ x. x), λ x. x) in
    let own : ℕ = own_in c.args.split.now c.args.engine in
    let start : DiskState = g.D.Disk.state c.args.disk.now in
    let new : DiskState = g.D.Disk.state c.write_numbers.new.disk in
    let law : IsDisk start = disks.lawful c.args.disk.now in
    let place : c.slot_start-at.result ≡ slot_start own c.args.slot = c.slot_start-at.ensures ∙ ap (λ n. slot_start n c.args.slot) c.own.ensures in
    told_other own c.args.slot c.requires.slot (c.slot_start-at.result + 8) 16 start.size start.bytes new.bytes law.sized c.requires.exact.now
    (omega (arith, place)) (omega (arith, place)) c.in_err-write_numbers.ensures.bytes

pub returns-clause-any_moment : goal.returns-clause-any_moment
returns-clause-any_moment g c =
    let disks = g.met.D.Disk g.world.𝓛 g.world.𝓜 g.world.𝓡 ((λ s x. x), (λ x. x), (λ x. x), λ x. x) in
    let own : ℕ = own_in c.args.split.now c.args.engine in
    let start : DiskState = g.D.Disk.state c.args.disk.now in
    let mid : DiskState = g.D.Disk.state c.write_numbers.new.disk in
    let new : DiskState = g.D.Disk.state c.write_gate.new.disk in
    let place : c.slot_start-at.result ≡ slot_start own c.args.slot = c.slot_start-at.ensures ∙ ap (λ n. slot_start n c.args.slot) c.own.ensures in
    opening_run own c.args.slot c.requires.slot c.args.round c.args.changed c.args.beat.now start mid new (disks.lawful c.args.disk.now) c.requires.exact c.requires.closed
    (subst (λ (at : ℕ). Leaves c.args.beat.now start mid (After (Torn (at + 8) 16) start)) place c.in_ok-write_numbers.ensures.any_moment)
    c.in_ok-write_numbers.ensures.settled
    (subst (λ (at : ℕ). AsTold (λ before now. now ≡ after_write (at + 8) (number_bytes c.args.round c.args.changed) before) start.bytes mid.bytes) place c.in_ok-write_numbers.ensures.written)
    (subst (λ (at : ℕ). Leaves c.args.beat.now mid new (After (Torn at 1) mid)) place c.write_gate.ensures.any_moment)

pub returns-clause-opened : goal.returns-clause-opened
returns-clause-opened g c =
    let disks = g.met.D.Disk g.world.𝓛 g.world.𝓜 g.world.𝓡 ((λ s x. x), (λ x. x), (λ x. x), λ x. x) in
    let own : ℕ = own_in c.args.split.now c.args.engine in
    let mid : DiskState = g.D.Disk.state c.write_numbers.new.disk in
    let new : DiskState = g.D.Disk.state c.write_gate.new.disk in
    let place : c.slot_start-at.result ≡ slot_start own c.args.slot = c.slot_start-at.ensures ∙ ap (λ n. slot_start n c.args.slot) c.own.ensures in
    on_ok_two c.write_gate.result
    (λ settled written. gate_opened own c.args.slot c.requires.slot mid new (disks.lawful c.write_numbers.new.disk) (c.write_numbers.ensures.size ∙ c.requires.exact.now) settled
    (subst (λ (at : ℕ). AsTold (λ before now. now ≡ after_write at (165 ∷ []) before) mid.bytes new.bytes) place written))
    c.write_gate.ensures.settled c.write_gate.ensures.written

pub returns-clause-bytes : goal.returns-clause-bytes
returns-clause-bytes g c =
    let disks = g.met.D.Disk g.world.𝓛 g.world.𝓜 g.world.𝓡 ((λ s x. x), (λ x. x), (λ x. x), λ x. x) in
    let own : ℕ = own_in c.args.split.now c.args.engine in
    let start : DiskState = g.D.Disk.state c.args.disk.now in
    let mid : DiskState = g.D.Disk.state c.write_numbers.new.disk in
    let new : DiskState = g.D.Disk.state c.write_gate.new.disk in
    let law : IsDisk start = disks.lawful c.args.disk.now in
    let mid_law : IsDisk mid = disks.lawful c.write_numbers.new.disk in
    let place : c.slot_start-at.result ≡ slot_start own c.args.slot = c.slot_start-at.ensures ∙ ap (λ n. slot_start n c.args.slot) c.own.ensures in
    let first : AsTold (SameOther own c.args.slot) start.bytes mid.bytes =
    told_other own c.args.slot c.requires.slot (c.slot_start-at.result + 8) 16 start.size start.bytes mid.bytes law.sized c.requires.exact.now
    (omega (arith, place)) (omega (arith, place)) c.write_numbers.ensures.bytes in
    let then : AsTold (SameOther own c.args.slot) mid.bytes new.bytes =
    told_other own c.args.slot c.requires.slot c.slot_start-at.result 1 mid.size mid.bytes new.bytes mid_law.sized (c.write_numbers.ensures.size ∙ c.requires.exact.now)
    (omega (arith, place)) (omega (arith, place)) c.write_gate.ensures.bytes in
    as_told_then (SameOther own c.args.slot) (SameOther own c.args.slot) (SameOther own c.args.slot) (λ a b d same other. other ∙ same)
    start.bytes mid.bytes new.bytes first then
