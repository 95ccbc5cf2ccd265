use Rattle.std.proofs.Common.{◌≡◌, ◌∙◌, ℕ, List, length, Some, None, sym, ap, subst, rules, arith}
use Rattle.ports.specs.Faults.{Rose}
use Rattle.ports.proofs.Told.{sized_at}
use Rattle.store_model.specs.Slots.{device_size}
use Rattle.store_model.specs.Damage.{slot_fault, device_fault}
use Rattle.store_reader.specs.Reading.{own_in}
use Rattle.store_checks.specs.Causes.{HasRecoverCause}
use Rattle.store_checks.proofs.HeadChecks.{cause_by}
use Rattle.store_checks.proofs.SlotReads.{wrong_size, right_size, good_slot, first_slot}
use Rattle.store_checks.proofs.rounds.check_device.Goals as goal

pub returns-then-size-size_of-clause-cause : goal.returns-then-size-size_of-clause-cause
returns-then-size-size_of-clause-cause g c =
    let disks = g.met.D.Disk g.world.𝓛 g.world.𝓜 g.world.𝓡 ((λ s x. x), (λ x. x), (λ x. x), λ x. x) in
    let own = own_in c.args.split.now c.args.engine in
    let disk = g.D.Disk.state c.args.disk.now in
    subst (HasRecoverCause _ (λ fault. (told : List ℕ) → disk.bytes ≡ Some told → device_fault own c.args.engine told ≡ Some fault))
    (sym c.damaged_device.ensures)
    (λ told is. wrong_size own c.args.engine told (λ exact.
    let size : c.size_of.result ≡ device_size own = c.size_of.ensures ∙ ap device_size c.own.ensures in
    let sized = sized_at disk told (disks.lawful c.args.disk.now) is in
    let same : c.size.result ≡ c.size_of.result = c.size.ensures ∙ sized ∙ exact ∙ sym size in
    absurd (omega arith)))

pub returns-in-Err-clause-cause : goal.returns-in-Err-clause-cause
returns-in-Err-clause-cause g c =
    let disks = g.met.D.Disk g.world.𝓛 g.world.𝓜 g.world.𝓡 ((λ s x. x), (λ x. x), (λ x. x), λ x. x) in
    let own = own_in c.args.split.now c.args.engine in
    let e = c.args.engine in
    let disk = g.D.Disk.state c.args.disk.now in
    let rose = Rose (g.D.M.Meter.faults c.args.meter.now) (g.D.M.Meter.faults c.read_slot.new.meter) in
    let same : c.size.result ≡ c.size_of.result = first_of (omega arith, search rules) in
    cause_by rose rose
    (λ fault. (told : List ℕ) → disk.bytes ≡ Some told → slot_fault own e 0 told ≡ Some fault)
    (λ fault. (told : List ℕ) → disk.bytes ≡ Some told → device_fault own e told ≡ Some fault)
    c.in-Err.fault (λ r. r)
    (λ fault found told is.
    let exact : length told ≡ device_size own = sym (sized_at disk told (disks.lawful c.args.disk.now) is) ∙ sym c.size.ensures ∙ same ∙ c.size_of.ensures ∙ ap device_size c.own.ensures in
    first_slot own e told fault exact (found told is))
    c.in-Err.ensures.cause

pub returns-in-Err-read_slot-clause-cause : goal.returns-in-Err-read_slot-clause-cause
returns-in-Err-read_slot-clause-cause g c =
    let disks = g.met.D.Disk g.world.𝓛 g.world.𝓜 g.world.𝓡 ((λ s x. x), (λ x. x), (λ x. x), λ x. x) in
    let own = own_in c.args.split.now c.args.engine in
    let e = c.args.engine in
    let disk = g.D.Disk.state c.args.disk.now in
    let same : c.size.result ≡ c.size_of.result = first_of (omega arith, search rules) in
    cause_by (Rose (g.D.M.Meter.faults c.read_slot.new.meter) (g.D.M.Meter.faults c.read_slot-2.new.meter)) (Rose (g.D.M.Meter.faults c.args.meter.now) (g.D.M.Meter.faults c.read_slot-2.new.meter))
    (λ fault. (told : List ℕ) → disk.bytes ≡ Some told → slot_fault own e 1 told ≡ Some fault)
    (λ fault. (told : List ℕ) → disk.bytes ≡ Some told → device_fault own e told ≡ Some fault)
    c.in-Err-read_slot.fault
    (λ rose. omega (arith, rose, c.read_slot.ensures.later))
    (λ fault found told is.
    let exact : length told ≡ device_size own = sym (sized_at disk told (disks.lawful c.args.disk.now) is) ∙ sym c.size.ensures ∙ same ∙ c.size_of.ensures ∙ ap device_size c.own.ensures in
    right_size own e told None (Some fault) exact (good_slot own e 0 told (c.in_default.ensures.sound told is)) (found told is))
    c.in-Err-read_slot.ensures.cause

pub returns-clause-sound : goal.returns-clause-sound
returns-clause-sound g c = λ told is.
    let disks = g.met.D.Disk g.world.𝓛 g.world.𝓜 g.world.𝓡 ((λ s x. x), (λ x. x), (λ x. x), λ x. x) in
    let own = own_in c.args.split.now c.args.engine in
    let e = c.args.engine in
    let disk = g.D.Disk.state c.args.disk.now in
    let same : c.size.result ≡ c.size_of.result = first_of (omega arith, search rules) in
    let exact : length told ≡ device_size own = sym (sized_at disk told (disks.lawful c.args.disk.now) is) ∙ sym c.size.ensures ∙ same ∙ c.size_of.ensures ∙ ap device_size c.own.ensures in
    right_size own e told None None exact (good_slot own e 0 told (c.in_default.ensures.sound told is)) (good_slot own e 1 told (c.in_default-read_slot.ensures.sound told is))
