-- The values of one partition, behind a closed gate.
use Rattle.std.proofs.Common.{◌≡◌, ◌+◌, ◌*◌, ◌<◌, ◌≤◌, ℕ, length, ap, ◌∙◌, arith}
use Rattle.partitioner.proofs.Owned.{own_before-fits}
use Rattle.ports.specs.Bytes.{Torn}
use Rattle.ports.specs.Disk.{DiskState, After}
use Rattle.ports.proofs.Parts.{torn_same}
use Rattle.ports.proofs.Stops.{in_part, weaker}
use Rattle.store_model.specs.Slots.{slot_start, slot_size, set_start, device_size}
use Rattle.store_model.proofs.SlotLemmas.{set_within}
use Rattle.store_reader.specs.Reading.{own_in, master_in, before_in, len_in}
use Rattle.checkpoint.specs.SlotStates.{WhileWriting}
use Rattle.checkpoint.proofs.SlotSteps.{writing, exact_after}
use Rattle.checkpoint.proofs.slots.write_set.Goals as goal

-- where the values go
module _ (own slot : ℕ) (small : slot < 2) (before count at : ℕ) (place : at ≡ set_start own slot before) (fits : before + count ≤ own) where
  place_within : at + 16 * count ≤ device_size own
  place_within = omega (arith, place, set_within own slot before count small fits)

  place_in_slot : at + 16 * count ≤ slot_start own slot + slot_size own
  place_in_slot = omega (arith, place)

pub write_at-requires-clause-place : goal.write_at-requires-clause-place
write_at-requires-clause-place g c =
    let split = c.args.split.now in
    let master : ℕ = master_in split c.args.partition in
    let own : c.own-own.result ≡ own_in split master = c.own-own.ensures ∙ ap (own_in split) c.master_of.ensures in
    let place : c.set_start-at.result ≡ set_start (own_in split master) c.args.slot (before_in split c.args.partition) =
    c.set_start-at.ensures ∙ ap (λ n. set_start n c.args.slot c.before-2.result) own ∙ ap (set_start (own_in split master) c.args.slot) c.before-2.ensures in
    omega (
      arith,
      c.requires.exact.now,
      place_within (own_in split master) c.args.slot c.requires.slot (before_in split c.args.partition) (len_in split c.args.partition) c.set_start-at.result place
          (own_before-fits split.vertices split.engines split.parts c.args.partition c.requires.partition),
    )

pub returns-clause-any_moment : goal.returns-clause-any_moment
returns-clause-any_moment g c =
    let disks = g.met.D.Disk g.world.𝓛 g.world.𝓜 g.world.𝓡 ((λ s x. x), (λ x. x), (λ x. x), λ x. x) in
    let split = c.args.split.now in
    let master : ℕ = master_in split c.args.partition in
    let start : DiskState = g.D.Disk.state c.args.disk.now in
    let new : DiskState = g.D.Disk.state c.write_at.new.self in
    let own : c.own-own.result ≡ own_in split master = c.own-own.ensures ∙ ap (own_in split) c.master_of.ensures in
    let at : ℕ = c.set_start-at.result in
    let n : ℕ = length c.put_values.new.bytes in
    let place : at ≡ set_start (own_in split master) c.args.slot (before_in split c.args.partition) =
    c.set_start-at.ensures ∙ ap (λ k. set_start k c.args.slot c.before-2.result) own ∙ ap (set_start (own_in split master) c.args.slot) c.before-2.ensures in
    let fits = own_before-fits split.vertices split.engines split.parts c.args.partition c.requires.partition in
    let to = place_in_slot (own_in split master) c.args.slot c.requires.slot (before_in split c.args.partition) (len_in split c.args.partition) at place fits in
    weaker c.args.beat.now start new (After (Torn at n) start) (WhileWriting (own_in split master) c.args.slot start)
    (in_part c.args.beat.now start new (Torn at n) (disks.lawful c.args.disk.now) (torn_same at n) c.write_at.ensures.changes)
    (λ bytes. writing (own_in split master) c.args.slot c.requires.slot at n start bytes c.requires.exact c.requires.closed (omega (arith, place))
    (omega (arith, to, c.put_values.auto.bytes, c.requires.bytes)))

pub returns-clause-closed : goal.returns-clause-closed
returns-clause-closed g c bytes image =
    let split = c.args.split.now in
    let master : ℕ = master_in split c.args.partition in
    let start : DiskState = g.D.Disk.state c.args.disk.now in
    let own : c.own-own.result ≡ own_in split master = c.own-own.ensures ∙ ap (own_in split) c.master_of.ensures in
    let at : ℕ = c.set_start-at.result in
    let n : ℕ = length c.put_values.new.bytes in
    let place : at ≡ set_start (own_in split master) c.args.slot (before_in split c.args.partition) =
    c.set_start-at.ensures ∙ ap (λ k. set_start k c.args.slot c.before-2.result) own ∙ ap (set_start (own_in split master) c.args.slot) c.before-2.ensures in
    let fits = own_before-fits split.vertices split.engines split.parts c.args.partition c.requires.partition in
    let to = place_in_slot (own_in split master) c.args.slot c.requires.slot (before_in split c.args.partition) (len_in split c.args.partition) at place fits in
    (writing (own_in split master) c.args.slot c.requires.slot at n start bytes c.requires.exact c.requires.closed (omega (arith, place))
    (omega (arith, to, c.put_values.auto.bytes, c.requires.bytes)) (c.write_at.ensures.changes.images bytes image)).closed

pub returns-clause-exact : goal.returns-clause-exact
returns-clause-exact g c =
    let split = c.args.split.now in
    let master : ℕ = master_in split c.args.partition in
    let start : DiskState = g.D.Disk.state c.args.disk.now in
    let new : DiskState = g.D.Disk.state c.write_at.new.self in
    let own : c.own-own.result ≡ own_in split master = c.own-own.ensures ∙ ap (own_in split) c.master_of.ensures in
    let at : ℕ = c.set_start-at.result in
    let n : ℕ = length c.put_values.new.bytes in
    let place : at ≡ set_start (own_in split master) c.args.slot (before_in split c.args.partition) =
    c.set_start-at.ensures ∙ ap (λ k. set_start k c.args.slot c.before-2.result) own ∙ ap (set_start (own_in split master) c.args.slot) c.before-2.ensures in
    let fits = own_before-fits split.vertices split.engines split.parts c.args.partition c.requires.partition in
    let within = place_within (own_in split master) c.args.slot c.requires.slot (before_in split c.args.partition) (len_in split c.args.partition) at place fits in
    let inside : at + n ≤ device_size (own_in split master) = omega (arith, within, c.put_values.auto.bytes, c.requires.bytes) in
    exact_after (own_in split master) c.args.slot c.requires.slot at n start new c.requires.exact inside
    (omega (arith, c.write_at.ensures.no_shorter, c.write_at.ensures.no_longer, inside, c.requires.exact.now)) c.write_at.ensures.changes.images
