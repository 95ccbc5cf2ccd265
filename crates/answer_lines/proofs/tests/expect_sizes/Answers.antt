use Rattle.std.proofs.Common.{◌≡◌, ℕ, length, rules, refl, ◌∙◌, ap}
use Rattle.std.specs.Prelude.{slice_index_or}
use Rattle.std.proofs.lemmas.Option.{slice_get_read, get_or_from_slice_get}
use borrow.Author.Count.{below_more}
use Rattle.mem_devices.specs.declared.disk.MemDisk.{MemDisk}
use Rattle.mem_devices.specs.MemDisk.{disk_state}
use Rattle.store_model.specs.Slots.{device_size}
use Rattle.store_reader.specs.Reading.{own_in}
use Rattle.answer_lines.proofs.tests.expect_sizes.Goals as goal

pub loop-engine-preserved : goal.loop-engine-preserved
loop-engine-preserved g c =
    let disk = c.index-devices-engine.result in
    let at = slice_get_read c.args.devices.now (length c.args.devices.now) c.loop-engine.engine disk refl (search rules) c.index-devices-engine.is in
    below_more (λ (e : ℕ). (d : MemDisk) → (disk_state (slice_index_or c.args.devices.now e d)).size ≡ device_size (own_in c.args.split.now e)) c.loop-engine.engine c.loop-engine.invariant
    (λ d. ap (λ (x : MemDisk). (disk_state x).size) (get_or_from_slice_get c.args.devices.now c.loop-engine.engine disk d at) ∙ c.expect_size.ensures)
