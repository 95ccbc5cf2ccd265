use Rattle.std.proofs.Common.{◌≡◌, ◌<◌, ℕ}
use Rattle.std.specs.Prelude.{slice_index_or}
use Rattle.mem_devices.specs.declared.disk.MemDisk.{MemDisk}
use Rattle.mem_devices.specs.MemDisk.{disk_state}
use Rattle.store_model.specs.Slots.{device_size}
use Rattle.store_reader.specs.Reading.{own_in}
use Rattle.answer_lines.proofs.tests.expect_sizes.Given as goal

abbrev pub invariant-loop-engine : goal.invariant-loop-engine
invariant-loop-engine g l = (e : ℕ) → e < l.engine → (d : MemDisk) → (disk_state (slice_index_or l.devices e d)).size ≡ device_size (own_in l.split e)
