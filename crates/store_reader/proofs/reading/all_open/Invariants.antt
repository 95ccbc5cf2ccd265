use Rattle.std.proofs.Common.{◌≡◌, ℕ, ◌<◌, get_or}
use Rattle.store_reader.specs.Devices.{IsOpenDevice}
use Rattle.store_reader.proofs.reading.all_open.Given as goal

abbrev pub invariant-loop-disk : goal.invariant-loop-disk
invariant-loop-disk g l =
    ((k : ℕ) (d : _) → k < l.disk-index → IsOpenDevice (g.D.Disk.state (get_or l.store.graphs.items k d)))
    × (g.D.M.Meter.faults l.meter ≡ g.D.M.Meter.faults l.fn.meter)
