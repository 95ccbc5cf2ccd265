use Rattle.std.proofs.Common.{◌≡◌, take, length}
use Rattle.mem_devices.specs.History.{covered_calls}
use Rattle.mem_devices.proofs.image.covered_count.Given as goal

abbrev pub invariant-loop-index : goal.invariant-loop-index
invariant-loop-index l = l.count ≡ length (covered_calls (take l.index l.calls))
