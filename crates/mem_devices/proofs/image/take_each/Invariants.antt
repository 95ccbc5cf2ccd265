use Rattle.std.proofs.Common.{◌≡◌, take}
use Rattle.mem_devices.specs.Images.{taken_each}
use Rattle.mem_devices.proofs.image.take_each.Given as goal

abbrev pub invariant-loop-call : goal.invariant-loop-call
invariant-loop-call l = l.bytes.items ≡ taken_each l.pick (take l.call-index l.calls) l.fn.bytes.items
