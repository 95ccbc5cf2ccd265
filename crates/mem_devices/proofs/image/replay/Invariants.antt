use Rattle.std.proofs.Common.{◌≡◌, take}
use Rattle.mem_devices.specs.History.{after_calls}
use Rattle.mem_devices.proofs.image.replay.Given as goal

abbrev pub invariant-loop-call : goal.invariant-loop-call
invariant-loop-call l = l.bytes.items ≡ after_calls (take l.call-index l.calls) l.fn.bytes.items
