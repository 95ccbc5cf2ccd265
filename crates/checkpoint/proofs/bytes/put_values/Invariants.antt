use Rattle.std.proofs.Common.{◌≡◌, ◌*◌, take}
use Rattle.store_model.specs.Slots.{values_bytes}
use Rattle.checkpoint.proofs.bytes.put_values.Given as goal

abbrev pub invariant-loop-index : goal.invariant-loop-index
invariant-loop-index l = take (16 * l.index) l.bytes ≡ values_bytes (take l.index l.values)
