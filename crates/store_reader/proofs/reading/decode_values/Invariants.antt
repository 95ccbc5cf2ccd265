use Rattle.std.proofs.Common.{◌≡◌, ◌*◌, ◌^◌, ◌<◌, length, take}
use Rattle.std.specs.List.{All}
use Rattle.graph_model.specs.declared.value.Value.{Value}
use Rattle.store_model.specs.Slots.{values_bytes}
use Rattle.store_reader.proofs.reading.decode_values.Given as goal

abbrev pub invariant-loop-k : goal.invariant-loop-k
invariant-loop-k l = record {
  read : values_bytes (take l.k l.into) ≡ take (16 * l.k) l.bytes;
  held : All (λ (v : Value). (v.main < 2 ^ 64) × (v.side < 2 ^ 64)) (take l.k l.into);
  long : length l.into ≡ length l.fn.into;
}
