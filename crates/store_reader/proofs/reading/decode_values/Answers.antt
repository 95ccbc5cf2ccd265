use Rattle.std.proofs.Common.{arith, rules}
use Rattle.std.proofs.lemmas.Grind.{common_steps}
use Rattle.store_reader.proofs.reading.decode_values.Goals as goal
use Rattle.store_reader.proofs.Decoding.{value_more, held_more}

pub loop-k-preserved : goal.loop-k-preserved
loop-k-preserved c = record {
  read = value_more c.loop-k.k c.args.bytes.now c.loop-k.into _ (omega (arith, c.loop-k.invariant.long, c.loop-k-test.true)) c.loop-k.invariant.read c.number_at.ensures c.number_at-in-loop-k.ensures;
  held = held_more c.loop-k.k c.loop-k.into (record { main = c.number_at.result; side = c.number_at-in-loop-k.result }) (omega (arith, c.loop-k.invariant.long, c.loop-k-test.true)) (search rules) c.loop-k.invariant.held;
  long = grind (arith, common_steps, c.loop-k.invariant.long);
}
