-- One engine more was told.
use Rattle.std.proofs.Common.{arith}
use Rattle.endings.proofs.Lines.{one_more}
use Rattle.endings.proofs.message.append_engines.Goals as goal

pub loop-engine-preserved : goal.loop-engine-preserved
loop-engine-preserved c = record {
  so_far = one_more c.args.line.now.items c.loop-engine.line.items c.append_number.new.line.items c.append_number-in-loop-engine.new.line.items c.args.chunks.now c.loop-engine.engine
      c.loop-engine-test.true c.loop-engine.invariant.so_far c.append_number.ensures.items c.append_number-in-loop-engine.ensures.items;
  few = omega (arith, c.loop-engine.invariant.few, c.append_number.ensures.len, c.append_number-in-loop-engine.ensures.len);
}
