use Rattle.chunk_object.specs.declared.call.Call.TheVariants.{Greet}
use Rattle.std.proofs.Common.{rules}
use Rattle.epoch_seats.proofs.Opening.{row_more}
use Rattle.epoch_seats.proofs.open.greet_partitions.Goals as goal

pub loop-partition-preserved : goal.loop-partition-preserved
loop-partition-preserved c = record {
  table = search rules;
  alone = search rules;
  calls = row_more Greet c.loop-partition.partition _ _ _ c.loop-partition.invariant.calls c.greet.ensures.call;
}
