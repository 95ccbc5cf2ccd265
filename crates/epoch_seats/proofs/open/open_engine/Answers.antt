use Rattle.std.proofs.Common.{rules, ◌+◌, ◌*◌, ap, ◌∙◌}
use Rattle.chunk_object.specs.declared.call.Call.TheVariants.{Open}
use Rattle.chunk_cursor.specs.View.{with_call}
use Rattle.store_reader.specs.Indexed.{lens_of}
use Rattle.epoch_seats.specs.Opening.{opening}
use Rattle.epoch_seats.proofs.Opening.{row_more}
use Rattle.epoch_seats.proofs.open.open_engine.Goals as goal

pub loop-partition-preserved : goal.loop-partition-preserved
loop-partition-preserved c = record {
  table = search rules;
  alone = search rules;
  calls = row_more (opening (lens_of c.args.index.now) c.args.engine) c.loop-partition.partition _ _ _ c.loop-partition.invariant.calls
      (c.open.ensures.call ∙ ap (λ len. with_call c.loop-partition.seat.view (Open (64 * c.args.engine + c.loop-partition.partition) len)) c.len-len.ensures);
}
