use Rattle.std.proofs.Common.{rules, map}
use Rattle.std.specs.List.{range_with_len}
use Rattle.store_reader.specs.Indexed.{lens_of}
use Rattle.epoch_seats.specs.Opening.{opening}
use Rattle.epoch_seats.proofs.Opening.{alone_still, rows_more}
use Rattle.epoch_seats.proofs.open.open_cursors.Goals as goal

pub loop-engine-preserved : goal.loop-engine-preserved
loop-engine-preserved c = record {
  table = search rules;
  alone = search (rules, alone_still);
  calls = rows_more (λ engine. map (opening (lens_of c.args.index.now) engine) (range_with_len 0 c.args.split.now.parts)) c.loop-engine.engine _ _ _ c.loop-engine.invariant.calls c.open_engine.ensures.calls;
}
