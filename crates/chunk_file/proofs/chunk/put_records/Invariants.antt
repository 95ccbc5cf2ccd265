use Rattle.std.proofs.Common.{◌≡◌, ◌*◌, take}
use Rattle.std.specs.List.{flat_map}
use Rattle.chunk_file.proofs.chunk.put_records.Given as goal

abbrev pub invariant-records : goal.invariant-records
invariant-records g l = record {
  at : l.start ≡ (g.R.Record.layout l.format).width * l.item-index;
  written : take l.start l.into ≡ flat_map (g.R.Record.layout l.format).bytes (take l.item-index l.records);
}
