use Rattle.std.proofs.Common.{◌≡◌, ◌*◌, true, take}
use Rattle.std.specs.List.{All, flat_map, list_all}
use Rattle.chunk_file.specs.Chunks.{is_in}
use Rattle.chunk_file.proofs.chunk.get_records.Given as goal

abbrev pub invariant-records : goal.invariant-records
invariant-records g l = record {
  at : l.start ≡ (g.R.Record.layout l.format).width * l.place-index;
  written : flat_map (g.R.Record.layout l.format).bytes (take l.place-index l.into) ≡ take l.start l.bytes;
  room : All (λ r. (g.R.Record.layout l.format).holds r ≡ true) (take l.place-index l.into);
  belong : l.belong ≡ list_all (is_in (g.R.Record.layout l.format) l.vertices l.first l.end) (take l.place-index l.into);
}
