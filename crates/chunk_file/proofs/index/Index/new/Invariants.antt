use Rattle.std.proofs.Common.{◌≡◌, map, replicate}
use Rattle.std.specs.Prelude.{Vec}
use Rattle.std.specs.Global.{Global}
use Rattle.chunk_file.specs.declared.index.Place.{Place}
use Rattle.chunk_file.specs.Places.{no_places}
use Rattle.chunk_file.proofs.index.Index.new.Given as goal

abbrev pub invariant-lists : goal.invariant-lists
invariant-lists l = map (λ (v : Vec Place Global). v.items) l.places.items ≡ replicate l.counter no_places
