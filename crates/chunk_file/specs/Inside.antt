-- What an index is made of.
use Rattle.std.specs.Prelude.{◌≡◌, ◌^◌, ◌≤◌, List, length, map}
use Rattle.std.specs.List.{All}
use Rattle.std.specs.Prelude.{Vec}
use Rattle.std.specs.Global.{Global}
use Rattle.chunk_file.specs.declared.index.Place.{Place}
use Rattle.chunk_file.specs.declared.index.Index.TheInside.{Inside}
use Rattle.chunk_file.specs.Places.{total_of}

abbrev pub lists_in : Inside → List (List Place)
lists_in a = map (λ (v : Vec Place Global). v.items) a.places.items

pub record IsIndex (a : Inside) : Type 0 where
  pub lists : length (lists_in a) ≡ 512
  pub total : a.total ≡ total_of (lists_in a)
  pub few : All (λ (places : List Place). length places ≤ 2 ^ 31) (lists_in a)
