-- Indexes of chunks on lanes.
use Rattle.std.specs.Prelude.{ℕ, ◌<◌, List, slice_index_or}
use Rattle.std.specs.List.{All}
use Rattle.chunk_file.specs.declared.index.Place.{Place}
use Rattle.chunk_file.specs.Places.{no_places}

-- each place is on one of so many lanes
abbrev pub AreOnLanes : (lanes : ℕ) → List (List Place) → Type 0
AreOnLanes lanes index = (cursor : ℕ) → All (λ (place : Place). place.lane < lanes) (slice_index_or index cursor no_places)
