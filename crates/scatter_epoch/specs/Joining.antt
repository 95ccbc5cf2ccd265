-- The places of the workers' chunks, by engine and partition.
use Rattle.std.specs.Prelude.{◌≡◌, ℕ, ◌+◌, ◌==◌, ◌&&◌, ◌<◌, ◌≤◌, List, [], ◌∷◌, ◌++◌, length, map, filter}
use Rattle.chunk_object.specs.History.{most_chunks}
use Rattle.phase_model.specs.declared.placed.Placed.{Placed}
use Rattle.chunk_file.specs.declared.index.Place.{Place}
use Rattle.chunk_file.specs.Places.{places_of}
use Rattle.store_reader.specs.Indexed.{lens_of}

-- those of a worker on an engine, in a partition
abbrev pub places_at : (worker engine partition : ℕ) → List Placed → List Place
places_at worker engine partition places =
    map (λ (p : Placed). record { lane = worker; at = p.at }) (filter (λ (p : Placed). (p.engine == engine) && (p.partition == partition)) places)

-- those of the workers from this one on, worker by worker
abbrev pub all_places : (worker engine partition : ℕ) → List (List Placed) → List Place
all_places worker engine partition [] = []
all_places worker engine partition (own ∷ others) = places_at worker engine partition own ++ all_places (worker + 1) engine partition others

-- no cursor has more chunks than it can be opened with
abbrev pub HasNoLong : List (List Place) → Type 0
HasNoLong index = (cursor : ℕ) → lens_of index cursor ≤ most_chunks

-- **An index of these places**, of the workers from 0 on
pub record IsIndexOf (lists : List (List Placed)) (index : List (List Place)) : Type 0 where
  pub long : length index ≡ 512
  pub few : HasNoLong index
  pub places : (engine partition : ℕ) → engine < 8 → partition < 64 → places_of index engine partition ≡ all_places 0 engine partition lists
