-- The places of chunks, by engine and partition.
use Rattle.std.specs.Prelude.{◌≡◌, ◌≢◌, ℕ, ◌+◌, ◌*◌, ◌<◌, List, [], ◌∷◌, ◌++◌, length, map, sum_by, slice_index_or, slice_set}
use Rattle.chunk_file.specs.declared.index.Place.{Place}

abbrev pub no_places : List Place
no_places = []

-- the places of an engine and a partition, in order
abbrev pub places_of : List (List Place) → (engine partition : ℕ) → List Place
places_of index engine partition = slice_index_or index (64 * engine + partition) no_places

-- the number of all places
abbrev pub total_of : List (List Place) → ℕ
total_of index = sum_by (λ (places : List Place). length places) index

-- one place more
abbrev pub with_place : List (List Place) → (engine partition : ℕ) → Place → List (List Place)
with_place index engine partition place =
    slice_set index (64 * engine + partition) (places_of index engine partition ++ place ∷ [])

-- a place on a graph device
abbrev pub on_graph : ℕ → Place
on_graph at = record { lane = 0; at = at }

-- For each partition these places on the graph device of an engine were added behind those that were there, and no other.
pub record Adds (engine : ℕ) (places : ℕ → List ℕ) (old new : List (List Place)) : Type 0 where
  pub here : (p : ℕ) → p < 64 → places_of new engine p ≡ places_of old engine p ++ map on_graph (places p)
  pub elsewhere : (e p : ℕ) → e ≢ engine → p < 64 → places_of new e p ≡ places_of old e p
