-- Buffers, one for each partition, between two items.
use Rattle.std.specs.Prelude.{◌≡◌, ℕ, ◌<◌, List, [], length, slice_index_or}
use Rattle.chunk_model.specs.Chunks.{left_over}

-- each buffer has the items of its partition that no full chunk has
pub record Holds {X : Type 0} (size : ℕ) (home : X → ℕ) (parts : ℕ) (items : List X) (buffers : List (List X)) : Type 0 where
  pub many : length buffers ≡ parts
  pub hold : (p : ℕ) → p < parts → slice_index_or buffers p [] ≡ left_over size home items p
