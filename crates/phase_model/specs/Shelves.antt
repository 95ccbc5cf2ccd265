-- Chunks with the engine that each was placed on, in order of making.
use Rattle.std.specs.Prelude.{ℕ, ◌+◌, ◌==◌, List, [], map, filter, length, take, sum_by, slice_index_or}
use Rattle.std.specs.List.{enumerate_from}
use Rattle.chunk_object.specs.Epochs.{cursor_of}
use Rattle.chunk_model.specs.Chunks.{Chunk}
use Rattle.chunk_model.specs.ChunkBytes.{chunk_width}
use Rattle.seeded_place.specs.Placing.{on_engine}
use Rattle.phase_model.specs.declared.placed.Placed.{Placed}

abbrev pub Shelf : Type 0 → Type 0
Shelf X = List (ℕ × Chunk X)

-- the chunks of a cursor
abbrev pub at_cursor : {X : Type 0} → Shelf X → ℕ → List (Chunk X)
at_cursor {X} made cursor = map (λ (c : ℕ × Chunk X). c.1) (filter (λ (c : ℕ × Chunk X). cursor_of c.0 c.1.partition == cursor) made)

-- how many they are
abbrev pub lens_of : {X : Type 0} → Shelf X → ℕ → ℕ
lens_of made cursor = length (at_cursor made cursor)

abbrev pub no_chunk : {X : Type 0} → Chunk X
no_chunk = record { partition = 0; items = [] }

-- the records of a chunk, by its cursor and its place there
abbrev pub records_at : {X : Type 0} → Shelf X → ℕ → ℕ → List X
records_at made cursor place = (slice_index_or (at_cursor made cursor) place no_chunk).items

-- the number of bytes of chunks one behind another
abbrev pub width_of_chunks : {X : Type 0} → ℕ → List (Chunk X) → ℕ
width_of_chunks {X} width = sum_by (λ (c : Chunk X). chunk_width width (length c.items))

-- where each chunk comes to stand: behind the others of its engine, whose device had so many bytes
abbrev pub places_of : {X : Type 0} → ℕ → (ℕ → ℕ) → Shelf X → List Placed
places_of {X} width ends made = map
    (λ (numbered : ℕ × (ℕ × Chunk X)). record { engine = numbered.1.0; partition = numbered.1.1.partition; at = ends numbered.1.0 + width_of_chunks width (on_engine numbered.1.0 (take numbered.0 made)) })
    (enumerate_from 0 made)
