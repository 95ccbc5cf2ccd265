-- The chunks of a graph device, and the places that a scan adds.
use Rattle.std.specs.Prelude.{◌≡◌, ◌⊎◌, ℕ, ◌+◌, ◌<◌, List, ◌++◌, length, drop}
use Rattle.std.specs.List.{All}
use Rattle.graph_model.specs.declared.edge.Edge.{Edge}
use Rattle.partitioner.specs.declared.split.Split.{Split}
use Rattle.chunk_model.specs.Chunks.{Chunk}
use Rattle.chunk_model.specs.Layout.{edge_layout}
use Rattle.chunk_model.specs.ChunkBytes.{chunk_bytes, bytes_of_chunks, starts_of, StandsAt}
use Rattle.chunk_file.specs.declared.index.Place.{Place}
use Rattle.chunk_file.specs.declared.index.TheConstants.{MOST_PLACES}
use Rattle.chunk_file.specs.declared.whole.TheConstants.{FIRST_CHUNK}
use Rattle.chunk_file.specs.Chunks.{AreChunkIn, NoChunkIn}
use Rattle.chunk_file.specs.Places.{Adds, total_of}

-- a well-formed chunk of a partition of the split
pub record IsEdgeChunk (format : ℕ) (split : Split) (most : ℕ) (c : Chunk Edge) : Type 0 where
  pub partition : c.partition < split.parts
  pub are : AreChunkIn (edge_layout format) split most c.partition c.items

-- no such chunk, of any partition, stands at a place
abbrev pub NoEdgeChunk : (format : ℕ) → Split → (most at : ℕ) → List ℕ → Type 0
NoEdgeChunk format split most at told =
    (p : ℕ) → p < split.parts → NoChunkIn (edge_layout format) split most p at told

-- a chunk of this partition, with so many bytes, stands at a place
pub record IsNext (format : ℕ) (split : Split) (most at : ℕ) (told : List ℕ) (partition size : ℕ) : Type 0 where
  pub chunk : Chunk Edge
  pub is_chunk : IsEdgeChunk format split most chunk
  pub of_partition : chunk.partition ≡ partition
  pub stands : StandsAt at (chunk_bytes (edge_layout format) chunk.partition chunk.items) told
  pub sized : size ≡ length (chunk_bytes (edge_layout format) chunk.partition chunk.items)

-- From byte 65 on the device has these chunks one behind another, and then the rest; and the places of the chunks, in
-- order of bytes, were added to the index.
pub record Scanned (format : ℕ) (split : Split) (most engine : ℕ) (told : List ℕ) (old new : List (List Place)) (rest : List ℕ) : Type 0 where
  pub chunks : List (Chunk Edge)
  pub are_chunks : All (IsEdgeChunk format split most) chunks
  pub stand : drop FIRST_CHUNK told ≡ bytes_of_chunks (edge_layout format) chunks ++ rest
  pub added : Adds engine (λ p. starts_of (edge_layout format) p FIRST_CHUNK chunks) old new
  pub counted : total_of new ≡ total_of old + length chunks

-- A scan stops at this byte: up to it there are chunks, and there is none or no room for its place.
pub record StopsAt (format : ℕ) (split : Split) (most engine : ℕ) (old new : List (List Place)) (at : ℕ) (told : List ℕ) : Type 0 where
  pub within : at < length told
  pub scanned : Scanned format split most engine told old new (drop at told)
  pub stopped : NoEdgeChunk format split most at told ⊎ (total_of new ≡ MOST_PLACES)
