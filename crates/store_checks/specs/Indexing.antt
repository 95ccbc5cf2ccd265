-- The chunks of all graph devices, as a job's split says them.
use Rattle.std.specs.Prelude.{◌≡◌, ◌⊎◌, ℕ, ◌+◌, ◌<◌, ◌≤◌, List, [], ◌++◌, map, length, drop}
use Rattle.std.specs.List.{All}
use Rattle.graph_model.specs.declared.edge.Edge.{Edge}
use Rattle.graph_model.specs.declared.job.Job.{Job}
use Rattle.partitioner.specs.declared.split.Split.{Split}
use Rattle.chunk_model.specs.Chunks.{Chunk}
use Rattle.chunk_model.specs.Layout.{edge_layout}
use Rattle.chunk_model.specs.ChunkBytes.{bytes_of_chunks, starts_of}
use Rattle.chunk_file.specs.declared.index.Place.{Place}
use Rattle.chunk_file.specs.Places.{places_of, total_of, no_places, on_graph}
use Rattle.chunk_file.specs.Scans.{IsEdgeChunk, NoEdgeChunk}
use Rattle.store_model.specs.Heads.{HEAD_SIZE}
use Rattle.store_model.specs.Kept.{device}
use Rattle.store_model.specs.Damage.{MOST_CHUNKS, chunks_before}

-- the index has, for each engine and partition, the places of its chunks on the engine's graph device, in order of bytes,
-- and no other
pub record IsIndexOf (format : ℕ) (made : ℕ → List (Chunk Edge)) (engines : ℕ) (index : List (List Place)) : Type 0 where
  pub here : (e p : ℕ) → e < engines → p < 64 → places_of index e p ≡ map on_graph (starts_of (edge_layout format) p HEAD_SIZE (made e))
  pub elsewhere : (e p : ℕ) → engines ≤ e → e < 8 → p < 64 → places_of index e p ≡ no_places
  pub total : total_of index ≡ chunks_before made engines

-- from behind the head on, the device has these chunks, and then the rest
pub record Begins (job : Job) (split : Split) (made : List (Chunk Edge)) (rest bytes : List ℕ) : Type 0 where
  pub are : All (IsEdgeChunk job.format split job.chunk) made
  pub stand : drop HEAD_SIZE bytes ≡ bytes_of_chunks (edge_layout job.format) made ++ rest

-- all devices are chunks and nothing else, and the index names them
pub record IsIndexed (job : Job) (split : Split) (told : List (List ℕ)) (index : List (List Place)) : Type 0 where
  pub made : ℕ → List (Chunk Edge)
  pub each : (e : ℕ) → e < length told → Begins job split (made e) [] (device told e)
  pub few : chunks_before made (length told) ≤ MOST_CHUNKS
  pub index_is : IsIndexOf job.format made (length told) index

-- the first byte that begins no chunk, or one that is too many
pub record StopsIn (job : Job) (split : Split) (told : List (List ℕ)) (e at : ℕ) : Type 0 where
  pub engine : e < length told
  pub made : ℕ → List (Chunk Edge)
  pub before : (k : ℕ) → k < e → Begins job split (made k) [] (device told k)
  pub here : Begins job split (made e) (drop at (device told e)) (device told e)
  pub within : at < length (device told e)
  pub few : chunks_before made (e + 1) ≤ MOST_CHUNKS
  pub stopped : NoEdgeChunk job.format split job.chunk at (device told e) ⊎ (chunks_before made (e + 1) ≡ MOST_CHUNKS)
