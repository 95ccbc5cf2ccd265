-- What a worker's lanes hold, and what calls make of them.
use Rattle.std.specs.Prelude.{◌≡◌, ℕ, ◌+◌, ◌*◌, ◌==◌, ◌<◌, ◌≤◌, List, [], ◌∷◌, ◌++◌, length, slice_index_or, count_by, IfSome}
use Rattle.std.specs.List.{All}
use Rattle.graph_model.specs.declared.value.Update.{Update}
use Rattle.ports.specs.Disk.{DiskState, ContinuesUnder}
use Rattle.ports.specs.Devices.{Each}
use Rattle.chunk_model.specs.Chunks.{Chunk}
use Rattle.chunk_model.specs.Layout.{update_layout}
use Rattle.chunk_model.specs.ChunkBytes.{bytes_of_chunks}
use Rattle.seeded_place.specs.Placing.{Placing, HasPlaced, placed, on_engine}
use Rattle.phase_model.specs.declared.placed.Placed.{Placed}
use Rattle.phase_model.specs.Shelves.{Shelf, places_of, width_of_chunks}

-- a lane that has these chunks, one behind another from its start, and nothing else; told or not, it has their size
pub record HasChunks (made : List (Chunk Update)) (lane : DiskState) : Type 0 where
  pub size_is : lane.size ≡ width_of_chunks 12 made
  pub bytes_are : IfSome lane.bytes (λ told. told ≡ bytes_of_chunks update_layout made)

-- **These chunks were written**: each lane has those of its engine, and the place of each is noted.
pub record AreWritten {X : Type 0} (state : X → DiskState) (lanes : List X) (places : List Placed) (made : Shelf Update) : Type 0 where
  pub places_are : places ≡ places_of 12 (λ engine. 0) made
  pub lanes_are : (e : ℕ) (d : X) → e < length lanes → HasChunks (on_engine e made) (state (slice_index_or lanes e d))

-- the chunks of a stream were written, with a placer for the next of them
pub record HasMade {X : Type 0} (state : X → DiskState) (seed stream engines : ℕ) (placer : Placing) (lanes : List X) (places : List Placed) (made : List (Chunk Update)) : Type 0 where
  pub placer_has : HasPlaced seed stream engines (length made) placer
  pub written : AreWritten state lanes places (placed seed stream engines made)

-- no chunk of updates has more bytes
abbrev pub MOST_BYTES : ℕ
MOST_BYTES = 786440

-- one lane for each engine, to which a chunk may be written under the beat of this number, where so many were before
pub record AreReady {X : Type 0} (state : X → DiskState) (engines number count : ℕ) (lanes : List X) : Type 0 where
  pub many : length lanes ≡ engines
  pub beats : (e : ℕ) (d : X) → e < length lanes → (state (slice_index_or lanes e d)).beat ≤ number
  pub sizes : (e : ℕ) (d : X) → e < length lanes → (state (slice_index_or lanes e d)).size ≤ MOST_BYTES * count

-- Calls of the lanes under a beat of this number, whatever they answer: no lane is lost, its last call is of that beat
-- or an earlier one, its count of faults does not fall, and one that tells its bytes still does.
abbrev pub GoOn : {X : Type 0} → (X → DiskState) → (number : ℕ) → (old new : List X) → Type 0
GoOn state number old new = Each state (ContinuesUnder number) old new

-- a place on an engine and in a partition that there are
pub record IsWithin (engines parts : ℕ) (place : Placed) : Type 0 where
  pub engine : place.engine < engines
  pub partition : place.partition < parts

-- the place of one chunk of the partition more is noted
pub record HasNoted (engines partition : ℕ) (old new : List Placed) : Type 0 where
  pub place : Placed
  pub is : new ≡ old ++ place ∷ []
  pub engine_is : place.engine < engines
  pub partition_is : place.partition ≡ partition

-- how many places are in a partition
abbrev pub places_in : ℕ → List Placed → ℕ
places_in p places = count_by (λ (place : Placed). place.partition == p) places

-- one place more at most in each partition, and each of them within the split
pub record HasFlushed (engines parts : ℕ) (old new : List Placed) : Type 0 where
  pub few : (p : ℕ) → places_in p new ≤ places_in p old + 1
  pub within : All (IsWithin engines parts) old → All (IsWithin engines parts) new
