-- Chunks of a split's partitions.
use Rattle.std.specs.Prelude.{ℕ, ◌≤◌, ◌&&◌, Bool, nat_lt, nat_le, List, length, take}
use Rattle.chunk_model.specs.Layout.{Layout}
use Rattle.chunk_model.specs.ChunkBytes.{AreChunk, IsChunkAt, NoChunkAt}
use Rattle.partitioner.specs.declared.split.Split.{Split}

-- the records of a chunk of this partition
abbrev pub AreChunkIn : {X : Type 0} → Layout X → Split → (most partition : ℕ) → List X → Type 0
AreChunkIn layout split most partition records = AreChunk layout split.vertices split.span most partition records

-- a well-formed chunk, of these records, stands at a place
abbrev pub IsChunkIn : {X : Type 0} → Layout X → Split → (most partition at : ℕ) → List ℕ → List X → Type 0
IsChunkIn layout split most partition at bytes records = IsChunkAt layout split.vertices split.span most partition at bytes records

-- no well-formed chunk stands there
abbrev pub NoChunkIn : {X : Type 0} → Layout X → Split → (most partition at : ℕ) → List ℕ → Type 0
NoChunkIn layout split most partition at bytes = NoChunkAt layout split.vertices split.span most partition at bytes

-- so many records stand at the front of a buffer, and are those of the chunk that stands at the front of the bytes
pub record ReadsChunk {X : Type 0} (layout : Layout X) (split : Split) (partition : ℕ) (bytes : List ℕ) (count : ℕ) (into : List X) : Type 0 where
  pub within : count ≤ length into
  pub chunk : IsChunkIn layout split (length into) partition 0 bytes (take count into)

-- whether a record fits, and has its home from one vertex up to another
abbrev pub is_in : {X : Type 0} → Layout X → (vertices first end : ℕ) → X → Bool
is_in layout vertices first end r = layout.fits vertices r && nat_le first (layout.home r) && nat_lt (layout.home r) end
