-- Chunks on a device.
use Rattle.std.specs.Prelude.{◌≡◌, ℕ, ◌+◌, ◌*◌, ◌/◌, ◌^◌, ◌==◌, ◌<◌, ◌≤◌, true, List, [], ◌∷◌, ◌++◌, length, drop, map, filter, flat_map}
use Rattle.std.specs.List.{All}
use Rattle.std.specs.Int.{to_be_bytes, w32}
use Rattle.chunk_model.specs.Chunks.{Chunk}
use Rattle.chunk_model.specs.Layout.{Layout}

-- the head of a chunk: its partition and the number of its records, in four bytes each
unfoldable pub chunk_head : ℕ → ℕ → List ℕ
chunk_head partition count = to_be_bytes w32 partition ++ to_be_bytes w32 count

-- the bytes of a chunk: its head, and its records
unfoldable pub chunk_bytes : {X : Type 0} → Layout X → ℕ → List X → List ℕ
chunk_bytes layout partition records = chunk_head partition (length records) ++ flat_map layout.bytes records

-- their number
abbrev pub chunk_width : ℕ → ℕ → ℕ
chunk_width width count = 8 + width * count

-- a record that fits so many vertices, of this partition, where each partition spans so many vertices
pub record Belongs {X : Type 0} (layout : Layout X) (vertices span partition : ℕ) (r : X) : Type 0 where
  pub fits : layout.fits vertices r ≡ true
  pub home : layout.home r / span ≡ partition

-- the records of a chunk of this partition, of at most so many, whose number has room in four bytes
pub record AreChunk {X : Type 0} (layout : Layout X) (vertices span most partition : ℕ) (records : List X) : Type 0 where
  pub some : 0 < length records
  pub few : length records ≤ most
  pub counted : length records < 2 ^ 32
  pub held : All (λ r. layout.holds r ≡ true) records
  pub belong : All (Belongs layout vertices span partition) records

-- the bytes from this place on begin with these
abbrev pub StandsAt : ℕ → List ℕ → List ℕ → Type 0
StandsAt at text bytes = (rest : List ℕ) × (drop at bytes ≡ text ++ rest)

-- **A well-formed chunk, of these records, stands at a place, whatever follows.**
pub record IsChunkAt {X : Type 0} (layout : Layout X) (vertices span most partition at : ℕ) (bytes : List ℕ) (records : List X) : Type 0 where
  pub stands : StandsAt at (chunk_bytes layout partition records) bytes
  pub are : AreChunk layout vertices span most partition records

-- no well-formed chunk stands there
abbrev pub NoChunkAt : {X : Type 0} → Layout X → ℕ → ℕ → ℕ → ℕ → ℕ → List ℕ → Type 0
NoChunkAt {X} layout vertices span most partition at bytes =
    (records : List X) → IsChunkAt layout vertices span most partition at bytes records → ⊥

-- chunks one behind another
abbrev pub bytes_of_chunks : {X : Type 0} → Layout X → List (Chunk X) → List ℕ
bytes_of_chunks {X} layout made = flat_map (λ (c : Chunk X). chunk_bytes layout c.partition c.items) made

-- where each of them stands, where the first stands at this place
abbrev pub chunk_starts : {X : Type 0} → Layout X → ℕ → List (Chunk X) → List (ℕ × Chunk X)
chunk_starts layout at [] = []
chunk_starts layout at (c ∷ made) = (at, c) ∷ chunk_starts layout (at + length (chunk_bytes layout c.partition c.items)) made

-- the places of those of a partition, in order of bytes
abbrev pub starts_of : {X : Type 0} → Layout X → ℕ → ℕ → List (Chunk X) → List ℕ
starts_of {X} layout p at made =
    map (λ (start : ℕ × Chunk X). start.0) (filter (λ (start : ℕ × Chunk X). start.1.partition == p) (chunk_starts layout at made))

-- a chunk whose numbers there is room for
pub record IsWritable {X : Type 0} (layout : Layout X) (c : Chunk X) : Type 0 where
  pub partition : c.partition < 2 ^ 32
  pub few : length c.items < 2 ^ 32
  pub held : All (λ r. layout.holds r ≡ true) c.items
