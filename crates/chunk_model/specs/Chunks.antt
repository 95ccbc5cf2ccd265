-- The chunks of a list: items of one partition each, in order of their making.
use Rattle.std.specs.Prelude.{◌≡◌, ◌<◌, ◌≤◌, ℕ, ◌-◌, ◌*◌, ◌/◌, ◌%◌, ◌==◌, if◌then◌else◌, List, [], ◌∷◌, ◌++◌, length, drop, filter, flat_map}
use Rattle.std.specs.List.{All, range_with_len}

pub record Chunk (X : Type 0) : Type 0 where
  pub partition : ℕ
  pub items : List X

-- the items of a partition, in order; `home` gives the partition of an item
abbrev pub items_of : {X : Type 0} → (X → ℕ) → ℕ → List X → List X
items_of home p items = filter (λ item. home item == p) items

-- a chunk of these items, where there are any
abbrev pub chunk_of : {X : Type 0} → ℕ → List X → List (Chunk X)
chunk_of p [] = []
chunk_of p (item ∷ items) = record { partition = p; items = item ∷ items } ∷ []

-- The chunk that an item completes: with it the items of its partition are a multiple of the size, and the chunk is
-- the last so many of them.
abbrev pub filled_by : {X : Type 0} → ℕ → (X → ℕ) → List X → X → List (Chunk X)
filled_by size home before item =
    let mine = items_of home (home item) (before ++ item ∷ []) in
    if length mine % size == 0 then chunk_of (home item) (drop (length mine - size) mine) else []

-- the chunks that these items complete, one after another, where others came before
abbrev pub full_chunks : {X : Type 0} → ℕ → (X → ℕ) → List X → List X → List (Chunk X)
full_chunks size home before [] = []
full_chunks size home before (item ∷ items) =
    filled_by size home before item ++ full_chunks size home (before ++ item ∷ []) items

-- the items of a partition that no full chunk has
abbrev pub left_over : {X : Type 0} → ℕ → (X → ℕ) → List X → ℕ → List X
left_over size home items p = let mine = items_of home p items in drop (length mine / size * size) mine

-- **The chunks of a list**: the full ones in order, and then, partition by partition, what is left over.
abbrev pub chunks : {X : Type 0} → ℕ → (X → ℕ) → ℕ → List X → List (Chunk X)
chunks size home parts items =
    full_chunks size home [] items ++ flat_map (λ p. chunk_of p (left_over size home items p)) (range_with_len 0 parts)

-- the chunks of a partition
abbrev pub chunks_of_partition : {X : Type 0} → ℕ → List (Chunk X) → List (Chunk X)
chunks_of_partition {X} p made = filter (λ (c : Chunk X). c.partition == p) made

-- the items of chunks, chunk by chunk
abbrev pub items_in : {X : Type 0} → List (Chunk X) → List X
items_in {X} made = flat_map (λ (c : Chunk X). c.items) made

-- A chunk of at most so many items, at least one, all of its partition.
pub record IsChunkOf {X : Type 0} (size : ℕ) (home : X → ℕ) (c : Chunk X) : Type 0 where
  pub some : 0 < length c.items
  pub few : length c.items ≤ size
  pub of_partition : All (λ item. home item ≡ c.partition) c.items
