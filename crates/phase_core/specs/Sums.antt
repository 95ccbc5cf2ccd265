-- The merge of the sums of all workers.
use Rattle.std.specs.Prelude.{◌≡◌, ℕ, ◌<◌, ◌≤◌, List, All, map, flat_map}
use Rattle.std.specs.List.{range_with_len}
use Rattle.graph_model.specs.declared.value.Update.{Update}
use Rattle.graph_model.specs.Programs.{Rules}
use Rattle.graph_model.specs.Rounds.{merged}
use Rattle.graph_model.specs.Partitions.{partition_of}
use Rattle.partitioner.specs.declared.split.Split.{Split}
use Rattle.chunk_object.specs.Epochs.{cursor_of}
use Rattle.chunk_model.specs.Chunks.{Chunk}
use Rattle.phase_model.specs.Shelves.{Shelf}
use Rattle.phase_core.specs.Machine.{Machine}

-- the sums of all workers for a vertex, merged
abbrev pub merged_at : Rules → Machine → ℕ → ℕ
merged_at rules m vertex = merged rules (map (λ worker. m.sums worker vertex) (range_with_len 0 m.split.engines))

-- each value is a sum of the program
abbrev pub AreSums : (ℕ → Type 0) → Shelf Update → Type 0
AreSums IsSum = All (λ (c : ℕ × Chunk Update). All (λ (u : Update). IsSum u.value) c.1.items)

-- each chunk stands at a cursor of the split, and each of its updates goes to a vertex of its partition
pub record IsOfSplit (split : Split) (c : ℕ × Chunk Update) : Type 0 where
  pub engine : c.0 < split.engines
  pub partition : c.1.partition < split.parts
  pub home : All (λ (u : Update). partition_of split.vertices split.parts u.dst ≡ c.1.partition) c.1.items

-- no cursor of the partition has a chunk left
abbrev pub IsDrained : Machine → ℕ → Type 0
IsDrained m partition = (engine : ℕ) → engine < m.split.engines → m.object.len (cursor_of engine partition) ≤ m.object.next (cursor_of engine partition)

-- the updates of all chunks, in the order in which they were put
abbrev pub updates_put : Shelf Update → List Update
updates_put = flat_map (λ (c : ℕ × Chunk Update). c.1.items)
