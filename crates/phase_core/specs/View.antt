-- What contracts see of a core.
use Rattle.std.specs.Prelude.{◌≡◌, ℕ, ◌+◌, ◌*◌, ◌<◌, nat_lt, if◌then◌else◌, false, List, All, length, map, slice_index_or}
use Rattle.graph_model.specs.declared.value.Update.{Update}
use Rattle.chunk_model.specs.Chunks.{Chunk}
use Rattle.phase_model.specs.Shelves.{Shelf, lens_of, records_at}
use Rattle.phase_core.specs.declared.state.Core.{Core}
use Rattle.phase_core.specs.declared.chunk.PutChunk.{PutChunk}
use Rattle.phase_core.specs.Machine.{Machine, fresh}
use Rattle.graph_model.specs.Partitions.{partition_of}
use Rattle.partitioner.specs.declared.split.Split.{Split}

-- a table in one list, a row behind another, each of so many entries
abbrev pub entry : {X : Type 0} → (width : ℕ) → X → List X → (row place : ℕ) → X
entry width default xs row place = if nat_lt place width then slice_index_or xs (width * row + place) default else default

abbrev pub placed_of : PutChunk → ℕ × Chunk Update
placed_of c = (c.engine, record { partition = c.partition; items = c.updates.items })

abbrev pub shelf_of : List PutChunk → Shelf Update
shelf_of = map placed_of

-- **The machine of a core.**
abbrev pub machine_of : Core → Machine
machine_of core = record {
  split = core.split;
  chunks = shelf_of core.chunks.items;
  object = record {
    next = λ cursor. slice_index_or core.nexts.items cursor 0;
    len = lens_of (shelf_of core.chunks.items);
    heads = λ partition. slice_index_or core.heads.items partition 0;
  };
  admitted = entry 64 false core.admitted.items;
  refused = entry 512 false core.refused.items;
  finished = λ worker. slice_index_or core.finished.items worker false;
  sums = entry core.split.vertices core.unit core.sums.items;
}

-- the chunk that stands at this index among all is that of this number at the cursor
pub record IsNumbered (chunks : List PutChunk) (cursor number index : ℕ) : Type 0 where
  pub below : index < length chunks
  pub counted : number < lens_of (shelf_of chunks) cursor
  pub records : (default : PutChunk) → records_at (shelf_of chunks) cursor number ≡ (slice_index_or chunks index default).updates.items

-- no event has changed anything yet
abbrev pub IsUnused : Machine → Type 0
IsUnused m = (unit : ℕ) × (m ≡ fresh m.split unit m.chunks)

-- a chunk of these updates may be put there: each goes to a vertex of the partition
pub record PutsAt (split : Split) (engine partition : ℕ) (updates : List Update) : Type 0 where
  pub engine_there : engine < split.engines
  pub partition_there : partition < split.parts
  pub home : All (λ (u : Update). (u.dst < split.vertices) × (partition_of split.vertices split.parts u.dst ≡ partition)) updates

-- the chunk at this index is the next one of the cursor
abbrev pub IsNextOf : Core → (cursor index : ℕ) → Type 0
IsNextOf core cursor index = IsNumbered core.chunks.items cursor ((machine_of core).object.next cursor) index
