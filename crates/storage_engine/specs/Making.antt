-- The devices of a store while it is made.
use Rattle.std.specs.Prelude.{◌≡◌, ℕ, ◌+◌, ◌*◌, ◌<◌, ◌≤◌, true, List, [], ◌++◌, length, map, slice_index_or, IfSome}
use Rattle.graph_model.specs.declared.edge.Edge.{Edge}
use Rattle.graph_model.specs.declared.job.Job.{Job}
use Rattle.std.specs.List.{All}
use Rattle.graph_model.specs.Jobs.{parts_of}
use Rattle.chunk_model.specs.Buffers.{Holds}
use Rattle.chunk_model.specs.Layout.{holds_edge}
use Rattle.chunk_model.specs.Chunks.{Chunk, full_chunks}
use Rattle.chunk_file.specs.declared.index.Place.{Place}
use Rattle.chunk_file.specs.declared.index.TheConstants.{MOST_PLACES}
use Rattle.chunk_file.specs.Places.{places_of, total_of, on_graph}
use Rattle.seeded_place.specs.Placing.{Placing, HasPlaced, edge_stream}
use Rattle.ports.specs.Disk.{DiskState, InEveryImage, IsSettled}
use Rattle.store_model.specs.Heads.{HEAD_SIZE, head}
use Rattle.store_model.specs.Slots.{device_size, IsBlank}
use Rattle.store_model.specs.Kept.{own_of}
use Rattle.store_model.specs.Graphs.{home_of, edge_chunks, graph_with, places_on}
use Rattle.storage_engine.specs.Waiting.{waiting}
use Rattle.storage_engine.specs.Steps.{IsClosedFront}
use Rattle.storage_engine.specs.declared.fault.MakeFault.{MakeFault}
use Rattle.storage_engine.specs.declared.fault.MakeFault.TheVariants.{DiskFault, Memory}

-- a graph device with the head of engine e, its gate closed in every image
pub record HasHead (job : Job) (e : ℕ) (disk : DiskState) : Type 0 where
  pub size : disk.size ≡ HEAD_SIZE
  pub read : IfSome disk.bytes (λ told. told ≡ head 0 job e)
  pub closed : InEveryImage disk IsClosedFront

-- a settled values device of engine e of its exact size, both of whose slots are closed
pub record IsBlankDevice (job : Job) (e : ℕ) (disk : DiskState) : Type 0 where
  pub size : disk.size ≡ device_size (own_of job e)
  pub blank : InEveryImage disk (IsBlank (own_of job e))
  pub settled : IsSettled disk

-- no chunk of edges has more bytes
abbrev pub MOST_BYTES : ℕ
MOST_BYTES = 8 + 16 * 65536

-- a graph device with these chunks behind a closed gate; its size is known whether or not it tells its bytes
pub record HasChunks (job : Job) (made : List (Chunk Edge)) (e : ℕ) (disk : DiskState) : Type 0 where
  pub size : disk.size ≡ length (graph_with 0 job e made)
  pub bound : disk.size ≤ HEAD_SIZE + MOST_BYTES * length made
  pub read : IfSome disk.bytes (λ told. told ≡ graph_with 0 job e made)
  pub closed : InEveryImage disk IsClosedFront

-- the index has the places of these chunks, and no other
pub record HasPlaces (job : Job) (made : List (Chunk Edge)) (index : List (List Place)) : Type 0 where
  pub lists : length index ≡ 512
  pub total : total_of index ≡ length made
  pub places : (e p : ℕ) → e < 8 → p < 64 → places_of index e p ≡ map on_graph (places_on job e p made)

-- these chunks of a job were made, and no other
pub record HasMade {X : Type 0} (state : X → DiskState) (job : Job) (made : List (Chunk Edge)) (placer : Placing) (index : List (List Place)) (graphs : List X) : Type 0 where
  pub many : length graphs ≡ job.engines
  pub placed : HasPlaced job.seed edge_stream job.engines (length made) placer
  pub few : length made ≤ MOST_PLACES
  pub places : HasPlaces job made index
  pub devices : (e : ℕ) (d : X) → e < length graphs → HasChunks job made e (state (slice_index_or graphs e d))

abbrev pub chunk_with : ℕ → List Edge → Chunk Edge
chunk_with partition edges = record { partition = partition; items = edges }

-- why a chunk was not made; `rose` says that the count of a device rose
abbrev pub HasMakeCause : (rose : Type 0) → MakeFault → Type 0
HasMakeCause rose DiskFault = rose
HasMakeCause rose Memory = Unit {0}

-- so few edges as a text within its limit has, whose chunks an index has room for
abbrev pub AreFew : Job → List Edge → Type 0
AreFew job edges = length edges ≤ 1073741824 * job.chunk

-- These edges of a job were given: their full chunks were made, and the rest waits.
pub record IsMaking {X : Type 0} (state : X → DiskState) (job : Job) (edges : List Edge) (buffers : List (List Edge)) (placer : Placing) (index : List (List Place)) (graphs : List X) : Type 0 where
  pub holds : Holds job.chunk (home_of job) (parts_of job) edges buffers
  pub filling : (p : ℕ) → p < parts_of job → length (waiting buffers p) < job.chunk
  pub held : (p : ℕ) → p < parts_of job → All (λ edge. holds_edge job.format edge ≡ true) (waiting buffers p)
  pub made : HasMade state job (full_chunks job.chunk (home_of job) [] edges) placer index graphs

-- edges were given, and with some more they are few
abbrev pub HasRoomFor : {X : Type 0} → (state : X → DiskState) → Job → List (List Edge) → Placing → List (List Place) → List X → (more : List Edge) → Type 0
HasRoomFor state job buffers placer index graphs more = (edges : List Edge) × IsMaking state job edges buffers placer index graphs × AreFew job (edges ++ more)

-- all chunks of these edges were made, and a stop leaves what a read gives
pub record IsFlushed {X : Type 0} (state : X → DiskState) (job : Job) (edges : List Edge) (index : List (List Place)) (graphs : List X) : Type 0 where
  pub few : length (edge_chunks job edges) ≤ MOST_PLACES
  pub places : HasPlaces job (edge_chunks job edges) index
  pub devices : (e : ℕ) (d : X) → e < length graphs → HasChunks job (edge_chunks job edges) e (state (slice_index_or graphs e d))
  pub settled : (e : ℕ) (d : X) → e < length graphs → IsSettled (state (slice_index_or graphs e d))
