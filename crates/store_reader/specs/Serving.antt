-- What serving a chunk comes to.
use Rattle.std.specs.Prelude.{◌≡◌, ℕ, ⊤, ◌<◌, ◌≤◌, List, Option, Some, IfSome, length, take, slice_index_or, slice_get, option_and_then, Vec}
use Rattle.std.specs.Global.{Global}
use Rattle.std.specs.List.{All}
use Rattle.ports.specs.Disk.{DiskState}
use Rattle.chunk_object.specs.Epochs.{cursor_of}
use Rattle.chunk_cursor.specs.declared.table.Claim.{Claim}
use Rattle.chunk_cursor.specs.declared.table.Claim.TheVariants as claimed
use Rattle.chunk_cursor.specs.declared.view.View.{View}
use Rattle.chunk_cursor.specs.View.{with_call}
use Rattle.chunk_cursor.specs.Claims.{claim_of, IsGiven}
use Rattle.partitioner.specs.declared.split.Split.{Split}
use Rattle.chunk_model.specs.Layout.{Layout}
use Rattle.chunk_file.specs.declared.index.Place.{Place}
use Rattle.chunk_file.specs.Chunks.{AreChunkIn, IsChunkIn, NoChunkIn}
use Rattle.chunk_file.specs.Places.{places_of, on_graph}
use Rattle.store_reader.specs.declared.serving.Served.{Served}
use Rattle.store_reader.specs.declared.serving.Serving.{Serving}
use Rattle.store_reader.specs.declared.serving.Served.TheVariants.{Chunk, Exhausted, DiskFault, Damaged}
use Rattle.store_reader.specs.declared.serving.Shelf.{Shelf}
use Rattle.store_reader.specs.declared.serving.Shelf.TheVariants.{Graphs, Lanes}

-- what a device of the shelf tells: that of an engine, and of a lane where there are lanes
abbrev pub told_at : {D M : Type 0} → (D → DiskState) → Shelf D M → (engine lane : ℕ) → Option (List ℕ)
told_at state (Graphs disks) engine lane = option_and_then (λ disk. (state disk).bytes) (slice_get disks.now engine)
told_at state (Lanes lanes) engine lane =
    option_and_then (λ own. option_and_then (λ disk. (state disk).bytes) (slice_get own.items engine)) (slice_get lanes.now lane)

-- a lane of some has these devices
abbrev pub HasLane : {D : Type 0} → List (Vec D Global) → (lane : ℕ) → List D → Type 0
HasLane {D} lanes lane disks = (own : Vec D Global) × (slice_get lanes lane ≡ Some own) × (disks ≡ own.items)

-- the shelf has that device
abbrev pub has_device : {D M : Type 0} → Shelf D M → (engine lane : ℕ) → Type 0
has_device (Graphs disks) engine lane = engine < length disks.now
has_device (Lanes lanes) engine lane = (lane < length lanes.now) × All (λ own. engine < length own.items) lanes.now

-- the shelf has the device that each of these places names
abbrev pub HasDevices : {D M : Type 0} → Shelf D M → (engine : ℕ) → List Place → Type 0
HasDevices shelf engine places = All (λ (place : Place). has_device shelf engine place.lane) places

-- the place of a chunk
abbrev pub place_at : List (List Place) → (engine partition t : ℕ) → Place
place_at index engine partition t = slice_index_or (places_of index engine partition) t (on_graph 0)

-- the seat has one claim more, with this reply
pub record AddsClaim (old new : View) (cursor : ℕ) (claim : Claim) : Type 0 where
  pub call : new ≡ with_call old (claim_of cursor claim)
  pub given : IsGiven old cursor claim

-- So many records were read to the front of a buffer: they are a chunk of the partition, and where the device tells its
-- bytes they are the one that stands at the place.
pub record ReadsAt {X : Type 0} (layout : Layout X) (split : Split) (partition : ℕ) (place : Place) (told : Option (List ℕ)) (count : ℕ) (into : List X) : Type 0 where
  pub within : count ≤ length into
  pub are : AreChunkIn layout split (length into) partition (take count into)
  pub stands : IfSome told (λ bytes. IsChunkIn layout split (length into) partition place.at bytes (take count into))

-- no chunk of at most so many records stands at the place
pub record RefusesAt {X : Type 0} (layout : Layout X) (split : Split) (partition : ℕ) (place : Place) (told : Option (List ℕ)) (most at : ℕ) : Type 0 where
  pub named : at ≡ place.at
  pub none : IfSome told (NoChunkIn layout split most partition place.at)

-- **A chunk of the index is refused**: it has its place on this engine at this byte, and where the device tells its bytes no
-- chunk of at most so many records stands there.
pub record IsRefusedChunk {D M X : Type 0} (state : D → DiskState) (layout : Layout X) (serving : Serving D M) (most engine at : ℕ) : Type 0 where
  pub partition : ℕ
  pub t : ℕ
  pub engine_is : engine < serving.job.now.engines
  pub partition_is : partition < serving.split.now.parts
  pub there : t < length (places_of serving.index.now engine partition)
  pub refuses : RefusesAt layout serving.split.now partition (place_at serving.index.now engine partition t)
      (told_at state serving.shelf engine (place_at serving.index.now engine partition t).lane) most at

-- **A chunk of a cursor is found**: it has its place on an engine, in a partition, and where the device tells its bytes a
-- chunk of that partition of at most so many records stands there.
pub record IsFoundChunk {D M X : Type 0} (state : D → DiskState) (layout : Layout X) (serving : Serving D M) (most cursor t : ℕ) : Type 0 where
  pub engine : ℕ
  pub partition : ℕ
  pub cursor_is : cursor ≡ cursor_of engine partition
  pub engine_is : engine < serving.job.now.engines
  pub partition_is : partition < serving.split.now.parts
  pub there : t < length (places_of serving.index.now engine partition)
  pub stands : IfSome (told_at state serving.shelf engine (place_at serving.index.now engine partition t).lane)
      (λ bytes. (items : List X) × IsChunkIn layout serving.split.now most partition (place_at serving.index.now engine partition t).at bytes items)

-- so unless a read failed
abbrev pub OnServed : Served → Type 0 → Type 0
OnServed DiskFault P = ⊤
OnServed _ P = P

-- What each answer says: of the claim, and of the chunk that was taken.
abbrev pub HasServed : (claims : Claim → Type 0) (reads : (t count : ℕ) → Type 0) (rose : Type 0) (refuses : (t at : ℕ) → Type 0) → Served → Type 0
HasServed claims reads rose refuses (Chunk count) = (t : ℕ) × claims (claimed.Took t) × reads t count
HasServed claims reads rose refuses Exhausted = claims claimed.Exhausted
HasServed claims reads rose refuses DiskFault = (t : ℕ) × claims (claimed.Took t) × rose
HasServed claims reads rose refuses (Damaged at) = (t : ℕ) × claims (claimed.Took t) × refuses t at
