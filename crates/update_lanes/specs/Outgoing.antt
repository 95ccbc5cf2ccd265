-- The updates of a worker on their way to its lanes.
use Rattle.std.specs.Prelude.{◌≡◌, ℕ, ◌+◌, ◌*◌, ◌<◌, ◌≤◌, true, List, [], ◌∷◌, ◌++◌, length, map, slice_index_or, slice_set, Vec, vec_len, vec_capacity}
use Rattle.std.specs.Global.{Global}
use Rattle.std.specs.List.{All}
use Rattle.graph_model.specs.declared.job.Job.{Job}
use Rattle.graph_model.specs.declared.value.Update.{Update}
use Rattle.graph_model.specs.Jobs.{parts_of}
use Rattle.ports.specs.Disk.{DiskState}
use Rattle.partitioner.specs.Splits.{IsSplit, IsSplitOf}
use Rattle.chunk_model.specs.Chunks.{full_chunks}
use Rattle.chunk_model.specs.Buffers.{Holds}
use Rattle.chunk_model.specs.Layout.{holds_update}
use Rattle.seeded_place.specs.Placing.{Placing, update_stream}
use Rattle.phase_model.specs.declared.placed.Placed.{Placed}
use Rattle.phase_model.specs.Lanes.{update_home}
use Rattle.update_lanes.specs.declared.outgoing.Outgoing.{Outgoing}
use Rattle.update_lanes.specs.Lanes.{HasMade, AreReady, GoOn, IsWithin}

-- a list of buffers, one for each partition
abbrev pub Lists : Type 0
Lists = List (Vec Update Global)

-- what waits in each
abbrev pub waiting : Lists → List (List Update)
waiting = map (λ (v : Vec Update Global). v.items)

-- a buffer with room for a chunk of this size
pub record IsBuffer (size : ℕ) (buffer : Vec Update Global) : Type 0 where
  pub room : size ≤ vec_capacity buffer
  pub held : All (λ (u : Update). holds_update u ≡ true) buffer.items

-- buffers with room for a chunk of this size
abbrev pub AreBuffers : (size : ℕ) → Lists → Type 0
AreBuffers size buffers = (p : ℕ) (d : Vec Update Global) → p < length buffers → IsBuffer size (slice_index_or buffers p d)

-- none of them is full
abbrev pub NoneFull : (size : ℕ) → Lists → Type 0
NoneFull size buffers = (p : ℕ) (d : Vec Update Global) → p < length buffers → vec_len (slice_index_or buffers p d) < size

-- nothing waits
abbrev pub NoneWaits : Lists → Type 0
NoneWaits buffers = (p : ℕ) (d : Vec Update Global) → p < length buffers → (vec_len (slice_index_or buffers p d) ≡ 0) × ((slice_index_or buffers p d).items ≡ [])

-- A buffer for each partition of a split, with room for a chunk each, and room for the bytes of one chunk.
pub record HasRoom (out : Outgoing) : Type 0 where
  pub split : IsSplit out.split
  pub size : (1 ≤ out.size) × (out.size ≤ 65536)
  pub many : length out.buffers.items ≡ out.split.parts
  pub rooms : AreBuffers out.size out.buffers.items
  pub bytes : 8 + 12 * out.size ≤ length out.bytes.items
  pub engines : out.placer.engines ≡ out.split.engines

-- an update of a vertex of a job, whose numbers there is room for
pub record FitsJob (job : Job) (update : Update) : Type 0 where
  pub holds : holds_update update ≡ true
  pub dst : update.dst < job.vertices

-- **A worker has sent these updates**: the full chunks of them were written, and the others wait.
pub record HasSent {X : Type 0} (state : X → DiskState) (job : Job) (epoch worker : ℕ) (updates : List Update) (buffers : Lists) (placer : Placing) (lanes : List X) (places : List Placed) : Type 0 where
  pub fit : All (FitsJob job) updates
  pub below : All (λ (u : Update). update_home job u < parts_of job) updates
  pub holds : Holds job.chunk (update_home job) (parts_of job) updates (waiting buffers)
  pub made : HasMade state job.seed (update_stream epoch worker) job.engines placer lanes places (full_chunks job.chunk (update_home job) [] updates)

-- what stays the same of what is outgoing
pub record IsSameRoom (old new : Outgoing) : Type 0 where
  pub split : new.split ≡ old.split
  pub size : new.size ≡ old.size
  pub format : new.format ≡ old.format
  pub bytes : length new.bytes.items ≡ length old.bytes.items

-- a buffer has one update more, and no other is changed
pub record Gains (partition : ℕ) (update : Update) (old new : Lists) : Type 0 where
  pub buffer : Vec Update Global
  pub is : new ≡ slice_set old partition buffer
  pub gained : (d : Vec Update Global) → buffer.items ≡ (slice_index_or old partition d).items ++ update ∷ []
  pub long : (d : Vec Update Global) → vec_len buffer ≡ vec_len (slice_index_or old partition d) + 1
  pub room : (d : Vec Update Global) → vec_capacity buffer ≡ vec_capacity (slice_index_or old partition d)

-- a buffer is emptied, and no other is changed
pub record Empties (partition : ℕ) (old new : Lists) : Type 0 where
  pub buffer : Vec Update Global
  pub is : new ≡ slice_set old partition buffer
  pub none : buffer.items ≡ []
  pub short : vec_len buffer ≡ 0
  pub room : (d : Vec Update Global) → vec_capacity buffer ≡ vec_capacity (slice_index_or old partition d)

-- **Some updates were sent**: to whatever a worker had sent before, these were added. The lanes go on, and the places
-- stay within the split.
pub record SendsOn {X : Type 0} (state : X → DiskState) (number : ℕ) (old new : Outgoing) (lanes written : List X) (places noted : List Placed) (updates : List Update) : Type 0 where
  pub same : IsSameRoom old new
  pub room : HasRoom new
  pub open_still : NoneFull new.size new.buffers.items
  pub go_on : GoOn state number lanes written
  pub ready : AreReady state new.split.engines number (length noted) written
  pub within : All (IsWithin old.split.engines old.split.parts) places → All (IsWithin old.split.engines old.split.parts) noted
  pub sent : (job : Job) (epoch worker : ℕ) (before : List Update) → IsSplitOf job old.split → old.size ≡ job.chunk
      → HasSent state job epoch worker before old.buffers.items old.placer lanes places → HasSent state job epoch worker (before ++ updates) new.buffers.items new.placer written noted

-- **The sending of updates was stopped**, where so many were to be sent at most.
pub record StopsOn {X : Type 0} (state : X → DiskState) (number : ℕ) (old new : Outgoing) (lanes written : List X) (places noted : List Placed) (most : ℕ) : Type 0 where
  pub same : IsSameRoom old new
  pub room : HasRoom new
  pub go_on : GoOn state number lanes written
  pub within : All (IsWithin old.split.engines old.split.parts) places → All (IsWithin old.split.engines old.split.parts) noted
  pub few : (job : Job) (epoch worker : ℕ) (before : List Update) → IsSplitOf job old.split → old.size ≡ job.chunk
      → HasSent state job epoch worker before old.buffers.items old.placer lanes places → length noted * job.chunk ≤ length before + most
