-- What a scatter phase says of the desks of its workers.
use Rattle.std.specs.Prelude.{◌≡◌, ◌⊎◌, ⊤, ℕ, ◌*◌, ◌≤◌, Bool, Option, Some, List, length, take}
use Rattle.std.specs.List.{All}
use Rattle.graph_model.specs.declared.edge.Edge.{Edge}
use Rattle.graph_model.specs.declared.value.Value.{Value}
use Rattle.graph_model.specs.declared.value.Update.{Update}
use Rattle.graph_model.specs.declared.job.Job.{Job}
use Rattle.graph_model.specs.Programs.{Rules}
use Rattle.ports.specs.Disk.{DiskState}
use Rattle.ports.specs.Faults.{Rose}
use Rattle.ports.specs.Devices.{OneRose, NoneRose}
use Rattle.partitioner.specs.declared.split.Split.{Split}
use Rattle.chunk_model.specs.Layout.{edge_layout}
use Rattle.phase_model.specs.declared.placed.Placed.{Placed}
use Rattle.phase_model.specs.Sends.{sent_by, sending_of}
use Rattle.phase_model.specs.Taken.{records_of}
use Rattle.store_reader.specs.declared.store.Outcome.{Outcome}
use Rattle.store_reader.specs.declared.store.Outcome.TheVariants.{Done, DiskFault, Damaged, Memory}
use Rattle.store_reader.specs.declared.store.Part.TheVariants.{Graph}
use Rattle.store_reader.specs.Indexed.{HasRecords}
use Rattle.store_reader.specs.Reading.{len_in}
use Rattle.store_reader.specs.Serving.{IsRefusedChunk, IsFoundChunk}
use Rattle.update_lanes.specs.Lanes.{AreReady, GoOn, IsWithin}
use Rattle.update_lanes.specs.Outgoing.{HasSent, NoneFull}
use Rattle.update_lanes.specs.Sending.{AreChanges}
use Rattle.scatter_phase.specs.declared.desk.ScatterContext.{ScatterContext}
use Rattle.scatter_phase.specs.declared.desk.ScatterDesk.{ScatterDesk}
use Rattle.scatter_phase.specs.declared.desk.ScatterRoom.{ScatterRoom}
use Rattle.scatter_phase.specs.Rooms.{IsRoom}
use Rattle.store_reader.specs.Values.{HoldValues, HoldBefore, IsSet}

module _ {D M : Type 0} (state : D → DiskState) (faults : M → ℕ) (number : ℕ) where
  -- how a desk goes on under a beat of this number: its worker and rooms stay, counts of faults never fall, a disk fault is answered only where one rose, and Done only where it was and none rose
  pub record GoesOn (old new : ScatterDesk D M) : Type 0 where
    pub worker : new.worker ≡ old.worker
    pub room : (job : Job) → IsRoom job old.room → IsRoom job new.room
    pub reads : faults old.meter ≤ faults new.meter
    pub lanes : GoOn state number old.lanes.items new.lanes.items
    pub caused : new.outcome ≡ DiskFault → (old.outcome ≡ DiskFault) ⊎ (Rose (faults old.meter) (faults new.meter) ⊎ OneRose state old.lanes.items new.lanes.items)
    pub calm : new.outcome ≡ Done → (old.outcome ≡ Done) × (faults new.meter ≡ faults old.meter) × NoneRose state old.lanes.items new.lanes.items

module _ {X : Type 0} (state : X → DiskState) (split : Split) (devices : List X) where
  -- the first of these values are those of the partition, whatever values of all vertices stand in the slot
  abbrev pub IsSetAtFront : (slot partition : ℕ) → List Value → Type 0
  IsSetAtFront slot partition set = IsSet state split devices slot partition (take (len_in split partition) set)

  -- where there is a second slot
  abbrev pub IsSetBefore : (slot : Option ℕ) → (partition : ℕ) → List Value → Type 0
  IsSetBefore slot partition set = (s : ℕ) → slot ≡ Some s → IsSetAtFront s partition set

-- the first of these marks, as many as the partition has vertices, tell which of the first values are other ones than before
abbrev pub AreMarked : Split → (partition : ℕ) → (before now : List Value) → List Bool → Type 0
AreMarked split partition before now changed = AreChanges (take (len_in split partition) before) (take (len_in split partition) now) (take (len_in split partition) changed)

-- where there is a second slot
abbrev pub AreMarkedSince : Split → (slot : Option ℕ) → (partition : ℕ) → ScatterRoom → Type 0
AreMarkedSince split slot partition room = (s : ℕ) → slot ≡ Some s → AreMarked split partition room.before.items room.now.items room.changed.items

module _ {P D G M : Type 0} (rules : P → Rules) (state : D → DiskState) (c : ScatterContext P D G M) where
  -- the values of the partition that is loaded are in the room, and marks of those that changed
  abbrev pub AreLoaded : ScatterRoom → Type 0
  AreLoaded room = (partition : ℕ) → room.loaded ≡ Some partition
      → IsSetAtFront state c.serving.split.now c.values.now c.slot partition room.now.items × IsSetBefore state c.serving.split.now c.values.now c.before partition room.before.items × AreMarkedSince c.serving.split.now c.before partition room

  -- the places that are noted are on engines and in partitions of the split
  abbrev pub AreWithin : List Placed → Type 0
  AreWithin places = All (IsWithin c.serving.job.now.engines c.serving.split.now.parts) places

  -- a desk that can send the updates of one chunk more
  pub record IsOpen (desk : ScatterDesk D M) : Type 0 where
    pub room : IsRoom c.serving.job.now desk.room
    pub loaded : AreLoaded desk.room
    pub none_full : NoneFull desk.room.outgoing.size desk.room.outgoing.buffers.items
    pub ready : AreReady state desk.room.outgoing.split.engines c.beat.now (length desk.places.items) desk.lanes.items
    pub within : AreWithin desk.places.items
    pub done : desk.outcome ≡ Done

  -- Some updates were sent, no more than these chunks have edges; where the devices tell the chunks and the values, they are what the chunks send
  pub record HasSentOf (desk : ScatterDesk D M) (chunks : List (ℕ × ℕ)) : Type 0 where
    pub updates : List Update
    pub sent : HasSent state c.serving.job.now c.epoch desk.worker updates desk.room.outgoing.buffers.items desk.room.outgoing.placer desk.lanes.items desk.places.items
    pub few : length updates ≤ c.serving.job.now.chunk * length chunks
    pub are : (records : ℕ → ℕ → List Edge) → HasRecords state (edge_layout c.serving.job.now.format) c.serving records
        → (now : List Value) → HoldValues state c.serving.split.now c.values.now c.slot now
        → (before : Option (List Value)) → HoldBefore state c.serving.split.now c.values.now c.before before
        → updates ≡ sent_by (sending_of (rules c.program.now) before now) (records_of records chunks)

  -- each of these chunks stands at its place, where its device tells its bytes
  abbrev pub AreFound : List (ℕ × ℕ) → Type 0
  AreFound = All (λ (chunk : ℕ × ℕ). IsFoundChunk state (edge_layout c.serving.job.now.format) c.serving c.serving.job.now.chunk chunk.0 chunk.1)

  pub record DeskHolds (desk : ScatterDesk D M) (chunks : List (ℕ × ℕ)) : Type 0 where
    pub fit : IsOpen desk
    pub has : HasSentOf desk chunks
    pub found : AreFound chunks

  -- why the work may be stopped: damage is that of a chunk of the index, and is found only where not all chunks stand on
  -- devices that tell their bytes
  abbrev pub MayStopBy : Outcome → Type 0
  MayStopBy Done = ⊥
  MayStopBy DiskFault = ⊤
  MayStopBy (Damaged part engine place) = ((part ≡ Graph) × IsRefusedChunk state (edge_layout c.serving.job.now.format) c.serving c.serving.job.now.chunk engine place) × ((records : ℕ → ℕ → List Edge) → HasRecords state (edge_layout c.serving.job.now.format) c.serving records → ⊥)
  MayStopBy Memory = ⊤

  pub record DeskStops (desk : ScatterDesk D M) (chunks : List (ℕ × ℕ)) : Type 0 where
    pub why : MayStopBy desk.outcome
    pub within : AreWithin desk.places.items
    pub few : length desk.places.items ≤ length chunks
