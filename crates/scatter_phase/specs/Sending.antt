-- What a worker sends for the edges of one chunk.
use Rattle.std.specs.Prelude.{◌≡◌, ℕ, ◌+◌, ◌≤◌, Option, Some, None, List, [], ◌∷◌, ◌++◌, length, take}
use Rattle.graph_model.specs.declared.edge.Edge.{Edge}
use Rattle.graph_model.specs.declared.value.Value.{Value}
use Rattle.graph_model.specs.Programs.{Rules}
use Rattle.graph_model.specs.Partitions.{first_vertex}
use Rattle.ports.specs.Disk.{DiskState}
use Rattle.partitioner.specs.declared.split.Split.{Split}
use Rattle.chunk_model.specs.Layout.{edge_layout}
use Rattle.phase_model.specs.Sends.{Sending}
use Rattle.store_reader.specs.Indexed.{HasRecords}
use Rattle.store_reader.specs.Reading.{len_in}
use Rattle.update_lanes.specs.Sending.{sending_all, sending_changed}
use Rattle.worker_duty.specs.declared.acts.Step.{Step}
use Rattle.worker_duty.specs.declared.acts.Step.TheVariants as step
use Rattle.scatter_phase.specs.declared.desk.ScatterContext.{ScatterContext}
use Rattle.scatter_phase.specs.declared.desk.ScatterDesk.{ScatterDesk}
use Rattle.scatter_phase.specs.declared.desk.ScatterRoom.{ScatterRoom}
use Rattle.scatter_phase.specs.Phases.{IsOpen, HasSentOf, MayStopBy, AreWithin}

-- what was read stays in the room
pub record KeepsBuffers (old new : ScatterRoom) : Type 0 where
  pub bytes : new.bytes ≡ old.bytes
  pub edges : new.edges ≡ old.edges
  pub now : new.now ≡ old.now
  pub before : new.before ≡ old.before
  pub changed : new.changed ≡ old.changed
  pub loaded : new.loaded ≡ old.loaded

-- the sending from a partition that begins at this vertex, under these values: of all its vertices, or where there is a second slot of those that changed
abbrev pub sending_from : Rules → (first : ℕ) → (slot : Option ℕ) → (before now : List Value) → Sending
sending_from rules first None before now = sending_all rules first now
sending_from rules first (Some slot) before now = sending_changed rules first before now

-- the sending from a partition whose values are in the room
abbrev pub sending_in : Rules → Split → (partition : ℕ) → (slot : Option ℕ) → ScatterRoom → Sending
sending_in rules split partition slot room =
    sending_from rules (first_vertex split.vertices split.parts partition) slot (take (len_in split partition) room.before.items) (take (len_in split partition) room.now.items)

module _ {P D G M : Type 0} (rules : P → Rules) (state : D → DiskState) (c : ScatterContext P D G M) where
  -- a chunk of these edges was sent for, behind whatever was sent before
  pub record Scatters (old new : ScatterDesk D M) (edges : List Edge) : Type 0 where
    pub fit : IsOpen rules state c new
    pub has : (chunks : List (ℕ × ℕ)) (cursor t : ℕ) → HasSentOf rules state c old chunks
        → ((records : ℕ → ℕ → List Edge) → HasRecords state (edge_layout c.serving.job.now.format) c.serving records → records cursor t ≡ edges)
        → HasSentOf rules state c new (chunks ++ (cursor, t) ∷ [])

  -- or the work was stopped at it
  pub record StopsAt (old new : ScatterDesk D M) : Type 0 where
    pub why : MayStopBy rules state c new.outcome
    pub within : AreWithin rules state c new.places.items
    pub few : (chunks : List (ℕ × ℕ)) → HasSentOf rules state c old chunks → length new.places.items ≤ length chunks + 1

  abbrev pub HasSentFor : (old new : ScatterDesk D M) → List Edge → Step → Type 0
  HasSentFor old new edges step.Took = Scatters old new edges
  HasSentFor old new edges step.Exhausted = ⊥
  HasSentFor old new edges step.Stopped = StopsAt old new
