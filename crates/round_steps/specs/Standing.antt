-- What devices tell: the edges of the job, and the values of the rounds before.
use Rattle.std.specs.Prelude.{◌≡◌, ℕ, ◌-◌, ◌<◌, ◌≤◌, Bool, true, List, Option, Some, length, slice_get, slice_index_or, option_and_then}
use Rattle.graph_model.specs.declared.edge.Edge.{Edge}
use Rattle.graph_model.specs.declared.job.Job.{Job}
use Rattle.graph_model.specs.Programs.{Rules}
use Rattle.graph_model.specs.Rounds.{IsWithinGraph, values}
use Rattle.ports.specs.Disk.{DiskState}
use Rattle.partitioner.specs.declared.split.Split.{Split}
use Rattle.chunk_object.specs.Epochs.{cursor_of}
use Rattle.chunk_model.specs.Layout.{edge_layout}
use Rattle.chunk_file.specs.declared.index.Place.{Place}
use Rattle.chunk_file.specs.Places.{places_of}
use Rattle.chunk_file.specs.Chunks.{IsChunkIn}
use Rattle.phase_model.specs.Shelves.{lens_of, records_at}
use Rattle.store_model.specs.Slots.{slot_of, slot_values, values_bytes}
use Rattle.store_reader.specs.Reading.{own_in}
use Rattle.store_reader.specs.Serving.{place_at}
use Rattle.store_reader.specs.Indexed as indexed
use Rattle.store_reader.specs.declared.store.Store.{Store}
use Rattle.store_reader.specs.declared.store.Outcome.{Outcome}
use Rattle.store_reader.specs.declared.store.Outcome.TheVariants.{Done, DiskFault, Damaged, Memory}
use Rattle.epoch_laws.specs.Phases.{edge_shelf}
use Rattle.apply_round.specs.Made.{share_of}
use Rattle.scatter_epoch.specs.Sent.{RowsTell}
use Rattle.round_steps.specs.Going.{Tell}

-- no damage was found
abbrev pub IsSound : Outcome → Type 0
IsSound Done = Unit {0}
IsSound DiskFault = Unit {0}
IsSound (Damaged part engine place) = ⊥
IsSound Memory = Unit {0}

module _ {D : Type 0} (state : D → DiskState) where
  -- each chunk of the index stands on a graph device that tells its bytes, and has these edges
  abbrev pub HaveEdges : Job → Split → (index : List (List Place)) → (graphs : List D) → (ℕ → ℕ → List Edge) → Type 0
  HaveEdges job split index graphs records =
      (engine partition t : ℕ) → engine < job.engines → partition < split.parts → t < length (places_of index engine partition)
      → (bytes : List ℕ) × (option_and_then (λ disk. (state disk).bytes) (slice_get graphs engine) ≡ Some bytes)
      × IsChunkIn (edge_layout job.format) split job.chunk partition (place_at index engine partition t).at bytes (records (cursor_of engine partition) t)

  -- **These are the edges of the store**: the index names exactly the chunks that a job makes of them, and these stand on the graph devices
  pub record HasEdges (job : Job) (split : Split) (index : List (List Place)) (graphs : List D) (edges : List Edge) : Type 0 where
    pub within : IsWithinGraph job.vertices edges
    pub lens : (cursor : ℕ) → indexed.lens_of index cursor ≡ lens_of (edge_shelf job edges) cursor
    pub stand : HaveEdges job split index graphs (records_at (edge_shelf job edges))

-- The values device of an engine tells its bytes; the values of the round before are in their slot, and, where those alone send that have changed, those of two rounds before are in the slot of the round itself.
pub record StandsBefore (rules : Rules) (split : Split) (edges : List Edge) (round : ℕ) (changed_only : Bool) (engine : ℕ) (bytes : Option (List ℕ)) : Type 0 where
  pub read : List ℕ
  pub told : bytes ≡ Some read
  pub last : 1 ≤ round → slot_values (own_in split engine) (1 - slot_of round) read ≡ values_bytes (share_of split engine (values rules split.vertices edges (round - 1)))
  pub earlier : changed_only ≡ true → slot_values (own_in split engine) (slot_of round) read ≡ values_bytes (share_of split engine (values rules split.vertices edges (round - 2)))

-- they do so on each engine
abbrev pub ValuesStand : {D : Type 0} → (D → DiskState) → Rules → Split → List Edge → (round : ℕ) → (changed_only : Bool) → List D → Type 0
ValuesStand {D} state rules split edges round changed_only devices = (e : ℕ) (d : D) → e < split.engines → StandsBefore rules split edges round changed_only e (state (slice_index_or devices e d)).bytes

module _ {D M : Type 0} (state : D → DiskState) where
  -- **The store stands before a round of these edges**: all devices tell their bytes, the edges are on the graph devices, and the values of the rounds before on the values devices
  pub record IsBefore (rules : Rules) (job : Job) (split : Split) (index : List (List Place)) (edges : List Edge) (round : ℕ) (changed_only : Bool) (store : Store D M) : Type 0 where
    pub has_edges : HasEdges state job split index store.graphs.items edges
    pub values_stand : ValuesStand state rules split edges round changed_only store.values.items
    pub lanes_tell : RowsTell state store.lanes.items
    pub spills_tell : Tell state store.spills.items
    pub may : changed_only ≡ true → (rules.absorbs ≡ true) × (2 ≤ round)
