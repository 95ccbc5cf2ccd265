-- The updates on the lanes of all workers, and the index of their chunks.
use Rattle.std.specs.Prelude.{◌≡◌, ℕ, ◌<◌, Option, Some, List, length, map, slice_index_or, Vec}
use Rattle.std.specs.Global.{Global}
use Rattle.std.specs.List.{All}
use denote.Ref.{Bor}
use Rattle.graph_model.specs.declared.edge.Edge.{Edge}
use Rattle.graph_model.specs.declared.value.Value.{Value}
use Rattle.graph_model.specs.declared.value.Update.{Update}
use Rattle.graph_model.specs.declared.job.Job.{Job}
use Rattle.graph_model.specs.Programs.{Rules}
use Rattle.partitioner.specs.declared.split.Split.{Split}
use Rattle.ports.specs.Disk.{DiskState}
use Rattle.chunk_object.specs.declared.call.Call.{Call}
use Rattle.chunk_model.specs.Layout.{edge_layout, update_layout}
use Rattle.phase_model.specs.Lanes.{all_updates}
use Rattle.phase_model.specs.Shelves as shelves
use Rattle.phase_model.specs.Sends.{sent_by, sending_of}
use Rattle.phase_model.specs.Taken.{records_taken}
use Rattle.chunk_file.specs.declared.index.Place.{Place}
use Rattle.store_reader.specs.declared.serving.Serving.{Serving}
use Rattle.store_reader.specs.declared.serving.Shelf.TheVariants.{Lanes}
use Rattle.store_reader.specs.Indexed.{IsServing, HasRecords, lens_of}
use Rattle.update_lanes.specs.Outgoing.{FitsJob}
use Rattle.scatter_phase.specs.declared.desk.ScatterContext.{ScatterContext}
use Rattle.store_reader.specs.Values.{HoldValues, HoldBefore}

module _ {D : Type 0} (state : D → DiskState) where
  -- each lane of each worker tells its bytes
  abbrev pub RowsTell : List (Vec D Global) → Type 0
  RowsTell rows = (w : ℕ) (row : Vec D Global) → w < length rows → (e : ℕ) (d : D) → e < length (slice_index_or rows w row).items →
      (bytes : List ℕ) × ((state (slice_index_or (slice_index_or rows w row).items e d)).bytes ≡ Some bytes)

-- chunks are served from the lanes of these rows, by this index
pub record IsOfRows {D M : Type 0} (job : Job) (split : Split) (rows : List (Vec D Global)) (index : List (List Place)) (serving : Serving D M) : Type 0 where
  pub lanes : Bor (List (Vec D Global))
  pub shelf : serving.shelf ≡ Lanes lanes
  pub rows_are : lanes.now ≡ rows
  pub index_is : serving.index.now ≡ index
  pub job_is : serving.job.now ≡ job
  pub split_is : serving.split.now ≡ split

module _ {P D G M : Type 0} (rules : P → Rules) (state : D → DiskState) (c : ScatterContext P D G M) where
  -- **Each worker has sent some updates, and the index names exactly their chunks on its lanes**, worker by worker. The updates are what the edges of the chunks in its list send, under the values that stand in the slots
  pub record HaveSent (rows : List (Vec D Global)) (index : List (List Place)) (lists : List (List Call)) : Type 0 where
    pub sent : List (List Update)
    pub many : length sent ≡ c.serving.job.now.engines
    pub fit : All (All (FitsJob c.serving.job.now)) sent
    pub lens : (cursor : ℕ) → lens_of index cursor ≡ shelves.lens_of (all_updates c.serving.job.now c.epoch 0 sent) cursor
    pub served : (serving : Serving D M) → IsOfRows c.serving.job.now c.serving.split.now rows index serving → IsServing serving
    pub stand : RowsTell state rows → (serving : Serving D M) → IsOfRows c.serving.job.now c.serving.split.now rows index serving →
        HasRecords state update_layout serving (shelves.records_at (all_updates c.serving.job.now c.epoch 0 sent))
    pub are : (records : ℕ → ℕ → List Edge) → HasRecords state (edge_layout c.serving.job.now.format) c.serving records
        → (now : List Value) → HoldValues state c.serving.split.now c.values.now c.slot now
        → (before : Option (List Value)) → HoldBefore state c.serving.split.now c.values.now c.before before
        → sent ≡ map (λ calls. sent_by (sending_of (rules c.program.now) before now) (records_taken records calls)) lists
