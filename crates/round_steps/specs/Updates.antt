-- What the two epochs of a round do: edges send, and what was sent is gathered.
use Rattle.std.specs.Prelude.{◌≡◌, ◌≤◌, ℕ, Bool, List, map, Vec}
use Rattle.std.specs.Global.{Global}
use Rattle.graph_model.specs.declared.edge.Edge.{Edge}
use Rattle.graph_model.specs.declared.value.Update.{Update}
use Rattle.graph_model.specs.declared.job.Job.{Job}
use Rattle.graph_model.specs.Programs.{Rules}
use Rattle.ports.specs.Disk.{DiskState}
use Rattle.partitioner.specs.declared.split.Split.{Split}
use Rattle.chunk_object.specs.Epochs.{Epoch}
use Rattle.chunk_object.specs.History.{most_chunks}
use Rattle.chunk_cursor.specs.declared.view.View.{View}
use Rattle.chunk_model.specs.Layout.{update_layout}
use Rattle.chunk_file.specs.declared.index.Place.{Place}
use Rattle.phase_model.specs.JobTerms.{terms_of}
use Rattle.phase_model.specs.Lanes.{all_updates}
use Rattle.phase_model.specs.Shelves as shelves
use Rattle.replica_merge.specs.declared.replicas.Replicas.{Replicas}
use Rattle.store_reader.specs.declared.serving.Serving.{Serving}
use Rattle.store_reader.specs.Indexed.{IsServing, HasRecords, lens_of}
use Rattle.epoch_seats.specs.Made.{HasMadeEpoch}
use Rattle.scatter_epoch.specs.Sent.{IsOfRows, RowsTell}
use Rattle.epoch_laws.specs.Phases.{gathered, merged_over, sending_in, updates_of}
use Rattle.apply_round.specs.Made.{AreMerged}
use Rattle.round_steps.specs.Going.{Tell}
use Rattle.round_steps.specs.Standing.{HasEdges, ValuesStand}
use Rattle.round_steps.specs.Rounds.{earlier_values}

-- chunks may be served from these lanes by this index
abbrev pub AreServed : {D : Type 0} → (M : Type 0) → Job → Split → List (Vec D Global) → List (List Place) → Type 0
AreServed {D} M job split rows index = (serving : Serving D M) → IsOfRows job split rows index serving → IsServing serving

-- and they are these
abbrev pub Stand : {D : Type 0} → (M : Type 0) → (D → DiskState) → Job → Split → List (Vec D Global) → List (List Place) → shelves.Shelf Update → Type 0
Stand {D} M state job split rows index shelf = (serving : Serving D M) → IsOfRows job split rows index serving → HasRecords state update_layout serving (shelves.records_at shelf)

-- Each worker has sent some updates, and the index names exactly their chunks on its lanes. Where the store stands before the round, they are what its definition says
module _ {D : Type 0} (M : Type 0) (state : D → DiskState) (rules : Rules) (job : Job) (split : Split) (index : List (List Place)) (graphs values : List D) (round : ℕ) (changed_only : Bool) (t : ℕ) where
  pub record HasSent (rows : List (Vec D Global)) (updates : List (List Place)) (epoch : Epoch) : Type 0 where
    pub sent : List (List Update)
    pub lens : (cursor : ℕ) → lens_of updates cursor ≡ shelves.lens_of (all_updates job t 0 sent) cursor
    pub served : AreServed M job split rows updates
    pub stand : RowsTell state rows → Stand M state job split rows updates (all_updates job t 0 sent)
    pub are : (edges : List Edge) → HasEdges state job split index graphs edges → ValuesStand state rules split edges round changed_only values
        → all_updates job t 0 sent ≡ updates_of job edges (sending_in rules job.vertices edges round (earlier_values rules job.vertices edges round changed_only)) t epoch

  pub record Scatters (rows : List (Vec D Global)) (updates : List (List Place)) (done : Type 0) (before after : View) (took helped : ℕ) : Type 0 where
    pub epoch : Epoch
    pub made : HasMadeEpoch (terms_of job) (lens_of index) done before after took helped epoch
    pub has_sent : done → HasSent rows updates epoch

-- no epoch was begun
pub record IsIdle (done : Type 0) (before after : View) (took helped : ℕ) : Type 0 where
  pub same : after ≡ before
  pub not_done : done → ⊥
  pub none : (took ≡ 0) × (helped ≡ 0)

-- What the lanes have was gathered: whatever chunks stand there, the merge of all workers' sums is that over them
pub record Gathers {D : Type 0} (M : Type 0) (state : D → DiskState) (rules : Rules) (job : Job) (split : Split) (rows : List (Vec D Global)) (updates : List (List Place)) (spills : List D) (replicas : List Replicas) (spills' : List D)
    (done : Type 0) (before after : View) (took helped : ℕ) : Type 0 where
  pub epoch : Epoch
  pub made : HasMadeEpoch (terms_of job) (lens_of updates) done before after took helped epoch
  pub bounds : (cursor : ℕ) → lens_of updates cursor ≤ most_chunks
  pub merged_are : done → (shelf : shelves.Shelf Update) → Stand M state job split rows updates shelf → Tell state spills
      → AreMerged rules split replicas (map (λ d. (state d).bytes) spills') (λ v. merged_over rules (gathered rules shelf v) epoch)
