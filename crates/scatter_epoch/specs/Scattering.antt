-- What the workers of a scatter epoch have done.
use Rattle.std.specs.Prelude.{◌≡◌, ◌≢◌, ◌⊎◌, ℕ, ◌<◌, List, length, slice_index_or, Vec}
use Rattle.std.specs.Global.{Global}
use Rattle.graph_model.specs.Programs.{Rules}
use Rattle.ports.specs.Disk.{DiskState, ContinuesUnder}
use Rattle.ports.specs.Faults.{Rose}
use Rattle.ports.specs.Devices.{OneRose, EachRow}
use Rattle.chunk_object.specs.declared.call.Call.{Call}
use Rattle.chunk_object.specs.Epochs.{Epoch, list_of}
use Rattle.chunk_object.specs.Duty.{IsDutiful}
use Rattle.chunk_cursor.specs.declared.view.View.{View}
use Rattle.phase_model.specs.JobTerms.{terms_of}
use Rattle.chunk_file.specs.declared.index.Place.{Place}
use Rattle.store_reader.specs.declared.store.Outcome.{Outcome}
use Rattle.store_reader.specs.declared.store.Outcome.TheVariants.{Done, DiskFault, Memory}
use Rattle.store_reader.specs.Indexed.{lens_of}
use Rattle.scatter_phase.specs.declared.desk.ScatterContext.{ScatterContext}
use Rattle.scatter_phase.specs.Phases.{MayStopBy}
use Rattle.worker_outcomes.specs.Lowest.{lowest_outcome}
use Rattle.worker_outcomes.specs.declared.epoch_end.EpochEnd.{EpochEnd}
use Rattle.epoch_seats.specs.Made.{HasMadeEpoch}
use Rattle.scatter_epoch.specs.Sent.{HaveSent}

module _ {D : Type 0} (state : D → DiskState) where
  -- the rows of lanes go on, each in its place
  abbrev pub RowsGoOn : (number : ℕ) → (old new : List (Vec D Global)) → Type 0
  RowsGoOn number old new = EachRow state (ContinuesUnder number) old new

module _ {D M : Type 0} (state : D → DiskState) (faults : M → ℕ) where
  -- the count of a worker's meter or of one of its lanes rose
  abbrev pub SomeRose : (meter meter' : M) (row row' : Vec D Global) → Type 0
  SomeRose meter meter' row row' = Rose (faults meter) (faults meter') ⊎ OneRose state row.items row'.items

  -- that of one of the workers
  abbrev pub RoseOfOne : ℕ → (meters meters' : List M) (rows rows' : List (Vec D Global)) → Type 0
  RoseOfOne workers meters meters' rows rows' =
      (w : ℕ) × (w < workers) × ((m : M) (row : Vec D Global) → SomeRose (slice_index_or meters w m) (slice_index_or meters' w m) (slice_index_or rows w row) (slice_index_or rows' w row))

module _ {P D G M : Type 0} (rules : P → Rules) (state : D → DiskState) (faults : M → ℕ) (c : ScatterContext P D G M) where
  -- what a worker did by these calls, with this outcome
  pub record HasScatteredAs (meter meter' : M) (row row' : Vec D Global) (worker : ℕ) (calls : List Call) (outcome : Outcome) : Type 0 where
    pub rose : outcome ≡ DiskFault → SomeRose state faults meter meter' row row'
    pub stopped : outcome ≢ Done → MayStopBy rules state c outcome
    pub dutiful : outcome ≡ Done → IsDutiful (terms_of c.serving.job.now) worker calls

  -- **The epoch was made**, and each worker has done its part of it, with an outcome of its own; where all are done and there was memory for the index, it names what was sent
  pub record HaveScattered (before after : View) (meters meters' : List M) (rows rows' : List (Vec D Global)) (index : List (List Place)) (result : EpochEnd) : Type 0 where
    pub epoch : Epoch
    pub made : HasMadeEpoch (terms_of c.serving.job.now) (lens_of c.serving.index.now) (result.outcome ≡ Done) before after result.claims result.admitted epoch
    pub outcomes : List Outcome
    pub many : length outcomes ≡ c.serving.job.now.engines
    pub outcome_is : (result.outcome ≡ lowest_outcome outcomes) ⊎ ((lowest_outcome outcomes ≡ Done) × (result.outcome ≡ Memory))
    pub each : (w : ℕ) (m : M) (row : Vec D Global) (o : Outcome) → w < c.serving.job.now.engines
        → HasScatteredAs (slice_index_or meters w m) (slice_index_or meters' w m) (slice_index_or rows w row) (slice_index_or rows' w row) w (list_of epoch w) (slice_index_or outcomes w o)
    pub sent : result.outcome ≡ Done → HaveSent rules state c rows' index epoch.lists
