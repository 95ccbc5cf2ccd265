-- What the workers of a gather epoch have done.
use Rattle.std.specs.Prelude.{◌≡◌, ◌≢◌, ◌⊎◌, ℕ, ◌*◌, ◌<◌, ◌≤◌, true, false, Some, List, length, slice_index_or}
use Rattle.graph_model.specs.declared.edge.Edge.{Edge}
use Rattle.graph_model.specs.declared.value.Update.{Update}
use Rattle.graph_model.specs.Programs.{Rules}
use Rattle.graph_model.specs.Rounds.{out_degree}
use Rattle.ports.specs.Disk.{DiskState}
use Rattle.ports.specs.Faults.{Rose}
use Rattle.chunk_object.specs.declared.call.Call.{Call}
use Rattle.chunk_object.specs.Epochs.{Epoch, list_of}
use Rattle.chunk_object.specs.Duty.{IsDutiful}
use Rattle.chunk_cursor.specs.declared.view.View.{View}
use Rattle.chunk_model.specs.Layout.{edge_layout, update_layout}
use Rattle.phase_model.specs.JobTerms.{terms_of}
use Rattle.phase_model.specs.Taken.{taken, records_taken}
use Rattle.phase_model.specs.Sums.{sum_at}
use Rattle.store_reader.specs.declared.store.Outcome.{Outcome}
use Rattle.store_reader.specs.declared.store.Outcome.TheVariants.{Done, DiskFault}
use Rattle.store_reader.specs.Indexed.{lens_of, HasRecords}
use Rattle.replica_merge.specs.declared.replicas.Replicas.{Replicas}
use Rattle.replica_merge.specs.Accumulators.{accumulators_of, LiesWithin}
use Rattle.gather_phase.specs.declared.desk.GatherContext.{GatherContext}
use Rattle.gather_phase.specs.Gathering.{touched}
use Rattle.gather_phase.specs.Gathered.{over_partition}
use Rattle.gather_phase.specs.Phases.{MayStopBy}
use Rattle.worker_outcomes.specs.Lowest.{lowest_outcome}
use Rattle.worker_outcomes.specs.declared.epoch_end.EpochEnd.{EpochEnd}
use Rattle.epoch_seats.specs.Made.{HasMadeEpoch}

module _ {D M : Type 0} (state : D → DiskState) (faults : M → ℕ) where
  -- the counts of faults of a worker's meter and of its device never fall, and a device that tells its bytes still does
  pub record GoesOn (meter meter' : M) (spill spill' : D) : Type 0 where
    pub reads : faults meter ≤ faults meter'
    pub writes : (state spill).faults ≤ (state spill').faults
    pub told : (bytes : List ℕ) → (state spill).bytes ≡ Some bytes → (now : List ℕ) × ((state spill').bytes ≡ Some now)

  -- one of the two rose
  abbrev pub SomeCountRose : (meter meter' : M) (spill spill' : D) → Type 0
  SomeCountRose meter meter' spill spill' = Rose (faults meter) (faults meter') ⊎ Rose (state spill).faults (state spill').faults

  -- that of one of the workers
  abbrev pub RoseOfOne : ℕ → (meters meters' : List M) (spills spills' : List D) → Type 0
  RoseOfOne workers meters meters' spills spills' =
      (w : ℕ) × (w < workers) × ((m : M) (d : D) → SomeCountRose (slice_index_or meters w m) (slice_index_or meters' w m) (slice_index_or spills w d) (slice_index_or spills' w d))

module _ {P D G M : Type 0} (rules : P → Rules) (state : D → DiskState) where
  -- **A worker's accumulators, with its device, are what these calls took**: of each partition the sums of the updates of exactly the chunks taken, or, where edges are counted, the numbers of their edges at each source, capped. Only partitions of which chunks were taken are on the device
  pub record HasGatheredBy (c : GatherContext P D G M) (replicas : Replicas) (spill : D) (calls : List Call) : Type 0 where
    pub within : LiesWithin replicas (state spill).size
    pub width : (state spill).size ≡ 8 * touched c.serving.split.now (taken calls)
    pub summed : c.counting ≡ false → (records : ℕ → ℕ → List Update) → HasRecords state update_layout c.serving records → (device : List ℕ) → (state spill).bytes ≡ Some device
        → (partition : ℕ) → partition < c.serving.split.now.parts
        → accumulators_of replicas device partition ≡ over_partition c.serving.split.now (sum_at (rules c.program.now).fold (rules c.program.now).unit (records_taken records calls)) partition
    pub counted : c.counting ≡ true → (records : ℕ → ℕ → List Edge) → HasRecords state (edge_layout c.serving.job.now.format) c.serving records → (device : List ℕ) → (state spill).bytes ≡ Some device
        → (partition : ℕ) → partition < c.serving.split.now.parts → accumulators_of replicas device partition ≡ over_partition c.serving.split.now (out_degree (records_taken records calls)) partition

module _ {P D G M : Type 0} (rules : P → Rules) (state : D → DiskState) (faults : M → ℕ) (c : GatherContext P D G M) where
  -- what a worker did by these calls, with this outcome
  pub record HasGatheredAs (meter meter' : M) (spill spill' : D) (replicas : Replicas) (worker : ℕ) (calls : List Call) (outcome : Outcome) : Type 0 where
    pub rose : outcome ≡ DiskFault → SomeCountRose state faults meter meter' spill spill'
    pub stopped : outcome ≢ Done → MayStopBy rules state c outcome
    pub dutiful : outcome ≡ Done → IsDutiful (terms_of c.serving.job.now) worker calls
    pub gathered : outcome ≡ Done → HasGatheredBy rules state c replicas spill' calls

  -- **The epoch was made**, and each worker has done its part of it, with an outcome of its own
  pub record HaveGathered (before after : View) (meters meters' : List M) (spills spills' : List D) (replicas : List Replicas) (result : EpochEnd) : Type 0 where
    pub epoch : Epoch
    pub made : HasMadeEpoch (terms_of c.serving.job.now) (lens_of c.serving.index.now) (result.outcome ≡ Done) before after result.claims result.admitted epoch
    pub outcomes : List Outcome
    pub many : length outcomes ≡ c.serving.job.now.engines
    pub outcome_is : result.outcome ≡ lowest_outcome outcomes
    pub each : (w : ℕ) (m : M) (d : D) (r : Replicas) (o : Outcome) → w < c.serving.job.now.engines
        → HasGatheredAs (slice_index_or meters w m) (slice_index_or meters' w m) (slice_index_or spills w d) (slice_index_or spills' w d) (slice_index_or replicas w r) w (list_of epoch w) (slice_index_or outcomes w o)

  -- no epoch was begun, since a device could not be emptied
  pub record IsNotBegun (before after : View) (result : EpochEnd) : Type 0 where
    pub same : after ≡ before
    pub outcome_is : result.outcome ≡ DiskFault
    pub none : (result.claims ≡ 0) × (result.admitted ≡ 0)
