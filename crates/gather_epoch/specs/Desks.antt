-- One worker in a gather epoch.
use Rattle.std.specs.Prelude.{◌≡◌, ◌≢◌, ℕ, ◌≤◌, Some, List, []}
use Rattle.graph_model.specs.Programs.{Rules}
use Rattle.ports.specs.Disk.{DiskState}
use Rattle.phase_model.specs.JobTerms.{terms_of}
use Rattle.worker_duty.specs.Views.{MayWork, HasWorked}
use Rattle.store_reader.specs.declared.store.Outcome.TheVariants.{Done}
use Rattle.store_reader.specs.Indexed.{lens_of}
use Rattle.replica_merge.specs.Accumulators.{split_of}
use Rattle.gather_phase.specs.declared.desk.GatherContext.{GatherContext}
use Rattle.gather_phase.specs.declared.desk.GatherDesk.{GatherDesk}
use Rattle.gather_phase.specs.Rooms.{IsRoom}
use Rattle.gather_phase.specs.Phases.{MayStopBy}
use Rattle.gather_phase.specs.Gathered.{HasGathered, HasFaultCause}

module _ {P D G M : Type 0} (rules : P → Rules) (state : D → DiskState) (c : GatherContext P D G M) where
  -- a worker may begin at its desk
  pub record IsReady (desk : GatherDesk D M) : Type 0 where
    pub table : desk.seat.table ≡ c.serving.table.now
    pub number : desk.worker ≡ desk.seat.view.worker
    pub story : desk.seat.view.story ≡ []
    pub may : MayWork (terms_of c.serving.job.now) (lens_of c.serving.index.now) desk.seat.view
    pub split : split_of desk.replicas ≡ c.serving.split.now
    pub room : IsRoom c.serving.job.now desk.room
    pub spill : ((state desk.spill).size ≡ 0) × ((state desk.spill).beat ≤ c.beat.now)

module _ {P D G M : Type 0} (rules : P → Rules) (state : D → DiskState) (faults : M → ℕ) (c : GatherContext P D G M) where
  -- what its work has made of the desk
  pub record HasWorkedAt (old new : GatherDesk D M) : Type 0 where
    pub table : new.seat.table ≡ old.seat.table
    pub number : new.worker ≡ old.worker
    pub duty : HasWorked (terms_of c.serving.job.now) old.worker (new.outcome ≡ Done) old.seat.view new.seat.view new.claims new.admitted
    pub split : split_of new.replicas ≡ c.serving.split.now
    pub room : IsRoom c.serving.job.now new.room
    pub beat : (state new.spill).beat ≤ c.beat.now
    pub told : (bytes : List ℕ) → (state old.spill).bytes ≡ Some bytes → (now : List ℕ) × ((state new.spill).bytes ≡ Some now)
    pub cause : HasFaultCause state faults old new
    pub stopped : new.outcome ≢ Done → MayStopBy rules state c new.outcome
    pub gathered : new.outcome ≡ Done → HasGathered rules state c new
