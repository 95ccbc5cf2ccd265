-- Desks of a gather phase in tests.
use Rattle.std.specs.Prelude.{◌≡◌, ℕ, ◌≤◌, []}
use Rattle.ports.specs.Disk.{DiskState}
use Rattle.partitioner.specs.declared.split.Split.{Split}
use Rattle.chunk_cursor.specs.Hold.{TableId}
use Rattle.phase_model.specs.JobTerms.{terms_of}
use Rattle.worker_duty.specs.Views.{MayWork}
use Rattle.store_reader.specs.declared.serving.Serving.{Serving}
use Rattle.store_reader.specs.declared.store.Outcome.TheVariants.{Done}
use Rattle.store_reader.specs.Indexed.{lens_of}
use Rattle.replica_merge.specs.Accumulators.{split_of, LiesWithin}
use Rattle.gather_phase.specs.declared.desk.GatherDesk.{GatherDesk}
use Rattle.gather_phase.specs.Rooms.{IsRoom}

module _ {D M : Type 0} (state : D → DiskState) where
  -- the worker may do its share
  pub record IsReady (serving : Serving D M) (number : ℕ) (desk : GatherDesk D M) : Type 0 where
    pub table : desk.seat.table ≡ serving.table.now
    pub worker : desk.worker ≡ desk.seat.view.worker
    pub story : desk.seat.view.story ≡ []
    pub may : MayWork (terms_of serving.job.now) (lens_of serving.index.now) desk.seat.view
    pub replicas : split_of desk.replicas ≡ serving.split.now
    pub room : IsRoom serving.job.now desk.room
    pub spill : ((state desk.spill).size ≡ 0) × ((state desk.spill).beat ≤ number)

  -- its seat is one of the table, and what it gathered lies within its device, if it is through
  pub record HasEnded (table : TableId) (split : Split) (desk : GatherDesk D M) : Type 0 where
    pub seat : desk.seat.table ≡ table
    pub replicas : split_of desk.replicas ≡ split
    pub within : desk.outcome ≡ Done → LiesWithin desk.replicas (state desk.spill).size
