-- What a worker has scattered when it is through, and what is said of every answer.
use Rattle.std.specs.Prelude.{◌≡◌, ◌⊎◌, ℕ, ◌+◌, ◌≤◌, Option, List}
use Rattle.std.specs.List.{All}
use Rattle.graph_model.specs.declared.edge.Edge.{Edge}
use Rattle.graph_model.specs.declared.value.Value.{Value}
use Rattle.graph_model.specs.declared.value.Update.{Update}
use Rattle.graph_model.specs.Programs.{Rules}
use Rattle.ports.specs.Disk.{DiskState}
use Rattle.ports.specs.Faults.{Rose}
use Rattle.ports.specs.Devices.{OneRose, NoneRose}
use Rattle.chunk_model.specs.Layout.{edge_layout}
use Rattle.phase_model.specs.Lanes.{update_shelf}
use Rattle.phase_model.specs.Sends.{sent_by, sending_of}
use Rattle.phase_model.specs.Taken.{records_taken}
use Rattle.worker_duty.specs.Views.{calls_of, taken_by_seat}
use Rattle.store_reader.specs.declared.store.Outcome.TheVariants.{Done, DiskFault}
use Rattle.store_reader.specs.Indexed.{HasRecords}
use Rattle.update_lanes.specs.Lanes.{AreWritten, places_in}
use Rattle.update_lanes.specs.Outgoing.{FitsJob}
use Rattle.scatter_phase.specs.declared.desk.ScatterContext.{ScatterContext}
use Rattle.scatter_phase.specs.declared.desk.ScatterDesk.{ScatterDesk}
use Rattle.store_reader.specs.Values.{HoldValues, HoldBefore}
use Rattle.scatter_phase.specs.Phases.{AreFound}

module _ {P D G M : Type 0} (rules : P → Rules) (state : D → DiskState) where
  -- **The worker's lanes and places are exactly the update chunks of some updates of the job; these are what it took**: where the devices tell the chunks and the values, what the edges of the chunks in its seat's list send, in order, under the values that stand in the slots. No chunk in the list was passed over: each stands at its place, where its device tells its bytes
  pub record HasScattered (c : ScatterContext P D G M) (desk : ScatterDesk D M) : Type 0 where
    pub updates : List Update
    pub fit : All (FitsJob c.serving.job.now) updates
    pub written : AreWritten state desk.lanes.items desk.places.items (update_shelf c.serving.job.now c.epoch desk.worker updates)
    pub are : (records : ℕ → ℕ → List Edge) → HasRecords state (edge_layout c.serving.job.now.format) c.serving records
        → (now : List Value) → HoldValues state c.serving.split.now c.values.now c.slot now
        → (before : Option (List Value)) → HoldBefore state c.serving.split.now c.values.now c.before before
        → updates ≡ sent_by (sending_of (rules c.program.now) before now) (records_taken records (calls_of desk.seat.view))
    pub found : AreFound rules state c (taken_by_seat desk.seat.view)

module _ {D M : Type 0} (state : D → DiskState) (faults : M → ℕ) where
  -- the count of the meter never falls, a disk fault is answered only where that count or a lane's rose, and none rises where the outcome is Done
  pub record HasFaultCause (old new : ScatterDesk D M) : Type 0 where
    pub reads : faults old.meter ≤ faults new.meter
    pub rose : new.outcome ≡ DiskFault → Rose (faults old.meter) (faults new.meter) ⊎ OneRose state old.lanes.items new.lanes.items
    pub calm : new.outcome ≡ Done → (faults new.meter ≡ faults old.meter) × NoneRose state old.lanes.items new.lanes.items

-- in each partition at most one place more is noted than chunks were taken
abbrev pub ArePlacesFew : {D M : Type 0} → ScatterDesk D M → Type 0
ArePlacesFew desk = (partition : ℕ) → places_in partition desk.places.items ≤ desk.claims + 1
