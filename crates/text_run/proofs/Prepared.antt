-- All that belongs to a store, after a store was made or refused.
use Rattle.std.proofs.Common.{◌≡◌, ◌≢◌, ◌∙◌, inl, inr, ℕ, ◌+◌, ◌≤◌, List, length, Option, Result, Ok, Err, sym, subst, arith}
use Rattle.std.specs.Prelude.{Vec}
use Rattle.std.specs.Global.{Global}
use Rattle.ports.specs.Disk.{DiskState}
use Rattle.graph_model.specs.declared.job.Job.{Job}
use Rattle.chunk_cursor.specs.declared.view.View.{View}
use Rattle.chunk_file.specs.declared.index.Place.{Place}
use Rattle.store_reader.specs.declared.store.Store.{Store}
use Rattle.storage_engine.specs.declared.fault.PrepareFault.{PrepareFault}
use Rattle.storage_engine.specs.Preparing.{Prepares}
use Rattle.ports.specs.Devices.{AreDevices, AreRows}
use Rattle.round_loop.specs.Keeping.{AreLater, AreLaterRows, moment}
use Rattle.run_model.specs.Calls.{IsReady, StoreGoesOn}
use Rattle.round_loop.proofs.Keeping.{same_devices, same_rows}
use Rattle.run_model.proofs.Going.{later_made, devices_on, rows_on, devices_of}

-- a store that was made was not refused
pub not_refused : (index : List (List Place)) (why : PrepareFault) → ◌≢◌ {A = Result (List (List Place)) PrepareFault} (Ok index) (Err why)
not_refused index why is = cc

-- a call may be made with other meters, as many
pub ready_with : {D M : Type 0} (state : D → DiskState) (engines : ℕ) (store : Store D M) (meters meters' : List M) (seat : View) (beat : ℕ) → length meters' ≡ length meters → IsReady state engines (moment store meters seat beat) → IsReady state engines (moment store meters' seat beat)
ready_with state engines store meters meters' seat beat same ready = record {
  graphs = ready.graphs;
  values = ready.values;
  lanes = ready.lanes;
  spills = ready.spills;
  meters = same ∙ ready.meters;
  between = ready.between;
}

module _ {D M : Type 0} (state : D → DiskState) (job : Job) (text left : Option (List ℕ)) (number now : ℕ) (read : Type 0) (old new : Store D M) (result : Result (List (List Place)) PrepareFault)
    (prepares : Prepares state job text left number now read old.graphs.items new.graphs.items old.values.items new.values.items result) (lanes : new.lanes ≡ old.lanes) (spills : new.spills ≡ old.spills)
    (meters : List M) (seat : View) (ready : IsReady state job.engines (moment old meters seat number)) where
  pub beats : (number ≤ now) × (now ≤ number + 1)
  beats = elim prepares.beat [ inl same ↦ (omega (arith, same), omega (arith, same)) | inr later ↦ (omega (arith, later), omega (arith, later)) ]

  pub store_made : StoreGoesOn state old new
  store_made = record {
    graphs = later_made state job.engines old.graphs.items new.graphs.items ready.graphs.all prepares.many.0 prepares.later_graphs;
    values = later_made state job.engines old.values.items new.values.items ready.values.all prepares.many.1 prepares.later_values;
    lanes = subst (λ (rows : Vec (Vec D Global) Global). AreLaterRows state old.lanes.items rows.items) (sym lanes) (same_rows state old.lanes.items);
    spills = subst (λ (devices : Vec D Global). AreLater state old.spills.items devices.items) (sym spills) (same_devices state old.spills.items);
  }

  pub lanes_made : AreRows state job.engines now new.lanes.items
  lanes_made = subst (λ (rows : Vec (Vec D Global) Global). AreRows state job.engines now rows.items) (sym lanes) (rows_on state job.engines number now old.lanes.items beats.0 ready.lanes)

  pub spills_made : AreDevices state job.engines now new.spills.items
  spills_made = subst (λ (devices : Vec D Global). AreDevices state job.engines now devices.items) (sym spills) (devices_on state job.engines number now old.spills.items beats.0 ready.spills)

  pub graphs_made : AreDevices state job.engines now new.graphs.items
  graphs_made = devices_of state job.engines now new.graphs.items prepares.many.0 prepares.graph_beats

  pub values_made : AreDevices state job.engines now new.values.items
  values_made = devices_of state job.engines now new.values.items prepares.many.1 prepares.value_beats

  pub ready_made : (meters' : List M) → length meters' ≡ job.engines + 1 → IsReady state job.engines (moment new meters' seat now)
  ready_made meters' many = record { graphs = graphs_made; values = values_made; lanes = lanes_made; spills = spills_made; meters = many; between = ready.between }
