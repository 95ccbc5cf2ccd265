-- What a run leaves as it was, and all that it is handed at one moment.
use Rattle.std.specs.Prelude.{◌≡◌, ℕ, List, Vec}
use Rattle.std.specs.Global.{Global}
use Rattle.ports.specs.Disk.{DiskState, Continues}
use Rattle.ports.specs.Devices.{Each, EachRow}
use Rattle.chunk_cursor.specs.declared.view.View.{View}
use Rattle.store_reader.specs.declared.store.Store.{Store}
use Rattle.round_steps.specs.Going.{Tell}
use Rattle.scatter_epoch.specs.Sent.{RowsTell}

module _ {D : Type 0} (state : D → DiskState) where
  -- devices after some calls, each in its place: no count of faults falls, and what tells its bytes still does
  abbrev pub AreLater : (old new : List D) → Type 0
  AreLater old new = Each state Continues old new

  -- the same of rows of devices
  abbrev pub AreLaterRows : (old new : List (Vec D Global)) → Type 0
  AreLaterRows old new = EachRow state Continues old new

module _ {D M : Type 0} (state : D → DiskState) where
  -- **All devices are in their places**, and no graph device was touched
  pub record Keeps (old new : Store D M) : Type 0 where
    pub graphs : new.graphs ≡ old.graphs
    pub values : AreLater state old.values.items new.values.items
    pub lanes : AreLaterRows state old.lanes.items new.lanes.items
    pub spills : AreLater state old.spills.items new.spills.items

  -- each device that a run writes tells its bytes
  pub record IsTold (store : Store D M) : Type 0 where
    pub values : Tell state store.values.items
    pub lanes : RowsTell state store.lanes.items
    pub spills : Tell state store.spills.items

-- what a run is handed, at one moment
pub record Moment (D M : Type 0) : Type 0 where
  pub store : Store D M
  pub meters : List M
  pub seat : View
  pub beat : ℕ

abbrev pub moment : {D M : Type 0} → Store D M → List M → View → ℕ → Moment D M
moment store meters seat beat = record { store = store; meters = meters; seat = seat; beat = beat }
