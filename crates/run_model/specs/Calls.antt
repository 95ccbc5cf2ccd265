-- What can be seen of a call on a store, and what it asks of the devices that it is handed.
use Rattle.std.specs.Prelude.{◌≡◌, ◌⊎◌, ℕ, ◌+◌, ◌≤◌, List, length, Option, Some}
use Rattle.ports.specs.Disk.{DiskState}
use Rattle.ports.specs.Devices.{OneRose, NoneRose, MetersGoOn, AreDevices, AreRows}
use Rattle.store_checks.specs.Causes.{Tell}
use Rattle.store_reader.specs.declared.store.Store.{Store}
use Rattle.epoch_seats.specs.Between.{IsBetweenEpochs}
use Rattle.round_steps.specs.Going.{SomeRose, NoCountRose}
use Rattle.round_loop.specs.Keeping.{AreLater, AreLaterRows, IsTold, Moment}

-- The bytes that the source has left and that `out` has got, where they tell them, their counts of faults, and all that
-- belongs to the store, before the call and after it.
pub record Call (D M : Type 0) : Type 0 where
  pub text : Option (List ℕ)
  pub text_after : Option (List ℕ)
  pub read_faults : ℕ
  pub read_faults_after : ℕ
  pub out : Option (List ℕ)
  pub out_after : Option (List ℕ)
  pub write_faults : ℕ
  pub write_faults_after : ℕ
  pub before : Moment D M
  pub after : Moment D M

-- of the text, where the source tells it
abbrev pub OfText : Option (List ℕ) → (List ℕ → Type 0) → Type 0
OfText told P = (text : List ℕ) → told ≡ Some text → P text

module _ {D M : Type 0} (state : D → DiskState) where
  -- **A call may be made**: so many devices of each kind and a meter more are there, no call of a device is later than the
  -- beat, and the seat is alone
  pub record IsReady (engines : ℕ) (moment : Moment D M) : Type 0 where
    pub graphs : AreDevices state engines moment.beat moment.store.graphs.items
    pub values : AreDevices state engines moment.beat moment.store.values.items
    pub lanes : AreRows state engines moment.beat moment.store.lanes.items
    pub spills : AreDevices state engines moment.beat moment.store.spills.items
    pub meters : length moment.meters ≡ engines + 1
    pub between : IsBetweenEpochs moment.seat

  -- every device tells its bytes, and these are those of the graph devices
  pub record Tells (store : Store D M) (told : List (List ℕ)) : Type 0 where
    pub graphs : Tell state store.graphs.items told
    pub others : IsTold state store

  -- of what the graph devices tell, where all devices tell their bytes
  abbrev pub OfTold : Store D M → (List (List ℕ) → Type 0) → Type 0
  OfTold store P = (graphs : List (List ℕ)) → Tells store graphs → P graphs

  -- each device is in its place, no count of faults fell, and what told its bytes still does
  pub record StoreGoesOn (old new : Store D M) : Type 0 where
    pub graphs : AreLater state old.graphs.items new.graphs.items
    pub values : AreLater state old.values.items new.values.items
    pub lanes : AreLaterRows state old.lanes.items new.lanes.items
    pub spills : AreLater state old.spills.items new.spills.items

  -- a count of faults rose, of a device or of a meter
  abbrev pub AnyRose : (faults : M → ℕ) → (old new : Moment D M) → Type 0
  AnyRose faults old new =
      OneRose state old.store.graphs.items new.store.graphs.items ⊎ SomeRose state faults old.store new.store old.meters new.meters

  -- and of none: each stands as it was
  abbrev pub AreStill : (faults : M → ℕ) → (old new : Moment D M) → Type 0
  AreStill faults old new =
      NoneRose state old.store.graphs.items new.store.graphs.items × NoCountRose state faults old.store new.store old.meters new.meters

  -- **No call failed**, of the source, of the sink, or of a device: so none was made again, and none was passed over
  pub record NoneFailed (faults : M → ℕ) (call : Call D M) : Type 0 where
    pub reads : call.read_faults_after ≡ call.read_faults
    pub writes : call.write_faults_after ≡ call.write_faults
    pub devices : AreStill faults call.before call.after

  -- **All is in its place again** for a further call, and the beat went on by so much at most
  pub record IsBack (faults : M → ℕ) (engines most : ℕ) (old new : Moment D M) : Type 0 where
    pub ready : IsReady engines new
    pub store : StoreGoesOn old.store new.store
    pub meters : MetersGoOn faults old.meters new.meters
    pub beats : (old.beat ≤ new.beat) × (new.beat ≤ old.beat + most)
