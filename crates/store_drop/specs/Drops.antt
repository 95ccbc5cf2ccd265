-- **What giving a store up promises.**
use Rattle.std.specs.Prelude.{◌≡◌, ◌⊎◌, ℕ, [], map}
use Rattle.std.specs.List.{All}
use Rattle.ports.specs.Disk.{DiskState}
use Rattle.ports.specs.Stops.{AreImages}
use Rattle.restart.specs.Dropping.{IsEmpty}
use Rattle.store_model.specs.Kept.{IsUnprepared}
use Rattle.endings.specs.declared.ending.Ending.{Ending}
use Rattle.endings.specs.declared.ending.Ending.TheVariants.{Dropped, DiskFault, Memory}
use Rattle.run_model.specs.Calls.{Call, AnyRose, NoneFailed, IsBack}
use Rattle.run_model.specs.Causes.{IsFaultless}
use Rattle.run_model.specs.Printing.{Prints}
use Rattle.run_model.specs.Stops.{AtEachStop}

module _ {D M : Type 0} (state : D → DiskState) (faults : M → ℕ) (call : Call D M) where
  -- no device has any byte, in any image
  pub record AllEmpty : Type 0 where
    pub graphs : All (λ disk. IsEmpty (state disk)) call.after.store.graphs.items
    pub values : All (λ disk. IsEmpty (state disk)) call.after.store.values.items
    pub lanes : All (λ row. All (λ disk. IsEmpty (state disk)) row.items) call.after.store.lanes.items
    pub spills : All (λ disk. IsEmpty (state disk)) call.after.store.spills.items

  -- the store is given up, or a count rose, or there was no memory for the words and nothing was done
  abbrev pub HasDropCause : Ending → Type 0
  HasDropCause Dropped = AllEmpty
  HasDropCause Memory = call.after ≡ call.before
  HasDropCause DiskFault = AnyRose state faults call.before call.after
  HasDropCause _ = ⊥

  -- **Giving a store up**: at every stop all devices are as they were, or some graph device is not open; afterwards every
  -- device is empty, and no call failed. Nothing is read or printed, and all is in its place for a further call.
  pub record IsDrop (engines : ℕ) (ending : Ending) : Type 0 where
    pub cause : HasDropCause ending
    pub calm : IsFaultless ending → NoneFailed state faults call
    pub printed : Prints call.out call.out_after []
    pub no_writes : call.write_faults_after ≡ call.write_faults
    pub unread : call.text_after ≡ call.text
    pub no_reads : call.read_faults_after ≡ call.read_faults
    pub seat : call.after.seat ≡ call.before.seat
    pub back : IsBack state faults engines 1 call.before call.after
    pub stops : AtEachStop state call (λ b graphs values. (AreImages (map state call.before.store.graphs.items) graphs × AreImages (map state call.before.store.values.items) values) ⊎ IsUnprepared graphs)
