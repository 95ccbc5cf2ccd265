-- What was printed when a job ended, and why it was not all.
use Rattle.std.specs.Prelude.{◌≡◌, ℕ, ◌≤◌, Bool, List, Option, Err}
use Rattle.ports.specs.Disk.{DiskState}
use Rattle.ports.specs.Faults.{Rose}
use Rattle.ports.specs.Devices.{OneCountRose, SameCounts}
use Rattle.partitioner.specs.declared.split.Split.{Split}
use Rattle.store_model.specs.Slots.{slot_of}
use Rattle.round_loop.specs.Run.{OnMade}
use Rattle.answer_lines.specs.Printing.{PrintsAll, PrintsFront}
use Rattle.job_run.specs.declared.finish.Finish.{Finish}
use Rattle.job_run.specs.declared.finish.Finish.TheVariants.{Answered, NotWritten, NotRead, Stopped}

module _ {D : Type 0} (state : D → DiskState) (split : Split) (devices : List D) (with_side : Bool) where
  -- **What was printed**: the lines of the values in the last round's slot, a front of them after a fault of printing, and nothing where the rounds were stopped
  abbrev pub Prints : Finish → (old new : Option (List ℕ)) → Type 0
  Prints (Answered done) old new = PrintsAll state split devices (slot_of done.round) with_side old new
  Prints (NotWritten done) old new = PrintsFront state split devices (slot_of done.round) with_side old new
  Prints (NotRead done) old new = PrintsFront state split devices (slot_of done.round) with_side old new
  Prints (Stopped fault) old new = new ≡ old

module _ {M : Type 0} (faults : M → ℕ) (meters meters' : List M) (writes writes' : ℕ) where
  -- the count that rose before a fault of printing, and none where all was printed, or where the limit was come to; where the rounds were stopped, that of the sink is as it was
  abbrev pub IsCaused : Finish → Type 0
  IsCaused (Answered done) = SameCounts faults meters meters' × (writes' ≡ writes)
  IsCaused (NotWritten done) = Rose writes writes'
  IsCaused (NotRead done) = OneCountRose faults meters meters'
  IsCaused (Stopped fault) = OnMade (Err fault) (SameCounts faults meters meters') × (writes' ≡ writes)

  -- **The sink's count never falls, a fault of printing is answered only where its own count rose, and where an answer is given, or the limit come to, none did**
  pub record HasFinishCause (finish : Finish) : Type 0 where
    pub later : writes ≤ writes'
    pub caused : IsCaused finish
