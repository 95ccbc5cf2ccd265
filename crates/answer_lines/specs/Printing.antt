-- What was printed of the values that stand in a slot, and why it was not all.
use Rattle.std.specs.Prelude.{◌≡◌, ℕ, ◌≤◌, List, [], Option, Bool, length, take, Result, OnOk, IfErr}
use Rattle.graph_model.specs.declared.value.Value.{Value}
use Rattle.graph_model.specs.Answer.{text_of_values}
use Rattle.ports.specs.Disk.{DiskState}
use Rattle.ports.specs.Faults.{Rose}
use Rattle.ports.specs.Sink.{Appends, AppendsFront}
use Rattle.ports.specs.Told.{AsTold}
use Rattle.partitioner.specs.declared.split.Split.{Split}
use Rattle.answer_lines.specs.declared.print.PrintFault.{PrintFault}
use Rattle.answer_lines.specs.declared.print.PrintFault.TheVariants.{DiskFault, WriteFault}
use Rattle.answer_lines.specs.Lines.{Passes}
use Rattle.store_reader.specs.Values.{HoldValues}

module _ {X : Type 0} (state : X → DiskState) (split : Split) (devices : List X) (slot : ℕ) (with_side : Bool) where
  -- **The lines of all vertices were printed**: of the values that stand in the slot, where the devices tell.
  pub record PrintsAll (old new : Option (List ℕ)) : Type 0 where
    pub values : List Value
    pub long : length values ≡ split.vertices
    pub are : (all : List Value) → HoldValues state split devices slot all → values ≡ all
    pub printed : AsTold (Appends (text_of_values with_side values)) old new

  -- **A front of the lines of the first vertices was printed.**
  pub record PrintsFront (old new : Option (List ℕ)) : Type 0 where
    pub values : List Value
    pub within : length values ≤ split.vertices
    pub are : (all : List Value) → HoldValues state split devices slot all → values ≡ take (length values) all
    pub printed : AsTold (AppendsFront (text_of_values with_side values)) old new

  -- the lines of so many first vertices were printed, but for the bytes that wait
  pub record PrintsFirst (count : ℕ) (waits : List ℕ) (old new : Option (List ℕ)) : Type 0 where
    pub values : List Value
    pub long : length values ≡ count
    pub are : (all : List Value) → HoldValues state split devices slot all → values ≡ take count all
    pub passes : Passes (text_of_values with_side values) [] waits old new

-- the count that rose before this fault
abbrev pub IsCaused : (disk sink : Type 0) → PrintFault → Type 0
IsCaused disk sink DiskFault = disk
IsCaused disk sink WriteFault = sink

-- No count falls, each fault is answered only where its own rose, that of the meter or that of the sink, and Ok only where both stand as they were.
pub record HasPrintCause {T : Type 0} (reads reads' writes writes' : ℕ) (result : Result T PrintFault) : Type 0 where
  pub reads_later : reads ≤ reads'
  pub writes_later : writes ≤ writes'
  pub failed : IfErr result (IsCaused (Rose reads reads') (Rose writes writes'))
  pub calm : OnOk result ((reads' ≡ reads) × (writes' ≡ writes))
