-- What the caller is told of an ending.
use Rattle.std.specs.Prelude.{◌≡◌, ℕ, Bool, List, Option}
use Rattle.ports.specs.Faults.{Rose}
use Rattle.ports.specs.Sink.{Appends, AppendsFront}
use Rattle.ports.specs.Told.{AsTold}
use Rattle.endings.specs.declared.ending.Ending.{Ending}
use Rattle.endings.specs.Endings.{status_of, message}

-- the message was written to a sink, or, where its count rose, a front of it
pub record Says (reports : Bool) (ending : Ending) (err err_after : Option (List ℕ)) (faults faults_after : ℕ) : Type 0 where
  pub whole : ¬ (Rose faults faults_after) → AsTold (Appends (message reports ending)) err err_after
  pub front : AsTold (AppendsFront (message reports ending)) err err_after

-- **The status of the ending, and on `err` its message**, with its report if reports are told
pub record Announces (reports : Bool) (ending : Ending) (status : ℕ) (err err_after : Option (List ℕ)) (faults faults_after : ℕ) : Type 0 where
  pub by_status : status ≡ status_of ending
  pub by_message : Says reports ending err err_after faults faults_after
