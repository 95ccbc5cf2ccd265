-- What a run over a text has printed.
use Rattle.std.specs.Prelude.{◌⊎◌, ℕ, List, [], Option}
use Rattle.ports.specs.Disk.{DiskState}
use Rattle.ports.specs.Sink.{Appends}
use Rattle.ports.specs.Told.{AsTold}
use Rattle.graph_model.specs.declared.job.Job.{Job}
use Rattle.graph_model.specs.Answer.{edges}
use Rattle.store_rounds.specs.Printed.{AnswerPrinted, FrontPrinted}
use Rattle.endings.specs.declared.ending.Ending.{Ending}
use Rattle.endings.specs.declared.ending.Ending.TheVariants.{Answered, Dropped, Usage, BadLine, DiskFault, RoundLimit, Memory, ReadFault, WriteFault, NotPrepared, EnginesDiffer, Damaged, TooLong, StoreHolds}
use Rattle.run_model.specs.Calls.{Call, OfText, OfTold}

-- this was printed, and nothing else
abbrev pub Prints : (old new : Option (List ℕ)) → List ℕ → Type 0
Prints old new piece = AsTold (Appends piece) old new

module _ {D M : Type 0} (state : D → DiskState) (job : Job) (call : Call D M) where
  abbrev pub PrintsNothing : Type 0
  PrintsNothing = Prints call.out call.out_after []

  -- **What was printed at each ending**
  abbrev pub HasPrinted : Ending → Type 0
  HasPrinted (Answered report) = OfText call.text (λ text. OfTold state call.before.store (λ graphs. AnswerPrinted job (edges job text) call.out call.out_after))
  HasPrinted WriteFault = OfText call.text (λ text. OfTold state call.before.store (λ graphs. FrontPrinted job (edges job text) call.out call.out_after))
  HasPrinted DiskFault = OfText call.text (λ text. OfTold state call.before.store (λ graphs. PrintsNothing ⊎ FrontPrinted job (edges job text) call.out call.out_after))
  HasPrinted Memory = PrintsNothing
  HasPrinted (BadLine line) = PrintsNothing
  HasPrinted (RoundLimit limit) = PrintsNothing
  HasPrinted ReadFault = PrintsNothing
  HasPrinted (Damaged part engine place) = PrintsNothing
  HasPrinted (TooLong limit) = PrintsNothing
  HasPrinted StoreHolds = PrintsNothing
  HasPrinted Dropped = PrintsNothing
  HasPrinted Usage = PrintsNothing
  HasPrinted NotPrepared = PrintsNothing
  HasPrinted (EnginesDiffer held asked) = PrintsNothing
