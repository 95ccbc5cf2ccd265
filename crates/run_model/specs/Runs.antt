-- **What a run of a job over a text promises.**
use Rattle.std.specs.Prelude.{◌≡◌, ℕ, ◌+◌, List, [], Some}
use Rattle.ports.specs.Disk.{DiskState}
use Rattle.graph_model.specs.declared.job.Job.{Job}
use Rattle.graph_model.specs.Answer.{edges}
use Rattle.chunk_object.specs.Epochs.{Epoch}
use Rattle.round_loop.specs.declared.run.Start.TheVariants.{Fresh}
use Rattle.endings.specs.declared.ending.Report.{Report}
use Rattle.endings.specs.declared.ending.Ending.{Ending}
use Rattle.endings.specs.declared.ending.Ending.TheVariants.{Answered}
use Rattle.run_model.specs.Telling.{CountsChunks}
use Rattle.run_model.specs.Calls.{Call, OfText, OfTold, NoneFailed, IsBack}
use Rattle.run_model.specs.Causes.{HasCause, IsExact, IsAnswered, IsFaultless}
use Rattle.run_model.specs.Printing.{HasPrinted}
use Rattle.run_model.specs.Epochs.{HasGone, AreJobEpochs}
use Rattle.run_model.specs.Standing.{StandsAfter}
use Rattle.run_model.specs.Stops.{LeavesStores}

-- the beat goes on once before the gates are opened, and once for each round
abbrev pub MOST_BEATS : ℕ
MOST_BEATS = 1000003

module _ {D M : Type 0} (state : D → DiskState) (faults : M → ℕ) (job : Job) where
  -- It ends with a cause, and as the text and the devices call for; unless it was interrupted, or met damage, no call
  -- failed; it has printed what that ending allows, and read all where it has answered; the seat went through the epochs of
  -- the job, each chunk taken once; its report counts the chunks of each engine; all is in its place; and it is said what
  -- stands, then and after a stop at any moment.
  pub record IsRun (call : Call D M) (ending : Ending) : Type 0 where
    pub cause : HasCause state faults job call ending
    pub exact : IsExact state faults job call ending
    pub calm : IsFaultless ending → NoneFailed state faults call
    pub printed : HasPrinted state job call ending
    pub all_read : IsAnswered ending → OfText call.text (λ text. call.text_after ≡ Some [])
    pub epochs : List Epoch
    pub gone : HasGone job call.before.seat call.after.seat ending epochs
    pub are : OfText call.text (λ text. OfTold state call.before.store (λ graphs. AreJobEpochs job (edges job text) Fresh ending epochs))
    pub counts : (report : Report) → ending ≡ Answered report → OfText call.text (λ text. CountsChunks job (edges job text) report)
    pub back : IsBack state faults job.engines MOST_BEATS call.before call.after
    -- the gates were opened in a beat of their own, and each round was stored in one of its own
    pub beats : (report : Report) → ending ≡ Answered report → call.after.beat ≡ call.before.beat + 2 + report.rounds
    pub stands : StandsAfter state job call ending
    pub stops : LeavesStores state job call
