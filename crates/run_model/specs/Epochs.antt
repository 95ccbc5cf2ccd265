-- What the seat went through in a run.
use Rattle.std.specs.Prelude.{◌≡◌, ⊤, ℕ, List, length, flat_map}
use Rattle.std.specs.List.{All}
use Rattle.graph_model.specs.declared.edge.Edge.{Edge}
use Rattle.graph_model.specs.declared.job.Job.{Job}
use Rattle.graph_model.specs.Programs.{rules_of}
use Rattle.graph_model.specs.Rounds.{IsLastRound}
use Rattle.chunk_object.specs.Epochs.{Epoch, all_calls}
use Rattle.chunk_cursor.specs.declared.view.View.{View}
use Rattle.phase_model.specs.JobTerms.{terms_of}
use Rattle.phase_model.specs.Taken.{claims, admissions}
use Rattle.round_steps.specs.Epochs.{IsWhole, WholeButLast, GoesThrough}
use Rattle.round_loop.specs.declared.run.Start.{Start}
use Rattle.round_loop.specs.Starts.{first_sent, counts_first, epochs_to}
use Rattle.round_loop.specs.Opening.{AreEpochsOf}
use Rattle.endings.specs.declared.ending.Report.{Report}
use Rattle.endings.specs.declared.ending.Ending.{Ending}
use Rattle.endings.specs.declared.ending.Ending.TheVariants.{Answered, RoundLimit, WriteFault}

-- the rounds were made to their end
abbrev pub IsComplete : Ending → Type 0
IsComplete (Answered report) = ⊤
IsComplete WriteFault = ⊤
IsComplete (RoundLimit limit) = ⊤
IsComplete _ = ⊥

-- what the report says of the epochs
pub record IsReportOf (epochs : List Epoch) (report : Report) : Type 0 where
  pub claims : report.claims ≡ claims (flat_map all_calls epochs)
  pub admitted : report.admitted ≡ admissions (flat_map all_calls epochs)

-- **The seat went through epochs of the job**, all its calls and those of its workers stand in one legal history, and each
-- epoch but the last is whole: each worker has done its duty, and each chunk was taken exactly once
pub record HasGone (job : Job) (before after : View) (ending : Ending) (epochs : List Epoch) : Type 0 where
  pub through : GoesThrough (terms_of job) before after (claims (flat_map all_calls epochs)) (admissions (flat_map all_calls epochs)) epochs
  pub fronts : WholeButLast (terms_of job) epochs
  pub whole : IsComplete ending → All (IsWhole (terms_of job)) epochs
  pub reported : (report : Report) → ending ≡ Answered report → IsReportOf epochs report

-- **They are the job's epochs over these edges**, from a start, as far as the run came: all of them where it was complete
pub record AreJobEpochs (job : Job) (edges : List Edge) (start : Start) (ending : Ending) (epochs : List Epoch) : Type 0 where
  pub are : AreEpochsOf (rules_of job.program) job edges (counts_first (rules_of job.program) start) (first_sent start) epochs
  pub last : (report : Report) → ending ≡ Answered report → IsLastRound (rules_of job.program) job.vertices edges job.limit report.rounds
  pub all : (report : Report) → ending ≡ Answered report → length epochs ≡ epochs_to (rules_of job.program) start report.rounds
  pub all_written : ending ≡ WriteFault → (last : ℕ) → IsLastRound (rules_of job.program) job.vertices edges job.limit last → length epochs ≡ epochs_to (rules_of job.program) start last
  pub all_within : (limit : ℕ) → ending ≡ RoundLimit limit → length epochs ≡ epochs_to (rules_of job.program) start limit
