-- A call that has made no round: what it printed, and what the seat went through.
use Rattle.std.proofs.Common.{◌≡◌, ℕ, List, [], Option, sym, subst, append-nil}
use Rattle.ports.specs.Disk.{DiskState}
use Rattle.ports.specs.Sink.{Appends}
use Rattle.ports.proofs.Told.{as_told_same}
use Rattle.graph_model.specs.declared.edge.Edge.{Edge}
use Rattle.graph_model.specs.declared.job.Job.{Job}
use Rattle.graph_model.specs.Programs.{rules_of}
use Rattle.chunk_cursor.specs.declared.view.View.{View}
use Rattle.phase_model.specs.JobTerms.{terms_of}
use Rattle.epoch_seats.specs.Between.{IsBetweenEpochs}
use Rattle.round_loop.specs.declared.run.Start.{Start}
use Rattle.round_loop.specs.Starts.{counts_first, first_sent}
use Rattle.round_loop.proofs.Ending.{no_epochs}
use Rattle.round_loop.proofs.Epochs.{through_none}
use Rattle.endings.specs.declared.ending.Report.{Report}
use Rattle.endings.specs.declared.ending.Ending.{Ending}
use Rattle.endings.specs.declared.ending.Ending.TheVariants.{Answered}
use Rattle.run_model.specs.Calls.{Call}
use Rattle.run_model.specs.Printing.{Prints, PrintsNothing}
use Rattle.run_model.specs.Telling.{CountsChunks}
use Rattle.run_model.specs.Epochs.{IsComplete, HasGone, AreJobEpochs}

-- nothing was printed
pub prints_none : (old new : Option (List ℕ)) → new ≡ old → Prints old new []
prints_none old new is = subst (λ after. Prints old after []) (sym is) (as_told_same (Appends []) (λ a. sym (append-nil a)) old)

pub prints_nothing : {D M : Type 0} (state : D → DiskState) (job : Job) (call : Call D M) → call.out_after ≡ call.out → PrintsNothing state job call
prints_nothing state job call same = prints_none call.out call.out_after same

module _ (job : Job) (ending : Ending) (not_complete : IsComplete ending → ⊥) where
  not_answered : (report : Report) → ending ≡ Answered report → ⊥
  not_answered report is = not_complete (subst IsComplete (sym is) tt)

  pub gone_none : (v : View) → IsBetweenEpochs v → HasGone job v v ending []
  gone_none v between = record {
    through = through_none (terms_of job) v between;
    fronts = tt;
    whole = λ complete. absurd (not_complete complete);
    reported = λ report is. absurd (not_answered report is);
  }

  pub none_of_job : (graph : List Edge) (start : Start) → AreJobEpochs job graph start ending []
  none_of_job graph start = record {
    are = no_epochs (rules_of job.program) job graph (counts_first (rules_of job.program) start) (first_sent start);
    last = λ report is. absurd (not_answered report is);
    all = λ report is. absurd (not_answered report is);
    all_written = λ is last is_last. absurd (not_complete (subst IsComplete (sym is) tt));
    all_within = λ limit is. absurd (not_complete (subst IsComplete (sym is) tt));
  }

  pub none_counted : (graph : List Edge) (report : Report) → ending ≡ Answered report → CountsChunks job graph report
  none_counted graph report is = absurd (not_answered report is)
