-- Runs after which meters are read through, and devices are not touched.
use Rattle.std.proofs.Common.{ℕ, List, Ok}
use Rattle.graph_model.specs.declared.job.Job.{Job}
use Rattle.graph_model.specs.Programs.{Rules}
use Rattle.ports.specs.Disk.{DiskState}
use Rattle.ports.specs.Devices.{MetersGoOn}
use Rattle.chunk_cursor.specs.declared.view.View.{View}
use Rattle.chunk_file.specs.declared.index.Place.{Place}
use Rattle.store_reader.specs.declared.store.Store.{Store}
use Rattle.round_steps.proofs.Kept.{meters_then}
use Rattle.round_loop.specs.declared.run.Start.{Start}
use Rattle.round_loop.specs.declared.run.Done.{Done}
use Rattle.round_loop.specs.Keeping.{Moment, moment}
use Rattle.round_loop.specs.Run.{HasRun}

module _ {D M : Type 0} (state : D → DiskState) (faults : M → ℕ) (rules : Rules) (job : Job) (start : Start) (index : List (List Place)) where
  -- a run that is done is that run also when its meters have gone on
  pub run_read : (from : Moment D M) (store : Store D M) (mid new : List M) (seat : View) (beat : ℕ) (done : Done) → HasRun state faults rules job start index from (moment store mid seat beat) (Ok done) → MetersGoOn faults mid new
      → HasRun state faults rules job start index from (moment store new seat beat) (Ok done)
  run_read from store mid new seat beat done run later = record {
    store = run.store;
    keeps = run.keeps;
    meters = meters_then faults from.meters mid new run.meters later;
    rose = λ is. absurd cc;
    calm = run.calm;
    beats = run.beats;
    epochs = run.epochs;
    through = run.through;
    fronts = run.fronts;
    done = run.done;
    counts = run.counts;
    limited = λ is. absurd cc;
    at_limit = λ is. absurd cc;
    sound = run.sound;
    damaged = λ part engine place is. absurd cc;
    well = λ edges has told good.
        let well = run.well edges has told good in
        record { are = well.are; last = well.last; unsettled = well.unsettled; settles = well.settles; stored = well.stored; any_stop = well.any_stop; since = well.since };
  }
