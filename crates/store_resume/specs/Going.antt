-- What going on with the job that was found is seen to do.
use Rattle.std.specs.Prelude.{◌≡◌, ◌⊎◌, ℕ, List}
use Rattle.ports.specs.Disk.{DiskState}
use Rattle.graph_model.specs.declared.job.Job.{Job}
use Rattle.graph_model.specs.Programs.{rules_of, shows_side}
use Rattle.chunk_file.specs.declared.index.Place.{Place}
use Rattle.round_loop.specs.declared.run.Start.{Start}
use Rattle.partitioner.specs.Splits.{split_for}
use Rattle.round_loop.specs.Run.{HasRun}
use Rattle.job_run.specs.declared.finish.Finish.{Finish}
use Rattle.job_run.specs.Finish.{rounds_of}
use Rattle.job_run.specs.Running.{Prints, HasFinishCause}
use Rattle.endings.specs.declared.ending.Ending.{Ending}
use Rattle.endings.specs.declared.ending.Ending.TheVariants.{Memory}
use Rattle.run_model.specs.Calls.{Call}
use Rattle.run_model.specs.Telling.{ending_of}

module _ {D M : Type 0} (state : D → DiskState) (faults : M → ℕ) (job : Job) (start : Start) (index : List (List Place)) (call : Call D M) where
  -- there was no memory, and nothing was done
  pub record IsNotBegun (ending : Ending) : Type 0 where
    pub memory : ending ≡ Memory
    pub unprinted : call.out_after ≡ call.out
    pub no_writes : call.write_faults_after ≡ call.write_faults
    pub unchanged : call.after ≡ call.before

  -- the job came to this finish
  pub record Finishes (ending : Ending) (finish : Finish) : Type 0 where
    pub told : ending ≡ ending_of job index finish
    pub rounds : HasRun state faults (rules_of job.program) job start index call.before call.after (rounds_of finish)
    pub printed : Prints state (split_for job) call.after.store.values.items (shows_side job.program) finish call.out call.out_after
    pub cause : HasFinishCause faults call.before.meters call.after.meters call.write_faults call.write_faults_after finish

  -- **The job was gone on with**, or there was no memory for it
  abbrev pub GoesOn : Ending → Type 0
  GoesOn ending = IsNotBegun ending ⊎ ((finish : Finish) × Finishes ending finish)
