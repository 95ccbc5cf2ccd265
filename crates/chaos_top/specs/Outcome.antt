-- **What a call of the program promises, by its words.**
use Rattle.std.specs.Prelude.{◌≡◌, ◌⊎◌, ℕ, Bool, false, [], Option, Some, None}
use Rattle.ports.specs.Disk.{DiskState}
use Rattle.graph_model.specs.declared.job.Job.{Job}
use Rattle.job_words.specs.declared.command.Command.{Command}
use Rattle.job_words.specs.declared.command.Command.TheVariants.{Run, Bench, Resume, Discard}
use Rattle.endings.specs.declared.ending.Ending.{Ending}
use Rattle.endings.specs.declared.ending.Ending.TheVariants.{Usage, Memory}
use Rattle.run_model.specs.Calls.{Call}
use Rattle.run_model.specs.Printing.{Prints}
use Rattle.run_model.specs.Runs.{IsRun}
use Rattle.bench_run.specs.Benches.{IsBench}
use Rattle.store_resume.specs.Resumes.{IsResume}
use Rattle.store_drop.specs.Drops.{IsDrop}

-- whether a report is asked for
abbrev pub reports : Option Command → Bool
reports (Some (Run job report)) = report
reports (Some (Bench job scale edges rng)) = false
reports (Some (Resume engines report)) = report
reports (Some (Discard engines)) = false
reports None = false

module _ {D M : Type 0} (state : D → DiskState) (faults : M → ℕ) (call : Call D M) where
  -- words that are refused: nothing was read, printed, or done to the store
  pub record IsRefusal (ending : Ending) : Type 0 where
    pub refused : (ending ≡ Usage) ⊎ (ending ≡ Memory)
    pub unread : call.text_after ≡ call.text
    pub no_reads : call.read_faults_after ≡ call.read_faults
    pub printed : Prints call.out call.out_after []
    pub no_writes : call.write_faults_after ≡ call.write_faults
    pub unchanged : call.after ≡ call.before

  -- of words that are refused, and of each command. A further command is a further field.
  pub record IsOutcome (command : Option Command) (ending : Ending) : Type 0 where
    pub refusal : command ≡ None → IsRefusal ending
    pub run : (job : Job) (report : Bool) → command ≡ Some (Run job report) → IsRun state faults job call ending
    pub bench : (job : Job) (scale edges rng : ℕ) → command ≡ Some (Bench job scale edges rng) → IsBench state faults job scale edges rng call ending
    pub resume : (engines : ℕ) (report : Bool) → command ≡ Some (Resume engines report) → IsResume state faults call engines ending
    pub drop : (engines : ℕ) → command ≡ Some (Discard engines) → IsDrop state faults call engines ending
