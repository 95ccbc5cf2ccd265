-- The outcome of a call, by the command that its words mean.
use Rattle.std.proofs.Common.{◌≡◌, ℕ, Option, Some, None, sym, ap, subst}
use Rattle.ports.specs.Disk.{DiskState}
use Rattle.job_words.specs.Commands.{engines_of}
use Rattle.job_words.specs.declared.command.Command.{Command}
use Rattle.job_words.specs.declared.command.Command.TheVariants.{Run, Bench, Resume, Discard}
use Rattle.round_loop.specs.Keeping.{Moment}
use Rattle.endings.specs.declared.ending.Ending.{Ending}
use Rattle.run_model.specs.Calls.{Call, IsReady}
use Rattle.run_model.specs.Runs.{IsRun}
use Rattle.bench_run.specs.Benches.{IsBench}
use Rattle.store_resume.specs.Resumes.{IsResume}
use Rattle.store_drop.specs.Drops.{IsDrop}
use Rattle.chaos_top.specs.Outcome.{IsRefusal, IsOutcome}

module _ {D M : Type 0} (state : D → DiskState) (faults : M → ℕ) (call : Call D M) (ending : Ending) where
  -- what is promised of each command, and of words that are refused
  abbrev pub Promised : Option Command → Type 0
  Promised None = IsRefusal state faults call ending
  Promised (Some (Run job report)) = IsRun state faults job call ending
  Promised (Some (Bench job scale edges rng)) = IsBench state faults job scale edges rng call ending
  Promised (Some (Resume engines report)) = IsResume state faults call engines ending
  Promised (Some (Discard engines)) = IsDrop state faults call engines ending

  pub outcome_of : (command : Option Command) → Promised command → IsOutcome state faults call command ending
  outcome_of command promised = record {
    refusal = λ is. subst Promised is promised;
    run = λ job report is. subst Promised is promised;
    bench = λ job scale edges rng is. subst Promised is promised;
    resume = λ engines report is. subst Promised is promised;
    drop = λ engines is. subst Promised is promised;
  }

  -- of a command that was read
  pub outcome_read : (command read : Command) → command ≡ read → Promised (Some read) → IsOutcome state faults call (Some command) ending
  outcome_read command read is promised = outcome_of (Some command) (subst Promised (sym (ap Some is)) promised)

-- so many engines are those of the command that was read
pub ready_read : {D M : Type 0} (state : D → DiskState) (moment : Moment D M) (command read : Command) → command ≡ read → IsReady state (engines_of (Some read)) moment → IsReady state (engines_of (Some command)) moment
ready_read state moment command read is ready = subst (λ (it : Command). IsReady state (engines_of (Some it)) moment) (sym is) ready
