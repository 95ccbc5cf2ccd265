-- There was no memory for the words, whatever they mean, or they were refused.
use Rattle.std.proofs.Common.{◌≡◌, ◌≤◌, inl, inr, ℕ, Bool, false, List, [], Option, Some, None, refl, sym, subst, arith}
use Rattle.ports.specs.Disk.{DiskState, IsDisk}
use Rattle.graph_model.specs.declared.job.Job.{Job}
use Rattle.rmat_source.specs.Rmat.{rmat_text}
use Rattle.store_checks.specs.declared.fault.RecoverFault.TheVariants as recover
use Rattle.store_reader.specs.declared.store.Store.{Store}
use Rattle.chunk_cursor.specs.declared.view.View.{View}
use Rattle.job_words.specs.Commands.{engines_of}
use Rattle.job_words.specs.declared.command.Command.{Command}
use Rattle.job_words.specs.declared.command.Command.TheVariants.{Run, Bench, Resume, Discard}
use Rattle.round_loop.specs.Keeping.{moment}
use Rattle.store_rounds.proofs.Places.{idle_stop}
use Rattle.endings.specs.Endings.{message}
use Rattle.endings.specs.Telling.{Announces}
use Rattle.endings.specs.declared.ending.Ending.TheVariants.{Memory, Usage}
use Rattle.run_model.specs.Calls.{Call, IsReady}
use Rattle.run_model.specs.Runs.{IsRun}
use Rattle.store_drop.specs.Drops.{IsDrop}
use Rattle.round_steps.proofs.Kept.{meters_same}
use Rattle.run_model.proofs.Going.{store_same, devices_on, rows_on}
use Rattle.run_model.proofs.Untouched.{prints_none}
use Rattle.text_run.proofs.Held.{untouched, no_room}
use Rattle.bench_run.specs.Benches.{IsBench}
use Rattle.bench_run.proofs.Summed.{is_bench, passed_on}
use Rattle.store_resume.proofs.Refused.{refused_resume}
use Rattle.chaos_top.specs.Outcome.{IsOutcome}
use Rattle.chaos_top.proofs.Outcomes.{Promised, outcome_of}

module _ {D M : Type 0} (state : D → DiskState) (lawful : (d : D) → IsDisk (state d)) (faults : M → ℕ) (text out : Option (List ℕ)) (reads writes : ℕ) (store : Store D M) (meters : List M) (seat : View) (beat : ℕ) where
  abbrev call : Call D M
  call = untouched text out reads writes store meters meters seat beat

  not_run : (job : Job) → IsReady state job.engines (moment store meters seat beat) → IsRun state faults job call Memory
  not_run job ready = no_room state lawful faults job text out reads writes store meters meters seat beat ready (meters_same faults meters)

  not_made : (job : Job) (scale edges rng : ℕ) → IsReady state job.engines (moment store meters seat beat) → IsBench state faults job scale edges rng call Memory
  not_made job scale edges rng ready =
      let whole = rmat_text scale edges rng in
      is_bench state faults job scale edges rng call whole [] Memory Memory
      (no_room state lawful faults job (Some whole) (Some []) 0 0 store meters meters seat beat ready (meters_same faults meters))
      (passed_on state faults job scale edges rng call [] Memory (λ report is. cc) (prints_none out out refl) refl) (λ fits line is. cc) refl refl

  not_dropped : (engines : ℕ) → IsReady state engines (moment store meters seat beat) → IsDrop state faults call engines Memory
  not_dropped engines ready = record {
    cause = refl;
    calm = λ faultless. absurd cc;
    printed = prints_none out out refl;
    no_writes = refl;
    unread = refl;
    no_reads = refl;
    seat = refl;
    back = record { ready = ready; store = store_same state store; meters = meters_same faults meters; beats = (omega arith, omega arith) };
    stops = λ b graphs values within stop_graphs stop_values.
        inl (idle_stop state lawful b store.graphs.items graphs stop_graphs, idle_stop state lawful b store.values.items values stop_values);
  }

  nothing_done : (command : Option Command) → IsReady state (engines_of command) (moment store meters seat beat) → Promised state faults call Memory command
  nothing_done None ready = record { refused = inr refl; unread = refl; no_reads = refl; printed = prints_none out out refl; no_writes = refl; unchanged = refl }
  nothing_done (Some (Run job report)) ready = not_run job ready
  nothing_done (Some (Bench job scale edges rng)) ready = not_made job scale edges rng ready
  nothing_done (Some (Resume engines report)) ready = refused_resume state lawful faults call engines ready (meters_same faults meters) refl refl refl refl refl refl
      recover.Memory tt (λ other. record { reads = refl; writes = refl; devices = (refl, (refl, record { values = refl; lanes = refl; spills = refl })) }) (λ job edges graphs values storable stores tell_graphs tell_values. tt)
  nothing_done (Some (Discard engines)) ready = not_dropped engines ready

  -- the call, where the beat that it ends with is one of the same number
  abbrev pub begun : ℕ → Call D M
  begun now = record call { after = moment store meters seat now }

  pub outcome_without_memory : (command : Option Command) (now : ℕ) → now ≡ beat → IsReady state (engines_of command) (moment store meters seat beat) → IsOutcome state faults (begun now) command Memory
  outcome_without_memory command now is ready = subst (λ (n : ℕ). IsOutcome state faults (begun n) command Memory) (sym is) (outcome_of state faults call Memory command (nothing_done command ready))

  pub outcome_of_refused : (command : Option Command) (now : ℕ) → now ≡ beat → command ≡ None → IsOutcome state faults (begun now) command Usage
  outcome_of_refused command now is none = subst (λ (n : ℕ). IsOutcome state faults (begun n) command Usage) (sym is)
      (outcome_of state faults call Usage command (subst (Promised state faults call Usage) (sym none) (record { refused = inl refl; unread = refl; no_reads = refl; printed = prints_none out out refl; no_writes = refl; unchanged = refl })))

-- a call may be made under a later beat
pub ready_later : {D M : Type 0} (state : D → DiskState) (many : ℕ) (store : Store D M) (meters : List M) (seat : View) (b n : ℕ) → b ≤ n → IsReady state many (moment store meters seat b) → IsReady state many (moment store meters seat n)
ready_later state many store meters seat b n later ready = record {
  graphs = devices_on state many b n store.graphs.items later ready.graphs;
  values = devices_on state many b n store.values.items later ready.values;
  lanes = rows_on state many b n store.lanes.items later ready.lanes;
  spills = devices_on state many b n store.spills.items later ready.spills;
  meters = ready.meters;
  between = ready.between;
}

-- want of memory is told in the same words, whether a report is asked for or not
pub told_memory : (reports : Bool) (status : ℕ) (err err_after : Option (List ℕ)) (faults faults_after : ℕ) → Announces false Memory status err err_after faults faults_after → Announces reports Memory status err err_after faults faults_after
unfolding message
told_memory reports status err err_after faults faults_after told = record {
  by_status = told.by_status;
  by_message = record { whole = told.by_message.whole; front = told.by_message.front };
}
