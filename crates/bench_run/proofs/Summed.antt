-- A bench, by the run that was made of it and by how the ending of that is told on.
use Rattle.std.proofs.Common.{◌≡◌, inl, inr, ℕ, ◌^◌, ◌≤◌, List, [], Some, refl, sym, subst, arith}
use Rattle.ports.specs.Disk.{DiskState}
use Rattle.ports.specs.Faults.{Rose}
use Rattle.graph_model.specs.declared.edge.TextFault.TheVariants as fault
use Rattle.graph_model.specs.declared.job.Job.{Job}
use Rattle.graph_model.specs.Answer.{IsAnswer, refusal_of}
use Rattle.rmat_source.specs.Rmat.{rmat_text}
use Rattle.endings.specs.declared.ending.Report.{Report}
use Rattle.endings.specs.declared.ending.Ending.{Ending}
use Rattle.endings.specs.declared.ending.Ending.TheVariants.{Answered, BadLine, ReadFault, WriteFault}
use Rattle.run_model.specs.Calls.{Call, Tells, NoneFailed}
use Rattle.run_model.specs.Causes.{IsFaultless}
use Rattle.run_model.specs.Printing.{Prints}
use Rattle.run_model.specs.Runs.{IsRun}
use Rattle.bench_run.specs.Benches.{made_run, made_edges, summary, IsToldOn, IsSummary, HasPrintedSummary, IsBench}

module _ {D M : Type 0} (state : D → DiskState) (faults : M → ℕ) (job : Job) (scale edges rng : ℕ) (call : Call D M) where
  -- an ending that is no answer is passed on
  pub passed_on : (printed : List ℕ) (made : Ending) → ((report : Report) → made ≡ Answered report → ⊥) → Prints call.out call.out_after [] → call.write_faults_after ≡ call.write_faults → IsToldOn state faults job scale edges rng call printed made made
  passed_on printed (Answered report) not_answered prints no_writes = absurd (not_answered report refl)
  passed_on printed made not_answered prints no_writes = record { same = refl; prints = prints; no_writes = no_writes }

  -- the run as it is called, over a source and a sink that are so full
  abbrev pub called : (text out left printed : List ℕ) → Call D M
  called text out left printed = record call {
    text = Some text;
    text_after = Some left;
    read_faults = 0;
    read_faults_after = 0;
    out = Some out;
    out_after = Some printed;
    write_faults = 0;
    write_faults_after = 0;
  }

  module _ (left printed : List ℕ) where
    abbrev pub Made : Ending → Type 0
    Made made = IsRun state faults job (made_run state faults job scale edges rng call left printed) made

    abbrev pub ToldOn : (made ending : Ending) → Type 0
    ToldOn made ending = IsToldOn state faults job scale edges rng call printed made ending

    abbrev pub Written : Ending → Type 0
    Written ending = HasPrintedSummary state faults job scale edges rng call ending

    pub is_made : (text out : List ℕ) (made : Ending) → text ≡ rmat_text scale edges rng → out ≡ [] → IsRun state faults job (called text out left printed) made → Made made
    is_made text out made text_is out_is run = subst (λ (t : List ℕ). IsRun state faults job (called t [] left printed) made) text_is
        (subst (λ (o : List ℕ). IsRun state faults job (called text o left printed) made) out_is run)

    -- where the devices tell, the run has printed the answer
    summed : (report : Report) → Made (Answered report) → (graphs : List (List ℕ)) → Tells state call.before.store graphs
        → IsSummary state faults job scale edges rng call report.rounds (summary state faults job scale edges rng call report printed)
    summed report run graphs tells =
        let answer = run.printed (rmat_text scale edges rng) refl graphs tells in
        record {
          answer = printed;
          is_answer = subst (λ text. IsAnswer job (made_edges state faults job scale edges rng call) text) (sym answer.prints) answer.is_answer;
          is_last = (run.are (rmat_text scale edges rng) refl graphs tells).last report refl;
          is_text = refl;
        }

    written_by : (made ending : Ending) → Made made → ToldOn made ending → Written ending
    written_by (Answered report) ending run (inl up) = subst Written (sym up.answered) (λ graphs tells. record {
      printed = summary state faults job scale edges rng call report printed;
      prints = up.prints;
      is_summary = summed report run graphs tells;
    })
    written_by (Answered report) ending run (inr cut) = subst Written (sym cut.told) (λ graphs tells. record {
      rounds = report.rounds;
      whole = summary state faults job scale edges rng call report printed;
      prints = cut.front;
      is_summary = summed report run graphs tells;
    })
    written_by WriteFault ending run told = absurd (omega (arith, run.cause))
    written_by made ending run told = subst Written (sym told.same) told.prints

    write_fault_of : (made ending : Ending) → Made made → ToldOn made ending → ending ≡ WriteFault → Rose call.write_faults call.write_faults_after
    write_fault_of (Answered report) ending run (inl up) is = absurd (cc)
    write_fault_of (Answered report) ending run (inr cut) is = cut.rose
    write_fault_of WriteFault ending run told is = absurd (omega (arith, run.cause))
    write_fault_of made ending run told is = absurd (cc)

    calm_of : (made ending : Ending) → Made made → ToldOn made ending → call.read_faults_after ≡ call.read_faults → IsFaultless ending → NoneFailed state faults call
    calm_of (Answered report) ending run (inl up) no_reads is = record { reads = no_reads; writes = up.calm; devices = (run.calm refl).devices }
    calm_of (Answered report) ending run (inr cut) no_reads is = let wrong = subst IsFaultless cut.told is in absurd (cc)
    calm_of made ending run told no_reads is = record { reads = no_reads; writes = told.no_writes; devices = (run.calm (subst IsFaultless told.same is)).devices }

    no_read_fault_of : (made ending : Ending) → Made made → ToldOn made ending → ending ≡ ReadFault → ⊥
    no_read_fault_of (Answered report) ending run (inl up) is = cc
    no_read_fault_of (Answered report) ending run (inr cut) is = cc
    no_read_fault_of ReadFault ending run told is = omega (arith, run.cause)
    no_read_fault_of made ending run told is = cc

    -- a line is called malformed only where the job refuses the made text for it
    pub no_bad_line_of : (made ending : Ending) → Made made → ToldOn made ending → ((line : ℕ) → refusal_of job (rmat_text scale edges rng) ≡ Some (fault.BadLine line) → ⊥)
        → (line : ℕ) → ending ≡ BadLine line → ⊥
    no_bad_line_of (Answered report) ending run (inl up) well_formed line is = cc
    no_bad_line_of (Answered report) ending run (inr cut) well_formed line is = cc
    no_bad_line_of (BadLine other) ending run told well_formed line is = well_formed other (run.cause (rmat_text scale edges rng) refl)
    no_bad_line_of made ending run told well_formed line is = cc

    pub is_bench : (made ending : Ending) → Made made → ToldOn made ending → (2 ^ scale ≤ job.vertices → (line : ℕ) → ending ≡ BadLine line → ⊥)
        → call.text_after ≡ call.text → call.read_faults_after ≡ call.read_faults → IsBench state faults job scale edges rng call ending
    is_bench made ending run told_on no_bad_line unread no_reads = record {
      left = left;
      printed = printed;
      made = made;
      run = run;
      told_on = told_on;
      written = written_by made ending run told_on;
      write_fault = write_fault_of made ending run told_on;
      calm = calm_of made ending run told_on no_reads;
      no_read_fault = no_read_fault_of made ending run told_on;
      no_bad_line = no_bad_line;
      unread = unread;
      no_reads = no_reads;
    }
