-- **What a run of a job over a made text promises.**
use Rattle.std.specs.Prelude.{◌≡◌, ◌⊎◌, ℕ, ◌^◌, ◌≤◌, List, [], Some}
use Rattle.ports.specs.Disk.{DiskState}
use Rattle.ports.specs.Faults.{Rose}
use Rattle.ports.specs.Sink.{AppendsFront}
use Rattle.ports.specs.Told.{AsTold}
use Rattle.graph_model.specs.declared.edge.Edge.{Edge}
use Rattle.graph_model.specs.declared.job.Job.{Job}
use Rattle.graph_model.specs.Programs.{rules_of}
use Rattle.graph_model.specs.Rounds.{IsLastRound}
use Rattle.graph_model.specs.Answer as answer
use Rattle.graph_model.specs.Answer.{IsAnswer}
use Rattle.rmat_source.specs.Rmat.{rmat_text}
use Rattle.endings.specs.declared.ending.Report.{Report}
use Rattle.endings.specs.declared.ending.Ending.{Ending}
use Rattle.endings.specs.declared.ending.Ending.TheVariants.{Answered, BadLine, WriteFault, ReadFault}
use Rattle.run_model.specs.Calls.{Call, OfTold, NoneFailed}
use Rattle.run_model.specs.Causes.{IsFaultless}
use Rattle.run_model.specs.Printing.{Prints}
use Rattle.run_model.specs.Runs.{IsRun}
use Rattle.bench_run.specs.Summaries.{summary_text}

module _ {D M : Type 0} (state : D → DiskState) (faults : M → ℕ) (job : Job) (scale edges rng : ℕ) (call : Call D M) where
  -- The run that is made of it: over the text of the number, of which so much is left afterwards, to a sink that has got
  -- so much. Neither fails.
  abbrev pub made_run : (left printed : List ℕ) → Call D M
  made_run left printed = record call {
    text = Some (rmat_text scale edges rng);
    text_after = Some left;
    read_faults = 0;
    read_faults_after = 0;
    out = Some [];
    out_after = Some printed;
    write_faults = 0;
    write_faults_after = 0;
  }

  -- so many rounds and this answer, summed up
  abbrev pub summary : Report → List ℕ → List ℕ
  summary report printed = summary_text job.vertices edges report.rounds printed

  -- the whole summary of what was printed was written, and nothing else, and no write failed
  pub record IsSummedUp (report : Report) (printed : List ℕ) (ending : Ending) : Type 0 where
    pub answered : ending ≡ Answered report
    pub prints : Prints call.out call.out_after (summary report printed)
    pub calm : call.write_faults_after ≡ call.write_faults

  -- a write has failed, and a front of the summary was written
  pub record IsCutOff (report : Report) (printed : List ℕ) (ending : Ending) : Type 0 where
    pub told : ending ≡ WriteFault
    pub rose : Rose call.write_faults call.write_faults_after
    pub front : AsTold (AppendsFront (summary report printed)) call.out call.out_after

  -- the ending is told on, and nothing was written
  pub record IsPassedOn (made ending : Ending) : Type 0 where
    pub same : ending ≡ made
    pub prints : Prints call.out call.out_after []
    pub no_writes : call.write_faults_after ≡ call.write_faults

  -- **How the ending of the run is told on**
  abbrev pub IsToldOn : (printed : List ℕ) (made ending : Ending) → Type 0
  IsToldOn printed (Answered report) ending = IsSummedUp report printed ending ⊎ IsCutOff report printed ending
  IsToldOn printed made ending = IsPassedOn made ending

  -- the edges of the text of the number
  abbrev pub made_edges : List Edge
  made_edges = answer.edges job (rmat_text scale edges rng)

  -- a text is the summary of the job's answer over those edges, of so many rounds
  pub record IsSummary (rounds : ℕ) (text : List ℕ) : Type 0 where
    pub answer : List ℕ
    pub is_answer : IsAnswer job made_edges answer
    pub is_last : IsLastRound (rules_of job.program) job.vertices made_edges job.limit rounds
    pub is_text : text ≡ summary_text job.vertices edges rounds answer

  -- the whole summary was written
  pub record PrintsSummary (rounds : ℕ) : Type 0 where
    pub printed : List ℕ
    pub prints : Prints call.out call.out_after printed
    pub is_summary : IsSummary rounds printed

  -- a front of the summary was written
  pub record PrintsSummaryFront : Type 0 where
    pub rounds : ℕ
    pub whole : List ℕ
    pub prints : AsTold (AppendsFront whole) call.out call.out_after
    pub is_summary : IsSummary rounds whole

  -- **What was written at each ending**
  abbrev pub HasPrintedSummary : Ending → Type 0
  HasPrintedSummary (Answered report) = OfTold state call.before.store (λ graphs. PrintsSummary report.rounds)
  HasPrintedSummary WriteFault = OfTold state call.before.store (λ graphs. PrintsSummaryFront)
  HasPrintedSummary _ = Prints call.out call.out_after []

  -- **A bench**: a run over the text of the number, with all that is promised of one, whose answer is summed up. Unless it
  -- was interrupted, or met damage, no call failed. No line is called malformed where the graph has room for the vertices of
  -- the text, and the source is not read.
  pub record IsBench (ending : Ending) : Type 0 where
    pub left : List ℕ
    pub printed : List ℕ
    pub made : Ending
    pub run : IsRun state faults job (made_run left printed) made
    pub told_on : IsToldOn printed made ending
    pub written : HasPrintedSummary ending
    pub write_fault : ending ≡ WriteFault → Rose call.write_faults call.write_faults_after
    pub calm : IsFaultless ending → NoneFailed state faults call
    pub no_read_fault : ¬ (ending ≡ ReadFault)
    pub no_bad_line : 2 ^ scale ≤ job.vertices → (line : ℕ) → ¬ (ending ≡ BadLine line)
    pub unread : call.text_after ≡ call.text
    pub no_reads : call.read_faults_after ≡ call.read_faults
