-- A resume whose store was recovered, and whose rounds were run.
use Rattle.std.proofs.Common.{◌≡◌, ◌∙◌, ◌⊎◌, inl, inr, ℕ, ◌+◌, ◌<◌, ◌≤◌, List, length, map, get_or, true, Some, Result, Ok, Err, refl, sym, ap, subst, arith}
use Rattle.std.specs.Prelude.{Vec}
use Rattle.std.specs.Global.{Global}
use Rattle.ports.specs.Disk.{DiskState, IsDisk, InEveryImage}
use Rattle.ports.specs.Stops.{AreImages}
use Rattle.ports.specs.Devices.{MetersGoOn, AreDevices, AreRows, SameCounts}
use Rattle.graph_model.specs.declared.edge.Edge.{Edge}
use Rattle.graph_model.specs.declared.job.Job.{Job}
use Rattle.graph_model.specs.Jobs.{IsWellFormedJob}
use Rattle.graph_model.specs.Programs.{rules_of, shows_side}
use Rattle.graph_model.specs.Rounds.{IsLastRound}
use Rattle.graph_model.specs.Answer.{NeverSettles}
use Rattle.graph_model.proofs.RoundLemmas.{last_is_one}
use Rattle.partitioner.specs.Splits.{split_for}
use Rattle.partitioner.proofs.Made.{is_split_for}
use Rattle.answer_lines.specs.Printing.{PrintsAll, PrintsFront}
use Rattle.store_model.specs.Damage as damage
use Rattle.store_model.specs.Graphs.{graph}
use Rattle.store_model.specs.Kept.{IsWholeStore, StoreOf, IsEverywhere, IsKeptRound}
use Rattle.store_model.specs.Slots.{slot_of}
use Rattle.store_reader.specs.declared.store.Part.{Part}
use Rattle.store_checks.specs.Causes.{Tell}
use Rattle.store_checks.specs.declared.fault.RecoverFault.TheVariants as recover
use Rattle.restart.specs.declared.recovering.Recovered.{Recovered}
use Rattle.restart.specs.Recovering.{job_in, index_in, IsRecovered}
use Rattle.restart.specs.Resuming.{Resumes}
use Rattle.restart.specs.Storable.{IsStorable}
use Rattle.restart.proofs.OneFault.{recovered_has_none}
use Rattle.round_steps.specs.Going.{NoDeviceRose}
use Rattle.round_steps.specs.Standing.{HasEdges}
use Rattle.round_steps.proofs.Kept.{meters_then, meter_rose_later}
use Rattle.round_loop.specs.declared.run.Start.{Start}
use Rattle.round_loop.specs.declared.run.Start.TheVariants.{At}
use Rattle.round_loop.specs.declared.run.Done.{Done}
use Rattle.round_loop.specs.declared.fault.RoundFault.{RoundFault}
use Rattle.round_loop.specs.declared.fault.RoundFault.TheVariants as fault
use Rattle.round_loop.specs.Starts.{first_made, epochs_to}
use Rattle.round_loop.specs.Kept.{StandsAfter}
use Rattle.round_loop.specs.Keeping.{IsTold, Moment, moment}
use Rattle.round_loop.specs.Run.{RunsWell, HasRun}
use Rattle.job_run.specs.declared.finish.Finish.{Finish}
use Rattle.job_run.specs.declared.finish.Finish.TheVariants as finish
use Rattle.job_run.specs.Finish.{rounds_of}
use Rattle.job_run.specs.Running.{Prints as HasPrints, HasFinishCause}
use Rattle.store_edges.proofs.Standing.{has_edges as edges_there}
use Rattle.store_edges.proofs.Found.{found_stand}
use Rattle.store_edges.proofs.Counted.{engine_counted}
use Rattle.store_rounds.specs.Going.{start_of, LeaveRounds}
use Rattle.store_rounds.proofs.Places.{are_images, told_images, settled_as, stop_of_each, same_stop}
use Rattle.store_rounds.proofs.Starting.{good_start, kept_after}
use Rattle.store_rounds.proofs.Stores.{store_at_stop, not_lost}
use Rattle.store_rounds.proofs.Answering.{whole_answer, front_answer}
use Rattle.endings.specs.declared.ending.Report.{Report}
use Rattle.endings.specs.declared.ending.Ending.{Ending}
use Rattle.endings.specs.declared.ending.Ending.TheVariants.{Answered, WriteFault, RoundLimit, Memory}
use Rattle.run_model.specs.Telling.{ending_of, report_of}
use Rattle.run_model.specs.Calls.{Call, IsReady, AreStill, NoneFailed, IsBack}
use Rattle.run_model.specs.Causes.{is_interrupted, IsAnswered, IsFaultless, Comes}
use Rattle.store_rounds.specs.Printed.{AnswerPrinted, FrontPrinted}
use Rattle.run_model.specs.Epochs.{HasGone, AreJobEpochs, IsReportOf}
use Rattle.run_model.specs.Standing.{IsStored}
use Rattle.run_model.specs.Stops.{AtEachStop}
use Rattle.run_model.specs.Runs.{MOST_BEATS}
use Rattle.store_resume.specs.Resumes.{OfBytes, AreSettled, HasResumeCause, HasDamage, HasPrintedNothing, HasRefused, HasCauseOfJob, StandsAfterResume, GoesOnWell, IsAtLimit, IsResume}
use Rattle.run_model.proofs.Going.{devices_on, store_same, store_run, some_rose_later}
use Rattle.run_model.proofs.Untouched.{prints_none}
use Rattle.run_model.proofs.Counted.{same_report, same_limit, counts_of_finish}
use Rattle.store_resume.specs.Going.{IsNotBegun, GoesOn}
use Rattle.store_resume.proofs.Refused.{refused_resume}
use Rattle.store_resume.proofs.Starts.{opened_found, job_found, places_found, start_found, handed_in, one_start, behind_kept, stood_from}

module _ {D M : Type 0} (state : D → DiskState) (lawful : (d : D) → IsDisk (state d)) (faults : M → ℕ) (call : Call D M) (meters : List M) (engines : ℕ) (found : Recovered) (formed : IsWellFormedJob (job_in found)) (as_many : (job_in found).engines ≡ engines)
    (ready : IsReady state engines call.before) (on : MetersGoOn faults call.before.meters meters) (calm : SameCounts faults call.before.meters meters)
    (recovered : (graphs values : List (List ℕ)) → Tell state call.before.store.graphs.items graphs → Tell state call.before.store.values.items values → IsRecovered graphs values found) where
  abbrev job : Job
  job = job_in found

  abbrev start : Start
  start = start_of found

  abbrev RunsTo : Result Done RoundFault → Type 0
  RunsTo result = HasRun state faults (rules_of job.program) job start (index_in found) (moment call.before.store meters call.before.seat call.before.beat) call.after result

  many_graphs : length call.before.store.graphs.items ≡ job.engines
  many_graphs = ready.graphs.all ∙ sym as_many

  many_values : length call.before.store.values.items ≡ job.engines
  many_values = ready.values.all ∙ sym as_many

  -- whatever the run came to
  module _ (result : Result Done RoundFault) (runs : RunsTo result) where
    back : IsBack state faults engines MOST_BEATS call.before call.after
    back = record {
      ready = record {
        graphs = subst (λ (graphs : Vec D Global). AreDevices state engines call.after.beat graphs.items) (sym runs.keeps.graphs)
            (devices_on state engines call.before.beat call.after.beat call.before.store.graphs.items runs.beats.0 ready.graphs);
        values = subst (λ n. AreDevices state n call.after.beat call.after.store.values.items) as_many runs.store.values;
        lanes = subst (λ n. AreRows state n call.after.beat call.after.store.lanes.items) as_many runs.store.lanes;
        spills = subst (λ n. AreDevices state n call.after.beat call.after.store.spills.items) as_many runs.store.spills;
        meters = runs.meters.many ∙ on.many ∙ ready.meters;
        between = runs.through.between;
      };
      store = store_run state call.before.store call.after.store runs.keeps;
      meters = meters_then faults call.before.meters meters call.after.meters on runs.meters;
      beats = (omega (arith, runs.beats.0), omega (arith, runs.beats.1));
    }

  -- devices that tell are not damaged
  not_damaged : (result : Result Done RoundFault) (runs : RunsTo result) (part : Part) (engine place : ℕ) → result ≡ Err (fault.Damaged part engine place) → OfBytes state faults call (λ graphs values. ⊥)
  not_damaged result runs part engine place is graphs values tell_graphs tell_values others =
      let opened = opened_found graphs values found (recovered graphs values tell_graphs tell_values) in
      let chunks = found_stand job formed (split_for job) (is_split_for job) graphs values (index_in found) opened state call.before.store.graphs.items tell_graphs in
      runs.sound chunks.0 chunks.1 others part engine place is

  -- **Of the store of a job**
  module _ (edges : List Edge) (graphs values : List (List ℕ)) (storable : IsStorable job edges) (tell_graphs : Tell state call.before.store.graphs.items graphs) (tell_values : Tell state call.before.store.values.items values)
      (others : IsTold state call.before.store) (whole : IsWholeStore job edges graphs values) (resumes : Resumes job edges values found) where
    graph_told : (e : ℕ) (d : D) → e < job.engines → (state (get_or call.before.store.graphs.items e d)).bytes ≡ Some (graph job edges e)
    graph_told e d below = tell_graphs.told e d (omega (arith, below, many_graphs)) ∙ ap Some (whole.graphs_are e below)

    has_edges : HasEdges state job (split_for job) (index_in found) call.before.store.graphs.items edges
    has_edges = edges_there state job edges call.before.store.graphs.items many_graphs graph_told storable (split_for job) (is_split_for job) (index_in found) (places_found job edges values found resumes)

    runs_well : (result : Result Done RoundFault) (runs : RunsTo result) → RunsWell state (rules_of job.program) job start edges (moment call.before.store meters call.before.seat call.before.beat) call.after runs.epochs result
    runs_well result runs = runs.well edges has_edges others (good_start state job edges call.before.store.values.items values found formed many_values tell_values resumes)

    leave : (result : Result Done RoundFault) → RunsTo result → (first : ℕ) → first ≡ first_made start → LeaveRounds state job edges call.before.beat first call.after.beat call.before.store.values.items call.after.store.values.items
    leave result runs first is = subst (λ n. LeaveRounds state job edges call.before.beat n call.after.beat call.before.store.values.items call.after.store.values.items) (sym is) (runs_well result runs).any_stop

    -- no stop loses the kept round
    kept_at_stop : (result : Result Done RoundFault) → RunsTo result → AreSettled state faults call graphs values → (round : ℕ) → IsKeptRound job edges values round
        → AtEachStop state call (λ b stopped_graphs stopped. (later : ℕ) × (round ≤ later) × IsEverywhere job edges stopped later)
    kept_at_stop result runs settled round kept b stopped_graphs stopped within stop_graphs stop_values =
        let first = behind_kept job edges values start round (start_found job edges values found resumes) (kept, refl) in
        not_lost state job edges call.before.beat round call.after.beat b call.before.store.values.items call.after.store.values.items values stopped formed many_values
        (settled_as state lawful call.before.store.values.items values tell_values settled.1) whole.values_are kept.everywhere (leave result runs (round + 1) (sym first)) within (omega (arith, runs.beats.1))
        (stop_of_each state b call.before.store.values.items call.after.store.values.items stopped stop_values)

    -- a round that stands after the run is stored
    stored : (result : Result Done RoundFault) → RunsTo result → AreSettled state faults call graphs values → (round : ℕ) → ((kept changed : ℕ) → start ≡ At kept changed → kept ≤ round)
        → StandsAfter (rules_of job.program) job edges state start round call.before.store.values.items call.after.store.values.items → IsStored state job edges round call.after.store
    stored result runs settled round from stands = record {
      graphs = λ e d below. subst (λ (devices : Vec D Global). InEveryImage (state (get_or devices.items e d)) (λ bytes. bytes ≡ graph job edges e)) (sym runs.keeps.graphs)
          (λ c image. (settled_as state lawful call.before.store.graphs.items graphs tell_graphs settled.0).each e d (omega (arith, below, many_graphs)) c image ∙ whole.graphs_are e below);
      values = kept_after state job edges start round call.before.store.values.items call.after.store.values.items
          (stood_from job edges values state call.before.store.values.items found round many_values (settled_as state lawful call.before.store.values.items values tell_values settled.1) resumes from) stands;
    }

    -- the kept round is not behind the last one, nor behind the limit
    is_good : (kept changed : ℕ) → start ≡ At kept changed → (last : ℕ) → IsLastRound (rules_of job.program) job.vertices edges job.limit last → kept ≤ last
    is_good kept changed is last is_last = ((good_start state job edges call.before.store.values.items values found formed many_values tell_values resumes).reached kept changed is).no_later last is_last

    within_limit : (kept changed : ℕ) → start ≡ At kept changed → NeverSettles job edges → kept ≤ job.limit
    within_limit kept changed is never = ((good_start state job edges call.before.store.values.items values found formed many_values tell_values resumes).reached kept changed is).within never

    whole_printed : (done : Done) → RunsTo (Ok done) → PrintsAll state (split_for job) call.after.store.values.items (slot_of done.round) (shows_side job.program) call.out call.out_after → AnswerPrinted job edges call.out call.out_after
    whole_printed done runs prints =
        let good = runs_well (Ok done) runs in
        whole_answer state job edges done.round call.after.store.values.items formed has_edges.within runs.store.values.all (λ e d below. (good.last.1 e d below).read) call.out call.out_after good.last.0 prints

    front_printed : (done : Done) → RunsTo (Ok done) → PrintsFront state (split_for job) call.after.store.values.items (slot_of done.round) (shows_side job.program) call.out call.out_after → FrontPrinted job edges call.out call.out_after
    front_printed done runs prints =
        let good = runs_well (Ok done) runs in
        front_answer state job edges done.round call.after.store.values.items formed has_edges.within runs.store.values.all (λ e d below. (good.last.1 e d below).read) call.out call.out_after good.last.0 prints

    damaged : (part : Part) (engine place : ℕ) → RunsTo (Err (fault.Damaged part engine place)) → ⊥
    damaged part engine place runs = not_damaged (Err (fault.Damaged part engine place)) runs part engine place refl graphs values tell_graphs tell_values others

    cause_of : (ended : Finish) → RunsTo (rounds_of ended) → HasPrints state (split_for job) call.after.store.values.items (shows_side job.program) ended call.out call.out_after → HasCauseOfJob state faults call job edges (ending_of job (index_in found) ended)
    cause_of (finish.Answered done) runs prints = (λ never. let wrong = (runs_well (Ok done) runs).settles never in absurd (cc), whole_printed done runs prints)
    cause_of (finish.NotWritten done) runs prints = front_printed done runs prints
    cause_of (finish.NotRead done) runs prints = inr (front_printed done runs prints)
    cause_of (finish.Stopped fault.RoundLimit) runs prints = (refl, ((runs_well (Err fault.RoundLimit) runs).unsettled refl).0)
    cause_of (finish.Stopped fault.DiskFault) runs prints = inl (prints_none call.out call.out_after prints)
    cause_of (finish.Stopped (fault.Damaged part engine place)) runs prints = damaged part engine place runs
    cause_of (finish.Stopped fault.Memory) runs prints = tt

    unsettled_of : (ended : Finish) → RunsTo (rounds_of ended) → NeverSettles job edges → Comes (RoundLimit job.limit) (ending_of job (index_in found) ended)
    unsettled_of (finish.Answered done) runs never = let wrong = (runs_well (Ok done) runs).settles never in absurd (cc)
    unsettled_of (finish.NotWritten done) runs never = inr refl
    unsettled_of (finish.NotRead done) runs never = inr refl
    unsettled_of (finish.Stopped fault.RoundLimit) runs never = inl refl
    unsettled_of (finish.Stopped fault.DiskFault) runs never = inr refl
    unsettled_of (finish.Stopped (fault.Damaged part engine place)) runs never = absurd (damaged part engine place runs)
    unsettled_of (finish.Stopped fault.Memory) runs never = inr refl

    settled_of : (ended : Finish) → RunsTo (rounds_of ended) → ¬ (NeverSettles job edges) → IsAnswered (ending_of job (index_in found) ended) ⊎ (is_interrupted (ending_of job (index_in found) ended) ≡ true)
    settled_of (finish.Answered done) runs settles = inl tt
    settled_of (finish.NotWritten done) runs settles = inr refl
    settled_of (finish.NotRead done) runs settles = inr refl
    settled_of (finish.Stopped fault.RoundLimit) runs settles = absurd (settles ((runs_well (Err fault.RoundLimit) runs).unsettled refl).0)
    settled_of (finish.Stopped fault.DiskFault) runs settles = inr refl
    settled_of (finish.Stopped (fault.Damaged part engine place)) runs settles = absurd (damaged part engine place runs)
    settled_of (finish.Stopped fault.Memory) runs settles = inr refl

    stands_of : (ended : Finish) → RunsTo (rounds_of ended) → AreSettled state faults call graphs values → StandsAfterResume state faults call job edges (ending_of job (index_in found) ended)
    stands_of (finish.Answered done) runs settled =
        let good = runs_well (Ok done) runs in
        stored (Ok done) runs settled done.round (λ kept changed is. is_good kept changed is done.round good.last.0) good.last.1
    stands_of (finish.NotWritten done) runs settled =
        let good = runs_well (Ok done) runs in
        (done.round, good.last.0, stored (Ok done) runs settled done.round (λ kept changed is. is_good kept changed is done.round good.last.0) good.last.1)
    stands_of (finish.NotRead done) runs settled = tt
    stands_of (finish.Stopped fault.RoundLimit) runs settled =
        let never = (runs_well (Err fault.RoundLimit) runs).unsettled refl in
        stored (Err fault.RoundLimit) runs settled job.limit (λ kept changed is. within_limit kept changed is never.0) never.2
    stands_of (finish.Stopped fault.DiskFault) runs settled = tt
    stands_of (finish.Stopped (fault.Damaged part engine place)) runs settled = tt
    stands_of (finish.Stopped fault.Memory) runs settled = tt

    -- the epochs, where nothing but their order is said
    in_order : (ended : Finish) (runs : RunsTo (rounds_of ended)) (ending : Ending) → ((report : Report) → ending ≡ Answered report → ⊥) → (ending ≡ WriteFault → ⊥) → ((limit : ℕ) → ending ≡ RoundLimit limit → ⊥) → AreJobEpochs job edges start ending runs.epochs
    in_order ended runs ending not_answered not_write not_limit = record {
      are = (runs_well (rounds_of ended) runs).are;
      last = λ report answered. absurd (not_answered report answered);
      all = λ report answered. absurd (not_answered report answered);
      all_written = λ written last is_last. absurd (not_write written);
      all_within = λ limit limited. absurd (not_limit limit limited);
    }

    are_of : (ended : Finish) (runs : RunsTo (rounds_of ended)) → AreJobEpochs job edges start (ending_of job (index_in found) ended) runs.epochs
    are_of (finish.Answered done) runs =
        let good = runs_well (Ok done) runs in
        record {
          are = good.are;
          last = λ report answered. subst (λ (r : Report). IsLastRound (rules_of job.program) job.vertices edges job.limit r.rounds) (same_report (report_of job (index_in found) done) report answered) good.last.0;
          all = λ report answered. subst (λ (r : Report). length runs.epochs ≡ epochs_to (rules_of job.program) start r.rounds) (same_report (report_of job (index_in found) done) report answered) runs.done.1;
          all_written = λ written last is_last. absurd (cc);
          all_within = λ limit limited. absurd (cc);
        }
    are_of (finish.NotWritten done) runs =
        let good = runs_well (Ok done) runs in
        record {
          are = good.are;
          last = λ report answered. absurd (cc);
          all = λ report answered. absurd (cc);
          all_written = λ written last is_last. subst (λ (n : ℕ). length runs.epochs ≡ epochs_to (rules_of job.program) start n) (last_is_one (rules_of job.program) job.vertices edges job.limit done.round last good.last.0 is_last) runs.done.1;
          all_within = λ limit limited. absurd (cc);
        }
    are_of (finish.NotRead done) runs = in_order (finish.NotRead done) runs (ending_of job (index_in found) (finish.NotRead done)) (λ report answered. cc) (λ written. cc) (λ limit limited. cc)
    are_of (finish.Stopped fault.RoundLimit) runs =
        let good = runs_well (Err fault.RoundLimit) runs in
        record {
          are = good.are;
          last = λ report answered. absurd (cc);
          all = λ report answered. absurd (cc);
          all_written = λ written last is_last. absurd (cc);
          all_within = λ limit limited. subst (λ (n : ℕ). length runs.epochs ≡ epochs_to (rules_of job.program) start n) (same_limit job.limit limit limited) (good.unsettled refl).1;
        }
    are_of (finish.Stopped fault.DiskFault) runs = in_order (finish.Stopped fault.DiskFault) runs (ending_of job (index_in found) (finish.Stopped fault.DiskFault)) (λ report answered. cc) (λ written. cc) (λ limit limited. cc)
    are_of (finish.Stopped (fault.Damaged part engine place)) runs = absurd (damaged part engine place runs)
    are_of (finish.Stopped fault.Memory) runs = in_order (finish.Stopped fault.Memory) runs (ending_of job (index_in found) (finish.Stopped fault.Memory)) (λ report answered. cc) (λ written. cc) (λ limit limited. cc)

  gone_of : (ended : Finish) (runs : RunsTo (rounds_of ended)) → HasGone job call.before.seat call.after.seat (ending_of job (index_in found) ended) runs.epochs
  gone_of (finish.Answered done) runs = record {
    through = runs.through;
    fronts = runs.fronts;
    whole = λ complete. runs.done.0;
    reported = λ report is. subst (λ (r : Report). IsReportOf runs.epochs r) (same_report (report_of job (index_in found) done) report is) (record { claims = runs.counts.0; admitted = runs.counts.1 });
  }
  gone_of (finish.NotWritten done) runs = record { through = runs.through; fronts = runs.fronts; whole = λ complete. runs.done.0; reported = λ report is. absurd (cc) }
  gone_of (finish.NotRead done) runs = record { through = runs.through; fronts = runs.fronts; whole = λ complete. runs.done.0; reported = λ report is. absurd (cc) }
  gone_of (finish.Stopped fault.RoundLimit) runs = record { through = runs.through; fronts = runs.fronts; whole = λ complete. (runs.limited refl).0; reported = λ report is. absurd (cc) }
  gone_of (finish.Stopped fault.DiskFault) runs = record { through = runs.through; fronts = runs.fronts; whole = λ complete. absurd complete; reported = λ report is. absurd (cc) }
  gone_of (finish.Stopped (fault.Damaged part engine place)) runs = record { through = runs.through; fronts = runs.fronts; whole = λ complete. absurd complete; reported = λ report is. absurd (cc) }
  gone_of (finish.Stopped fault.Memory) runs = record { through = runs.through; fronts = runs.fronts; whole = λ complete. absurd complete; reported = λ report is. absurd (cc) }

  -- where it comes to the limit
  at_limit : RunsTo (Err fault.RoundLimit) → IsAtLimit state faults call job job.limit
  at_limit runs =
      let at = runs.at_limit refl in
      record {
        of_job = refl;
        round = at.0;
        reached = at.1;
        stands = elim at.2 [
          | inl handed ↦ inl (λ graphs values tell_graphs tell_values others. handed_in graphs values found at.0 handed (recovered graphs values tell_graphs tell_values))
          | inr made ↦ inr made.1
        ];
      }

  limited_of : (ended : Finish) → RunsTo (rounds_of ended) → (limit : ℕ) → ending_of job (index_in found) ended ≡ RoundLimit limit → IsAtLimit state faults call job limit
  limited_of (finish.Answered done) runs limit is = absurd (cc)
  limited_of (finish.NotWritten done) runs limit is = absurd (cc)
  limited_of (finish.NotRead done) runs limit is = absurd (cc)
  limited_of (finish.Stopped fault.RoundLimit) runs limit is = subst (IsAtLimit state faults call job) (same_limit job.limit limit is) (at_limit runs)
  limited_of (finish.Stopped fault.DiskFault) runs limit is = absurd (cc)
  limited_of (finish.Stopped (fault.Damaged part engine place)) runs limit is = absurd (cc)
  limited_of (finish.Stopped fault.Memory) runs limit is = absurd (cc)

  -- what is damaged
  damage_of : (ended : Finish) → RunsTo (rounds_of ended) → HasDamage state faults call job (ending_of job (index_in found) ended)
  damage_of (finish.Answered done) runs = tt
  damage_of (finish.NotWritten done) runs = tt
  damage_of (finish.NotRead done) runs = tt
  damage_of (finish.Stopped fault.RoundLimit) runs = tt
  damage_of (finish.Stopped fault.DiskFault) runs = tt
  damage_of (finish.Stopped (fault.Damaged part engine place)) runs = inr (record { found = found; job_is = refl; engines = sym many_graphs; recovered = recovered; refused = runs.damaged part engine place refl })
  damage_of (finish.Stopped fault.Memory) runs = tt

  -- Whether or not it is the store of a job.
  resume_cause : (ended : Finish) → RunsTo (rounds_of ended) → HasFinishCause faults meters call.after.meters call.write_faults call.write_faults_after ended → HasResumeCause state faults call (ending_of job (index_in found) ended)
  resume_cause (finish.Answered done) runs caused = tt
  resume_cause (finish.NotWritten done) runs caused = caused.caused
  resume_cause (finish.NotRead done) runs caused = inr (inl (meter_rose_later faults call.before.meters meters call.after.meters on caused.caused))
  resume_cause (finish.Stopped fault.RoundLimit) runs caused = tt
  resume_cause (finish.Stopped fault.DiskFault) runs caused = inr (some_rose_later state faults call.before.store call.before.store call.after.store call.before.meters meters call.after.meters (store_same state call.before.store) on (runs.rose refl))
  resume_cause (finish.Stopped (fault.Damaged part engine place)) runs caused = λ graphs values tell_graphs tell_values others.
      absurd (not_damaged (Err (fault.Damaged part engine place)) runs part engine place refl graphs values tell_graphs tell_values others)
  resume_cause (finish.Stopped fault.Memory) runs caused = tt

  printed_of : (ended : Finish) → HasPrints state (split_for job) call.after.store.values.items (shows_side job.program) ended call.out call.out_after → HasPrintedNothing state faults call (ending_of job (index_in found) ended)
  printed_of (finish.Answered done) prints = tt
  printed_of (finish.NotWritten done) prints = tt
  printed_of (finish.NotRead done) prints = tt
  printed_of (finish.Stopped fault.RoundLimit) prints = prints_none call.out call.out_after prints
  printed_of (finish.Stopped fault.DiskFault) prints = tt
  printed_of (finish.Stopped (fault.Damaged part engine place)) prints = prints_none call.out call.out_after prints
  printed_of (finish.Stopped fault.Memory) prints = prints_none call.out call.out_after prints

  refused_of : (ended : Finish) → RunsTo (rounds_of ended) → HasRefused state faults call (ending_of job (index_in found) ended)
  refused_of (finish.Answered done) runs = tt
  refused_of (finish.NotWritten done) runs = tt
  refused_of (finish.NotRead done) runs = tt
  refused_of (finish.Stopped fault.RoundLimit) runs = tt
  refused_of (finish.Stopped fault.DiskFault) runs = tt
  refused_of (finish.Stopped (fault.Damaged part engine place)) runs = λ graphs values tell_graphs tell_values others.
      absurd (not_damaged (Err (fault.Damaged part engine place)) runs part engine place refl graphs values tell_graphs tell_values others)
  refused_of (finish.Stopped fault.Memory) runs = tt

  module _ (ended : Finish) (runs : RunsTo (rounds_of ended)) (prints : HasPrints state (split_for job) call.after.store.values.items (shows_side job.program) ended call.out call.out_after) where
    goes_on_well : (edges : List Edge) (graphs values : List (List ℕ)) → Tell state call.before.store.graphs.items graphs → Tell state call.before.store.values.items values → IsTold state call.before.store
        → IsStorable job edges → IsWholeStore job edges graphs values → Resumes job edges values found → GoesOnWell state faults call job edges graphs values (ending_of job (index_in found) ended) runs.epochs
    goes_on_well edges graphs values tell_graphs tell_values others storable whole resumes = record {
      cause = cause_of edges graphs values storable tell_graphs tell_values others whole resumes ended runs prints;
      unsettled = unsettled_of edges graphs values storable tell_graphs tell_values others whole resumes ended runs;
      settled = settled_of edges graphs values storable tell_graphs tell_values others whole resumes ended runs;
      gone = gone_of ended runs;
      found = λ _. (start, start_found job edges values found resumes);
      are = λ begins is_start. subst (λ (s : Start). AreJobEpochs job edges s (ending_of job (index_in found) ended) runs.epochs) (one_start job edges values start begins (start_found job edges values found resumes) is_start)
          (are_of edges graphs values storable tell_graphs tell_values others whole resumes ended runs);
      counts = counts_of_finish job edges (index_in found) formed (engine_counted job edges storable (index_in found) (places_found job edges values found resumes)) ended;
      stands = stands_of edges graphs values storable tell_graphs tell_values others whole resumes ended runs;
      kept = kept_at_stop edges graphs values storable tell_graphs tell_values others whole resumes (rounds_of ended) runs;
    }

    -- what a stop leaves of a store of the job
    store_stops : (edges : List Edge) (graphs values : List (List ℕ)) → Tell state call.before.store.graphs.items graphs → Tell state call.before.store.values.items values → IsTold state call.before.store
        → IsStorable job edges → StoreOf job edges graphs values → Resumes job edges values found
        → ((graph_images images : List (List ℕ)) → AreImages (map state call.before.store.graphs.items) graph_images → AreImages (map state call.before.store.values.items) images → StoreOf job edges graph_images images)
        → AtEachStop state call (λ b stopped_graphs stopped. StoreOf job edges stopped_graphs stopped)
    store_stops edges graphs values tell_graphs tell_values others storable (inl shut) resumes stores b stopped_graphs stopped within stop_graphs stop_values =
        absurd (recovered_has_none graphs values found damage.NotPrepared (recovered graphs values tell_graphs tell_values) (inl (refl, shut)))
    store_stops edges graphs values tell_graphs tell_values others storable (inr whole) resumes stores b stopped_graphs stopped within stop_graphs stop_values =
        store_at_stop state job edges call.before.beat (first_made start) call.after.beat b call.before.store.values.items call.after.store.values.items stopped
        (runs_well edges graphs values storable tell_graphs tell_values others whole resumes (rounds_of ended) runs).any_stop within
        (stop_of_each state b call.before.store.values.items call.after.store.values.items stopped stop_values) lawful values stopped_graphs tell_values
        (λ images are. stores stopped_graphs images (same_stop state lawful b call.before.store.graphs.items call.after.store.graphs.items stopped_graphs (ap (λ (graphs : Vec D Global). graphs.items) runs.keeps.graphs) stop_graphs) are)

  -- **The job came to a finish.**
  module _ (unread : call.text_after ≡ call.text) (no_reads : call.read_faults_after ≡ call.read_faults)
      (of_job : (given : Job) (edges : List Edge) (graphs values : List (List ℕ)) → IsStorable given edges → StoreOf given edges graphs values → Tell state call.before.store.graphs.items graphs → Tell state call.before.store.values.items values → Resumes given edges values found) where
    told_store : (given : Job) (edges : List Edge) (graphs values : List (List ℕ)) → Tell state call.before.store.graphs.items graphs → Tell state call.before.store.values.items values
        → ((graph_images images : List (List ℕ)) → AreImages (map state call.before.store.graphs.items) graph_images → AreImages (map state call.before.store.values.items) images → StoreOf given edges graph_images images) → StoreOf given edges graphs values
    told_store given edges graphs values tell_graphs tell_values stores = stores graphs values
        (are_images state call.before.store.graphs.items graphs tell_graphs.many (told_images state lawful call.before.store.graphs.items graphs tell_graphs))
        (are_images state call.before.store.values.items values tell_values.many (told_images state lawful call.before.store.values.items values tell_values))

    -- no call failed, where none failed in the rounds, of the meters, or of the sink
    none_failed : (result : Result Done RoundFault) → RunsTo result → NoDeviceRose state call.before.store call.after.store → SameCounts faults meters call.after.meters → call.write_faults_after ≡ call.write_faults → NoneFailed state faults call
    none_failed result runs devices later writes = record {
      reads = no_reads;
      writes = writes;
      devices = (ap (λ (graphs : Vec D Global). map (λ (d : D). (state d).faults) graphs.items) runs.keeps.graphs, (later ∙ calm, devices));
    }

    calm_of : (ended : Finish) → RunsTo (rounds_of ended) → HasFinishCause faults meters call.after.meters call.write_faults call.write_faults_after ended → IsFaultless (ending_of job (index_in found) ended) → NoneFailed state faults call
    calm_of (finish.Answered done) runs caused faultless = none_failed (Ok done) runs runs.calm caused.caused.0 caused.caused.1
    calm_of (finish.NotWritten done) runs caused faultless = absurd cc
    calm_of (finish.NotRead done) runs caused faultless = absurd cc
    calm_of (finish.Stopped fault.RoundLimit) runs caused faultless = none_failed (Err fault.RoundLimit) runs runs.calm caused.caused.0 caused.caused.1
    calm_of (finish.Stopped fault.DiskFault) runs caused faultless = absurd cc
    calm_of (finish.Stopped (fault.Damaged part engine place)) runs caused faultless = absurd faultless
    calm_of (finish.Stopped fault.Memory) runs caused faultless = absurd cc

    finished_resume : (ended : Finish) → RunsTo (rounds_of ended) → HasPrints state (split_for job) call.after.store.values.items (shows_side job.program) ended call.out call.out_after
        → HasFinishCause faults meters call.after.meters call.write_faults call.write_faults_after ended → IsResume state faults call engines (ending_of job (index_in found) ended)
    finished_resume ended runs prints caused = record {
      cause = resume_cause ended runs caused;
      exact = λ graphs values tell_graphs tell_values others check fails. absurd (recovered_has_none graphs values found check (recovered graphs values tell_graphs tell_values) fails);
      calm = calm_of ended runs caused;
      printed = printed_of ended prints;
      unread = unread;
      no_reads = no_reads;
      epochs = runs.epochs;
      job = job;
      gone = gone_of ended runs;
      limited = λ limit is. limited_of ended runs limit is;
      damaged = damage_of ended runs;
      back = back (rounds_of ended) runs;
      graphs = runs.keeps.graphs;
      refused = refused_of ended runs;
      of_job = λ given edges storable graphs values tell_graphs tell_values others whole.
          let resumes = of_job given edges graphs values storable (inr whole) tell_graphs tell_values in
          subst (λ (j : Job). IsStorable j edges → IsWholeStore j edges graphs values → Resumes j edges values found → GoesOnWell state faults call j edges graphs values (ending_of job (index_in found) ended) runs.epochs)
          (job_found given edges values found resumes) (goes_on_well ended runs prints edges graphs values tell_graphs tell_values others) storable whole resumes;
      stops = λ given edges storable graphs values tell_graphs tell_values others stores.
          let told = told_store given edges graphs values tell_graphs tell_values stores in
          let resumes = of_job given edges graphs values storable told tell_graphs tell_values in
          subst (λ (j : Job). IsStorable j edges → StoreOf j edges graphs values → Resumes j edges values found
          → ((graph_images images : List (List ℕ)) → AreImages (map state call.before.store.graphs.items) graph_images → AreImages (map state call.before.store.values.items) images → StoreOf j edges graph_images images)
          → AtEachStop state call (λ b stopped_graphs stopped. StoreOf j edges stopped_graphs stopped))
          (job_found given edges values found resumes) (store_stops ended runs prints edges graphs values tell_graphs tell_values others) storable told resumes stores;
    }

    -- there was no memory, and nothing was done
    nothing_failed : {ending : Ending} → IsNotBegun state faults job start (index_in found) (record call { before = moment call.before.store meters call.before.seat call.before.beat }) ending → NoneFailed state faults call
    nothing_failed none = record {
      reads = no_reads;
      writes = none.no_writes;
      devices = subst (λ (after : Moment D M). AreStill state faults call.before after) (sym none.unchanged) (refl, (calm, record { values = refl; lanes = refl; spills = refl }));
    }

    -- **The store was recovered.**
    resumed : (ending : Ending) → GoesOn state faults job start (index_in found) (record call { before = moment call.before.store meters call.before.seat call.before.beat }) ending → IsResume state faults call engines ending
    resumed ending (inl none) =
        let on_still = subst (MetersGoOn faults call.before.meters) (sym (ap (λ (m : Moment D M). m.meters) none.unchanged)) on in
        subst (IsResume state faults call engines) (sym none.memory)
        (refused_resume state lawful faults call engines ready on_still unread no_reads none.unprinted (ap (λ (m : Moment D M). m.store) none.unchanged) (ap (λ (m : Moment D M). m.seat) none.unchanged) (ap (λ (m : Moment D M). m.beat) none.unchanged)
        recover.Memory tt (λ other. nothing_failed none) (λ given edges graphs values storable stores tell_graphs tell_values. tt))
    resumed ending (inr went) = subst (IsResume state faults call engines) (sym went.1.told) (finished_resume went.0 went.1.rounds went.1.printed went.1.cause)

    -- the same, of what it is seen to be
    pub resumed_as : (seen : Recovered) → found ≡ seen → (ending : Ending) → GoesOn state faults (job_in seen) (start_of seen) (index_in seen) (record call { before = moment call.before.store meters call.before.seat call.before.beat }) ending → IsResume state faults call engines ending
    resumed_as seen is ending goes_on = resumed ending
        (subst (λ (f : Recovered). GoesOn state faults (job_in f) (start_of f) (index_in f) (record call { before = moment call.before.store meters call.before.seat call.before.beat }) ending) (sym is) goes_on)
