-- A store was made, and the job's rounds were run.
use Rattle.std.proofs.Common.{◌≡◌, ◌∙◌, ◌⊎◌, inl, inr, ℕ, ◌+◌, ◌-◌, ◌<◌, ◌≤◌, List, [], length, get_or, Option, Some, Result, Ok, Err, refl, sym, subst, arith}
use Rattle.std.specs.Prelude.{Vec}
use Rattle.std.specs.Global.{Global}
use Rattle.std.proofs.lemmas.Bool.{cases_lt}
use Rattle.ports.specs.Disk.{DiskState, IsDisk, InEveryImage}
use Rattle.ports.specs.Devices.{MetersGoOn, NoneRose, AreDevices, NoRowRose, SameCounts}
use Rattle.graph_model.specs.declared.edge.Edge.{Edge}
use Rattle.graph_model.specs.declared.job.Job.{Job}
use Rattle.graph_model.specs.Jobs.{IsWellFormedJob}
use Rattle.graph_model.specs.Programs.{rules_of, shows_side}
use Rattle.graph_model.specs.Rounds.{IsLastRound}
use Rattle.graph_model.specs.Answer.{edges, IsAccepted}
use Rattle.graph_model.proofs.RoundLemmas.{last_is_one}
use Rattle.chunk_file.specs.declared.index.Place.{Place}
use Rattle.phase_model.specs.Shelves.{records_at}
use Rattle.store_model.specs.Heads.{IsShutGraph}
use Rattle.store_model.specs.Graphs.{graph}
use Rattle.store_model.specs.Kept.{IsUnprepared, IsWholeStore, IsEverywhere}
use Rattle.store_reader.specs.declared.store.Part.{Part}
use Rattle.store_reader.specs.declared.store.Store.{Store}
use Rattle.store_reader.specs.Devices.{SomeShut}
use Rattle.storage_engine.specs.Preparing.{IsMadeOf, Prepares}
use Rattle.epoch_laws.specs.Phases.{edge_shelf}
use Rattle.round_steps.specs.Going.{NoDeviceRose}
use Rattle.round_steps.specs.Damage.{IsDamage}
use Rattle.round_steps.proofs.Kept.{meters_then, meter_rose_later}
use Rattle.round_loop.specs.declared.run.Start.TheVariants.{Fresh}
use Rattle.round_loop.specs.declared.run.Done.{Done}
use Rattle.round_loop.specs.declared.fault.RoundFault.{RoundFault}
use Rattle.round_loop.specs.declared.fault.RoundFault.TheVariants as fault
use Rattle.partitioner.specs.Splits.{split_for}
use Rattle.round_loop.specs.Starts.{epochs_to}
use Rattle.round_loop.specs.Kept.{StandsAfter as RoundStands}
use Rattle.round_loop.specs.Keeping.{moment}
use Rattle.round_loop.specs.Run.{RunsWell, HasRun}
use Rattle.job_run.specs.declared.finish.Finish.{Finish}
use Rattle.job_run.specs.declared.finish.Finish.TheVariants as finish
use Rattle.job_run.specs.Finish.{rounds_of}
use Rattle.job_run.specs.Running.{Prints, HasFinishCause}
use Rattle.answer_lines.specs.Printing.{PrintsAll, PrintsFront}
use Rattle.store_model.specs.Slots.{slot_of}
use Rattle.store_edges.proofs.Accepted.{edges_within}
use Rattle.store_edges.proofs.Counted.{engine_counted}
use Rattle.store_rounds.specs.Making.{LeaveMade, IsMadeStore}
use Rattle.store_rounds.specs.Images.{IsStopOfEach}
use Rattle.store_rounds.proofs.Places.{stop_of_each}
use Rattle.store_rounds.proofs.Left.{blank_is, all_before}
use Rattle.store_rounds.proofs.Stores.{whole_open}
use Rattle.store_rounds.proofs.Beginning.{running_at_stop, whole_at_stop}
use Rattle.store_rounds.proofs.Answering.{whole_answer, front_answer}
use Rattle.endings.specs.declared.ending.Report.{Report}
use Rattle.endings.specs.declared.ending.Ending.{Ending}
use Rattle.endings.specs.declared.ending.Ending.TheVariants.{Answered, WriteFault, RoundLimit}
use Rattle.run_model.specs.Telling.{ending_of, report_of, CountsChunks}
use Rattle.run_model.specs.Calls.{Call, OfText, IsReady, Tells, StoreGoesOn, NoneFailed, IsBack}
use Rattle.run_model.specs.Causes.{IsDamageOfMade, HasCause, IsFaultless}
use Rattle.run_model.specs.Printing.{HasPrinted}
use Rattle.store_rounds.specs.Printed.{AnswerPrinted, FrontPrinted}
use Rattle.run_model.specs.Epochs.{HasGone, AreJobEpochs, IsReportOf}
use Rattle.run_model.specs.Standing.{IsStored, StandsAfter}
use Rattle.run_model.specs.Stops.{LeavesStores}
use Rattle.run_model.specs.Runs.{IsRun, MOST_BEATS}
use Rattle.run_model.proofs.Going.{devices_on, store_then, store_run, some_rose_later}
use Rattle.text_run.proofs.Causes.{of_some, unprepared, exact}
use Rattle.run_model.proofs.Untouched.{prints_nothing}
use Rattle.run_model.proofs.Counted.{same_report, same_limit, counts_of_finish}
use Rattle.text_run.proofs.Prepared.{beats, store_made, graphs_made}
use Rattle.text_run.proofs.Made.{good_start, given_are, leave_made, made_store, storable, has_edges, told_made}

module _ {D M : Type 0} (state : D → DiskState) (lawful : (d : D) → IsDisk (state d)) (faults : M → ℕ) (job : Job) (well : IsWellFormedJob job) (second : job.format ≡ 2) (call : Call D M) (now : ℕ) (read : Type 0) (new : Store D M) (meters : List M) (index : List (List Place))
    (ready : IsReady state job.engines call.before) (on : MetersGoOn faults call.before.meters meters) (shut : SomeShut state call.before.store.graphs.items)
    (prepares : Prepares state job call.text call.text_after call.before.beat now read call.before.store.graphs.items new.graphs.items call.before.store.values.items new.values.items (Ok index))
    (lanes : new.lanes ≡ call.before.store.lanes) (spills : new.spills ≡ call.before.store.spills) where
  abbrev RunsTo : Result Done RoundFault → Type 0
  RunsTo result = HasRun state faults (rules_of job.program) job Fresh index (moment new meters call.before.seat now) call.after result

  on_beat : (call.before.beat ≤ now) × (now ≤ call.before.beat + 1)
  on_beat = beats state job call.text call.text_after call.before.beat now read call.before.store new (Ok index) prepares lanes spills call.before.meters call.before.seat ready

  first_on : StoreGoesOn state call.before.store new
  first_on = store_made state job call.text call.text_after call.before.beat now read call.before.store new (Ok index) prepares lanes spills call.before.meters call.before.seat ready

  accepted : OfText call.text (λ told. IsAccepted job told × (call.text_after ≡ Some []))
  accepted = of_some call.text (λ told. IsAccepted job told × (call.text_after ≡ Some [])) (prepares.all_read prepares.second)

  whole_made : (told : List ℕ) → call.text ≡ Some told → IsMadeStore state job (edges job told) now new.graphs.items new.values.items
  whole_made told is = subst (λ (given : List Edge). IsMadeStore state job given now new.graphs.items new.values.items)
      (given_are state job well second call.text call.text_after call.before.beat now read call.before.store new index prepares lanes spills call.before.meters call.before.seat ready told is)
      (made_store state job well second call.text call.text_after call.before.beat now read call.before.store new index prepares lanes spills call.before.meters call.before.seat ready)

  -- whatever the run came to
  module _ (result : Result Done RoundFault) (runs : RunsTo result) where
    back : IsBack state faults job.engines MOST_BEATS call.before call.after
    back = record {
      ready = record {
        graphs = subst (λ (graphs : Vec D Global). AreDevices state job.engines call.after.beat graphs.items) (sym runs.keeps.graphs)
            (devices_on state job.engines now call.after.beat new.graphs.items runs.beats.0 (graphs_made state job call.text call.text_after call.before.beat now read call.before.store new (Ok index) prepares lanes spills call.before.meters call.before.seat ready));
        values = runs.store.values;
        lanes = runs.store.lanes;
        spills = runs.store.spills;
        meters = runs.meters.many ∙ on.many ∙ ready.meters;
        between = runs.through.between;
      };
      store = store_then state call.before.store new call.after.store first_on (store_run state new call.after.store runs.keeps);
      meters = meters_then faults call.before.meters meters call.after.meters on runs.meters;
      beats = (omega (arith, on_beat.0, runs.beats.0), omega (arith, on_beat.1, runs.beats.1));
    }

    runs_well : (told : List ℕ) → call.text ≡ Some told → (graphs : List (List ℕ)) → Tells state call.before.store graphs
        → RunsWell state (rules_of job.program) job Fresh (edges job told) (moment new meters call.before.seat now) call.after runs.epochs result
    runs_well told is graphs tells = subst (λ (given : List Edge). RunsWell state (rules_of job.program) job Fresh given (moment new meters call.before.seat now) call.after runs.epochs result)
        (given_are state job well second call.text call.text_after call.before.beat now read call.before.store new index prepares lanes spills call.before.meters call.before.seat ready told is)
        (runs.well prepares.made.0 (has_edges state job well second call.text call.text_after call.before.beat now read call.before.store new index prepares lanes spills call.before.meters call.before.seat ready graphs tells)
        (told_made state job well second call.text call.text_after call.before.beat now read call.before.store new index prepares lanes spills call.before.meters call.before.seat ready graphs tells)
        (good_start state job prepares.made.0 new.values.items))

    -- a round that stands after the run is stored
    stored : (told : List ℕ) → call.text ≡ Some told → (round : ℕ) → RoundStands (rules_of job.program) job (edges job told) state Fresh round new.values.items call.after.store.values.items → IsStored state job (edges job told) round call.after.store
    stored told is round stands = record {
      graphs = λ e d below. subst (λ (graphs : Vec D Global). InEveryImage (state (get_or graphs.items e d)) (λ bytes. bytes ≡ graph job (edges job told) e)) (sym runs.keeps.graphs) ((whole_made told is).whole e d below);
      values = λ e d below. (stands e d below).images (λ before. absurd (omega (arith, before)));
    }

    -- what a stop leaves
    module _ (told : List ℕ) (is : call.text ≡ Some told) (devices : List (List ℕ)) (tells : Tells state call.before.store devices) (b : ℕ) (graphs values : List (List ℕ)) (within : b ≤ call.after.beat)
        (stop_graphs : IsStopOfEach state b call.before.store.graphs.items call.after.store.graphs.items graphs) (stop_values : IsStopOfEach state b call.before.store.values.items call.after.store.values.items values) where
      leave : LeaveMade state job (Some told) call.before.beat now call.before.store.graphs.items new.graphs.items call.before.store.values.items new.values.items
      leave = subst (λ (x : Option (List ℕ)). LeaveMade state job x call.before.beat now call.before.store.graphs.items new.graphs.items call.before.store.values.items new.values.items) is
          (leave_made state job well second call.text call.text_after call.before.beat now read call.before.store new index prepares lanes spills call.before.meters call.before.seat ready)

      stop_made : IsStopOfEach state b call.before.store.graphs.items new.graphs.items graphs
      stop_made = subst (λ (now_graphs : Vec D Global). IsStopOfEach state b call.before.store.graphs.items now_graphs.items graphs) runs.keeps.graphs stop_graphs

      later_whole : now < b → IsWholeStore job (edges job told) graphs values
      later_whole after = whole_at_stop state job told call.before.beat now b call.before.store.graphs.items new.graphs.items call.before.store.values.items new.values.items graphs values ready.graphs.all ready.values.all leave stop_made
          lawful call.after.beat call.after.store.values.items (whole_made told is) (runs_well told is devices tells).any_stop within stop_values after

      at_stop : ((e : ℕ) × (e < job.engines) × ((d : D) → InEveryImage (state (get_or call.before.store.graphs.items e d)) IsShutGraph)) → IsUnprepared graphs ⊎ (IsAccepted job told × (call.text_after ≡ Some []) × IsWholeStore job (edges job told) graphs values)
      at_stop shut_device = elim (cases_lt now b) [
        | inl after ↦ inr ((accepted told is).0, (accepted told is).1, later_whole after)
        | inr early ↦ elim (running_at_stop state job told call.before.beat now b call.before.store.graphs.items new.graphs.items call.before.store.values.items new.values.items graphs values ready.graphs.all ready.values.all leave stop_made
            lawful call.after.beat call.after.store.values.items (whole_made told is) (runs_well told is devices tells).any_stop within stop_values shut_device early) [
              | inl unprepared_now ↦ inl unprepared_now
              | inr whole ↦ inr ((accepted told is).0, (accepted told is).1, whole.1)
            ]
      ]

      everywhere : (round : ℕ) → 1 ≤ round → b ≡ call.before.beat + 2 + round → IsEverywhere job (edges job told) values (round - 1)
      everywhere round some at = all_before state job (edges job told) now 0 call.after.beat b round call.before.store.values.items new.values.items call.after.store.values.items values well ready.values.all
          (λ e d below c image. blank_is job (edges job told) e c ((whole_made told is).blank e d below c image))
          (λ e d below. (leave.of_values e d below).later)
          (λ e d below before. absurd (omega (arith, before)))
          (runs_well told is devices tells).since (omega arith) some (omega (arith, within, at, prepares.second, runs.beats.1)) (omega (arith, at, prepares.second)) within stop_values

    stops : LeavesStores state job call
    stops = record {
      any_stop = λ shut_device told is devices tells b graphs values within stop_graphs stop_values.
          at_stop told is devices tells b graphs values within (stop_of_each state b call.before.store.graphs.items call.after.store.graphs.items graphs stop_graphs)
          (stop_of_each state b call.before.store.values.items call.after.store.values.items values stop_values) shut_device;
      in_rounds = λ told is devices tells round some b graphs values within stop_graphs stop_values at.
          let each_graphs = stop_of_each state b call.before.store.graphs.items call.after.store.graphs.items graphs stop_graphs in
          let each_values = stop_of_each state b call.before.store.values.items call.after.store.values.items values stop_values in (
            whole_open job (edges job told) graphs values (later_whole told is devices tells b graphs values within each_graphs each_values (omega (arith, at, prepares.second))),
            everywhere told is devices tells b graphs values within each_graphs each_values round some at,
          );
    }

  -- what is damaged
  damage_of : (part : Part) (engine place : ℕ) → RunsTo (Err (fault.Damaged part engine place)) → IsDamageOfMade state faults job call part engine place
  damage_of part engine place runs = record {
    given = prepares.made.0;
    index = index;
    made = subst (λ (graphs : Vec D Global). IsMadeOf state job call.text index graphs.items prepares.made.0) (sym runs.keeps.graphs) prepares.made.1;
    refused = subst (λ (graphs : Vec D Global). IsDamage state job (split_for job) index graphs.items call.after.store.lanes.items part engine place) (sym runs.keeps.graphs) (runs.damaged part engine place refl);
  }

  -- What is said by each finish.
  cause_of : (ended : Finish) → RunsTo (rounds_of ended) → HasFinishCause faults meters call.after.meters call.write_faults call.write_faults_after ended → HasCause state faults job call (ending_of job index ended)
  cause_of (finish.Answered done) runs caused = λ told is graphs tells. (
    unprepared state faults job call shut graphs tells,
    (accepted told is).0,
    λ never. let wrong = (runs_well (Ok done) runs told is graphs tells).settles never in absurd (cc),
  )
  cause_of (finish.NotWritten done) runs caused = caused.caused
  cause_of (finish.NotRead done) runs caused = inr (inl (meter_rose_later faults call.before.meters meters call.after.meters on caused.caused))
  cause_of (finish.Stopped fault.RoundLimit) runs caused = (refl, λ told is graphs tells. (unprepared state faults job call shut graphs tells, (accepted told is).0, ((runs_well (Err fault.RoundLimit) runs told is graphs tells).unsettled refl).0))
  cause_of (finish.Stopped fault.DiskFault) runs caused = inr (some_rose_later state faults call.before.store new call.after.store call.before.meters meters call.after.meters first_on on (runs.rose refl))
  cause_of (finish.Stopped (fault.Damaged part engine place)) runs caused = (
    λ graphs tells. runs.sound (records_at (edge_shelf job prepares.made.0))
        (has_edges state job well second call.text call.text_after call.before.beat now read call.before.store new index prepares lanes spills call.before.meters call.before.seat ready graphs tells).stand
        (told_made state job well second call.text call.text_after call.before.beat now read call.before.store new index prepares lanes spills call.before.meters call.before.seat ready graphs tells) part engine place refl,
    damage_of part engine place runs,
  )
  cause_of (finish.Stopped fault.Memory) runs caused = tt

  whole_printed : (done : Done) → RunsTo (Ok done) → PrintsAll state (split_for job) call.after.store.values.items (slot_of done.round) (shows_side job.program) call.out call.out_after
      → (told : List ℕ) → call.text ≡ Some told → (graphs : List (List ℕ)) → Tells state call.before.store graphs → AnswerPrinted job (edges job told) call.out call.out_after
  whole_printed done runs prints told is graphs tells =
      let good = runs_well (Ok done) runs told is graphs tells in
      whole_answer state job (edges job told) done.round call.after.store.values.items well (edges_within job told) runs.store.values.all (λ e d below. (good.last.1 e d below).read) call.out call.out_after good.last.0 prints

  front_printed : (done : Done) → RunsTo (Ok done) → PrintsFront state (split_for job) call.after.store.values.items (slot_of done.round) (shows_side job.program) call.out call.out_after
      → (told : List ℕ) → call.text ≡ Some told → (graphs : List (List ℕ)) → Tells state call.before.store graphs → FrontPrinted job (edges job told) call.out call.out_after
  front_printed done runs prints told is graphs tells =
      let good = runs_well (Ok done) runs told is graphs tells in
      front_answer state job (edges job told) done.round call.after.store.values.items well (edges_within job told) runs.store.values.all (λ e d below. (good.last.1 e d below).read) call.out call.out_after good.last.0 prints

  printed_of : (ended : Finish) → RunsTo (rounds_of ended) → Prints state (split_for job) call.after.store.values.items (shows_side job.program) ended call.out call.out_after → HasPrinted state job call (ending_of job index ended)
  printed_of (finish.Answered done) runs prints = whole_printed done runs prints
  printed_of (finish.NotWritten done) runs prints = front_printed done runs prints
  printed_of (finish.NotRead done) runs prints = λ told is graphs tells. inr (front_printed done runs prints told is graphs tells)
  printed_of (finish.Stopped fault.RoundLimit) runs prints = prints_nothing state job call prints
  printed_of (finish.Stopped fault.DiskFault) runs prints = λ told is graphs tells. inl (prints_nothing state job call prints)
  printed_of (finish.Stopped (fault.Damaged part engine place)) runs prints = prints_nothing state job call prints
  printed_of (finish.Stopped fault.Memory) runs prints = prints_nothing state job call prints

  stands_of : (ended : Finish) → RunsTo (rounds_of ended) → StandsAfter state job call (ending_of job index ended)
  stands_of (finish.Answered done) runs = λ told is graphs tells. stored (Ok done) runs told is done.round (runs_well (Ok done) runs told is graphs tells).last.1
  stands_of (finish.NotWritten done) runs = λ told is graphs tells.
      let good = runs_well (Ok done) runs told is graphs tells in (done.round, good.last.0, stored (Ok done) runs told is done.round good.last.1)
  stands_of (finish.NotRead done) runs = tt
  stands_of (finish.Stopped fault.RoundLimit) runs = λ told is graphs tells. stored (Err fault.RoundLimit) runs told is job.limit ((runs_well (Err fault.RoundLimit) runs told is graphs tells).unsettled refl).2
  stands_of (finish.Stopped fault.DiskFault) runs = tt
  stands_of (finish.Stopped (fault.Damaged part engine place)) runs = tt
  stands_of (finish.Stopped fault.Memory) runs = tt

  gone_of : (ended : Finish) (runs : RunsTo (rounds_of ended)) → HasGone job call.before.seat call.after.seat (ending_of job index ended) runs.epochs
  gone_of (finish.Answered done) runs = record {
    through = runs.through;
    fronts = runs.fronts;
    whole = λ complete. runs.done.0;
    reported = λ report is. subst (λ (r : Report). IsReportOf runs.epochs r) (same_report (report_of job index done) report is) (record { claims = runs.counts.0; admitted = runs.counts.1 });
  }
  gone_of (finish.NotWritten done) runs = record { through = runs.through; fronts = runs.fronts; whole = λ complete. runs.done.0; reported = λ report is. absurd (cc) }
  gone_of (finish.NotRead done) runs = record { through = runs.through; fronts = runs.fronts; whole = λ complete. runs.done.0; reported = λ report is. absurd (cc) }
  gone_of (finish.Stopped fault.RoundLimit) runs = record { through = runs.through; fronts = runs.fronts; whole = λ complete. (runs.limited refl).0; reported = λ report is. absurd (cc) }
  gone_of (finish.Stopped fault.DiskFault) runs = record { through = runs.through; fronts = runs.fronts; whole = λ complete. absurd complete; reported = λ report is. absurd (cc) }
  gone_of (finish.Stopped (fault.Damaged part engine place)) runs = record { through = runs.through; fronts = runs.fronts; whole = λ complete. absurd complete; reported = λ report is. absurd (cc) }
  gone_of (finish.Stopped fault.Memory) runs = record { through = runs.through; fronts = runs.fronts; whole = λ complete. absurd complete; reported = λ report is. absurd (cc) }

  -- the epochs, where nothing but their order is said
  of_job : (ended : Finish) (runs : RunsTo (rounds_of ended)) (ending : Ending) → ((report : Report) → ending ≡ Answered report → ⊥) → (ending ≡ WriteFault → ⊥) → ((limit : ℕ) → ending ≡ RoundLimit limit → ⊥)
      → (told : List ℕ) → call.text ≡ Some told → (graphs : List (List ℕ)) → Tells state call.before.store graphs → AreJobEpochs job (edges job told) Fresh ending runs.epochs
  of_job ended runs ending not_answered not_write not_limit told is graphs tells = record {
    are = (runs_well (rounds_of ended) runs told is graphs tells).are;
    last = λ report answered. absurd (not_answered report answered);
    all = λ report answered. absurd (not_answered report answered);
    all_written = λ written last is_last. absurd (not_write written);
    all_within = λ limit limited. absurd (not_limit limit limited);
  }

  are_of : (ended : Finish) (runs : RunsTo (rounds_of ended)) (told : List ℕ) → call.text ≡ Some told → (graphs : List (List ℕ)) → Tells state call.before.store graphs → AreJobEpochs job (edges job told) Fresh (ending_of job index ended) runs.epochs
  are_of (finish.Answered done) runs told is graphs tells =
      let good = runs_well (Ok done) runs told is graphs tells in
      record {
        are = good.are;
        last = λ report answered. subst (λ (r : Report). IsLastRound (rules_of job.program) job.vertices (edges job told) job.limit r.rounds) (same_report (report_of job index done) report answered) good.last.0;
        all = λ report answered. subst (λ (r : Report). length runs.epochs ≡ epochs_to (rules_of job.program) Fresh r.rounds) (same_report (report_of job index done) report answered) runs.done.1;
        all_written = λ written last is_last. absurd (cc);
        all_within = λ limit limited. absurd (cc);
      }
  are_of (finish.NotWritten done) runs told is graphs tells =
      let good = runs_well (Ok done) runs told is graphs tells in
      record {
        are = good.are;
        last = λ report answered. absurd (cc);
        all = λ report answered. absurd (cc);
        all_written = λ written last is_last. subst (λ (n : ℕ). length runs.epochs ≡ epochs_to (rules_of job.program) Fresh n) (last_is_one (rules_of job.program) job.vertices (edges job told) job.limit done.round last good.last.0 is_last) runs.done.1;
        all_within = λ limit limited. absurd (cc);
      }
  are_of (finish.NotRead done) runs told is graphs tells = of_job (finish.NotRead done) runs (ending_of job index (finish.NotRead done)) (λ report answered. cc) (λ written. cc) (λ limit limited. cc) told is graphs tells
  are_of (finish.Stopped fault.RoundLimit) runs told is graphs tells =
      let good = runs_well (Err fault.RoundLimit) runs told is graphs tells in
      record {
        are = good.are;
        last = λ report answered. absurd (cc);
        all = λ report answered. absurd (cc);
        all_written = λ written last is_last. absurd (cc);
        all_within = λ limit limited. subst (λ (n : ℕ). length runs.epochs ≡ epochs_to (rules_of job.program) Fresh n) (same_limit job.limit limit limited) (good.unsettled refl).1;
      }
  are_of (finish.Stopped fault.DiskFault) runs told is graphs tells = of_job (finish.Stopped fault.DiskFault) runs (ending_of job index (finish.Stopped fault.DiskFault)) (λ report answered. cc) (λ written. cc) (λ limit limited. cc) told is graphs tells
  are_of (finish.Stopped (fault.Damaged part engine place)) runs told is graphs tells =
      of_job (finish.Stopped (fault.Damaged part engine place)) runs (ending_of job index (finish.Stopped (fault.Damaged part engine place))) (λ report answered. cc) (λ written. cc) (λ limit limited. cc) told is graphs tells
  are_of (finish.Stopped fault.Memory) runs told is graphs tells = of_job (finish.Stopped fault.Memory) runs (ending_of job index (finish.Stopped fault.Memory)) (λ report answered. cc) (λ written. cc) (λ limit limited. cc) told is graphs tells

  -- in which beat it has ended
  beats_of : (ended : Finish) → RunsTo (rounds_of ended) → (report : Report) → ending_of job index ended ≡ Answered report → call.after.beat ≡ call.before.beat + 2 + report.rounds
  beats_of (finish.Answered done) runs report is = subst (λ (r : Report). call.after.beat ≡ call.before.beat + 2 + r.rounds) (same_report (report_of job index done) report is) (omega (arith, runs.done.2, prepares.second))
  beats_of (finish.NotWritten done) runs report is = absurd (cc)
  beats_of (finish.NotRead done) runs report is = absurd (cc)
  beats_of (finish.Stopped fault.RoundLimit) runs report is = absurd (cc)
  beats_of (finish.Stopped fault.DiskFault) runs report is = absurd (cc)
  beats_of (finish.Stopped (fault.Damaged part engine place)) runs report is = absurd (cc)
  beats_of (finish.Stopped fault.Memory) runs report is = absurd (cc)

  -- what the report counts
  counts_of_text : (ended : Finish) (report : Report) → ending_of job index ended ≡ Answered report → OfText call.text (λ told. CountsChunks job (edges job told) report)
  counts_of_text ended report is told told_is = subst (λ (given : List Edge). CountsChunks job given report)
      (given_are state job well second call.text call.text_after call.before.beat now read call.before.store new index prepares lanes spills call.before.meters call.before.seat ready told told_is)
      (counts_of_finish job prepares.made.0 index well (engine_counted job prepares.made.0 (storable state job well second call.text call.text_after call.before.beat now read call.before.store new index prepares lanes spills call.before.meters call.before.seat ready) index prepares.made.1.places) ended report is)

  -- no call failed, where none failed in the rounds, of the meters, or of the streams
  none_failed : (result : Result Done RoundFault) → RunsTo result → NoDeviceRose state new call.after.store → SameCounts faults meters call.after.meters
      → SameCounts faults call.before.meters meters → call.read_faults_after ≡ call.read_faults → call.write_faults_after ≡ call.write_faults → NoneFailed state faults call
  none_failed result runs devices later still reads writes =
      let made = prepares.calm (λ is. cc) in
      record {
        reads = reads;
        writes = writes;
        devices = (
          subst (λ (graphs : Vec D Global). NoneRose state call.before.store.graphs.items graphs.items) (sym runs.keeps.graphs) made.0,
          (
            later ∙ still,
            record {
              values = devices.values ∙ made.1;
              lanes = subst (λ (rows : Vec (Vec D Global) Global). NoRowRose state rows.items call.after.store.lanes.items) lanes devices.lanes;
              spills = subst (λ (spilled : Vec D Global). NoneRose state spilled.items call.after.store.spills.items) spills devices.spills;
            },
          ),
        );
      }

  calm_of : (ended : Finish) → RunsTo (rounds_of ended) → HasFinishCause faults meters call.after.meters call.write_faults call.write_faults_after ended
      → SameCounts faults call.before.meters meters → call.read_faults_after ≡ call.read_faults → IsFaultless (ending_of job index ended) → NoneFailed state faults call
  calm_of (finish.Answered done) runs caused still reads faultless = none_failed (Ok done) runs runs.calm caused.caused.0 still reads caused.caused.1
  calm_of (finish.NotWritten done) runs caused still reads faultless = absurd cc
  calm_of (finish.NotRead done) runs caused still reads faultless = absurd cc
  calm_of (finish.Stopped fault.RoundLimit) runs caused still reads faultless = none_failed (Err fault.RoundLimit) runs runs.calm caused.caused.0 still reads caused.caused.1
  calm_of (finish.Stopped fault.DiskFault) runs caused still reads faultless = absurd cc
  calm_of (finish.Stopped (fault.Damaged part engine place)) runs caused still reads faultless = absurd faultless
  calm_of (finish.Stopped fault.Memory) runs caused still reads faultless = absurd cc

  -- **A run whose store was made**
  finished_run : (ended : Finish) → RunsTo (rounds_of ended) → Prints state (split_for job) call.after.store.values.items (shows_side job.program) ended call.out call.out_after
      → HasFinishCause faults meters call.after.meters call.write_faults call.write_faults_after ended → SameCounts faults call.before.meters meters → call.read_faults_after ≡ call.read_faults
      → IsRun state faults job call (ending_of job index ended)
  finished_run ended runs prints caused still reads =
      let cause = cause_of ended runs caused in
      record {
        cause = cause;
        exact = exact state faults job call (unprepared state faults job call shut) (ending_of job index ended) cause;
        calm = calm_of ended runs caused still reads;
        printed = printed_of ended runs prints;
        all_read = λ answered told is. (accepted told is).1;
        epochs = runs.epochs;
        gone = gone_of ended runs;
        are = are_of ended runs;
        counts = λ report is told told_is. counts_of_text ended report is told told_is;
        back = back (rounds_of ended) runs;
        beats = beats_of ended runs;
        stands = stands_of ended runs;
        stops = stops (rounds_of ended) runs;
      }

  pub finished_as : (ended : Finish) → RunsTo (rounds_of ended) → Prints state (split_for job) call.after.store.values.items (shows_side job.program) ended call.out call.out_after
      → HasFinishCause faults meters call.after.meters call.write_faults call.write_faults_after ended → SameCounts faults call.before.meters meters → call.read_faults_after ≡ call.read_faults
      → (ending : Ending) → ending ≡ ending_of job index ended → IsRun state faults job call ending
  finished_as ended runs prints caused still reads ending is = subst (λ (e : Ending). IsRun state faults job call e) (sym is) (finished_run ended runs prints caused still reads)
