-- A store was not made.
use Rattle.std.proofs.Common.{◌≡◌, ◌≢◌, ◌∙◌, ◌⊎◌, inl, inr, ℕ, List, [], Option, Some, Result, Err, refl, sym, subst, arith}
use Rattle.std.specs.Prelude.{Vec}
use Rattle.std.specs.Global.{Global}
use Rattle.ports.specs.Disk.{DiskState}
use Rattle.ports.specs.Faults.{Rose}
use Rattle.ports.specs.Devices.{OneRose, NoneRose, NoRowRose, MetersGoOn, SameCounts}
use Rattle.graph_model.specs.declared.edge.TextFault.TheVariants as fault
use Rattle.graph_model.specs.declared.job.Job.{Job}
use Rattle.graph_model.specs.EdgeText.{text_limit}
use Rattle.graph_model.specs.Answer.{edges, refusal_of, IsAccepted}
use Rattle.chunk_cursor.specs.declared.view.View.{View}
use Rattle.chunk_file.specs.declared.index.Place.{Place}
use Rattle.store_reader.specs.declared.store.Store.{Store}
use Rattle.store_reader.specs.Devices.{SomeShut}
use Rattle.storage_engine.specs.declared.fault.PrepareFault.{PrepareFault}
use Rattle.storage_engine.specs.declared.fault.PrepareFault.TheVariants as prepare
use Rattle.storage_engine.specs.Preparing.{HasPrepareCause, IsOfText, Prepares}
use Rattle.round_loop.specs.declared.run.Start.TheVariants.{Fresh}
use Rattle.round_loop.specs.Keeping.{moment}
use Rattle.store_rounds.specs.Making.{LeaveMade}
use Rattle.store_rounds.proofs.Places.{stop_of_each}
use Rattle.store_rounds.proofs.Beginning.{making_at_stop}
use Rattle.endings.specs.declared.ending.Ending.{Ending}
use Rattle.run_model.specs.Calls.{Call, IsReady, NoneFailed, IsBack}
use Rattle.run_model.specs.Causes.{HasCause, IsAnswered, IsFaultless}
use Rattle.run_model.specs.Printing.{HasPrinted, PrintsNothing}
use Rattle.run_model.specs.Epochs.{IsComplete}
use Rattle.run_model.specs.Standing.{AllShut, StandsAfter}
use Rattle.run_model.specs.Stops.{LeavesStores}
use Rattle.run_model.specs.Runs.{IsRun, MOST_BEATS}
use Rattle.text_run.specs.Refusals.{refusal}
use Rattle.text_run.proofs.Causes.{of_some, unprepared, exact}
use Rattle.run_model.proofs.Untouched.{prints_nothing, gone_none, none_of_job, none_counted}
use Rattle.text_run.proofs.Prepared.{beats, store_made, ready_made}

-- a call in which a store was begun, and no round
abbrev pub begun : {D M : Type 0} (text left out : Option (List ℕ)) (reads reads' writes : ℕ) (old new : Store D M) (meters meters' : List M) (seat : View) (number now : ℕ) → Call D M
begun text left out reads reads' writes old new meters meters' seat number now = record {
  text = text;
  text_after = left;
  read_faults = reads;
  read_faults_after = reads';
  out = out;
  out_after = out;
  write_faults = writes;
  write_faults_after = writes;
  before = moment old meters seat number;
  after = moment new meters' seat now;
}

not_complete : (limit : ℕ) (why : PrepareFault) → IsComplete (refusal limit why) → ⊥
not_complete limit (prepare.BadLine line) complete = complete
not_complete limit prepare.TooLong complete = complete
not_complete limit prepare.ReadFault complete = complete
not_complete limit prepare.DiskFault complete = complete
not_complete limit prepare.Memory complete = complete

not_answered : (limit : ℕ) (why : PrepareFault) → IsAnswered (refusal limit why) → ⊥
not_answered limit (prepare.BadLine line) answered = answered
not_answered limit prepare.TooLong answered = answered
not_answered limit prepare.ReadFault answered = answered
not_answered limit prepare.DiskFault answered = answered
not_answered limit prepare.Memory answered = answered

-- what is said of every refusal but a failed read, and of every one but a fault of a device, is said of one that is faultless
faultless_of : (limit : ℕ) (why : PrepareFault) (P Q : Type 0) → (why ≢ prepare.ReadFault → P) → (why ≢ prepare.DiskFault → Q) → IsFaultless (refusal limit why) → P × Q
faultless_of limit (prepare.BadLine line) P Q read device faultless = (read (λ is. cc), device (λ is. cc))
faultless_of limit prepare.TooLong P Q read device faultless = (read (λ is. cc), device (λ is. cc))
faultless_of limit prepare.ReadFault P Q read device faultless = absurd cc
faultless_of limit prepare.DiskFault P Q read device faultless = absurd cc
faultless_of limit prepare.Memory P Q read device faultless = absurd cc

-- what is said by each ending
module _ {D M : Type 0} (state : D → DiskState) (faults : M → ℕ) (job : Job) (call : Call D M) where
  cause_of : (why : PrepareFault) → HasPrepareCause job call.text (OneRose state call.before.store.graphs.items call.after.store.graphs.items ⊎ OneRose state call.before.store.values.items call.after.store.values.items) (Rose call.read_faults call.read_faults_after) why
      → HasCause state faults job call (refusal (text_limit job.chunk) why)
  cause_of (prepare.BadLine line) cause = of_some call.text (λ bytes. refusal_of job bytes ≡ Some (fault.BadLine line)) cause
  cause_of prepare.TooLong cause = (refl, of_some call.text (λ bytes. refusal_of job bytes ≡ Some fault.TooLong) cause)
  cause_of prepare.ReadFault cause = cause
  cause_of prepare.DiskFault (inl graphs) = inl graphs
  cause_of prepare.DiskFault (inr values) = inr (inr (inl values))
  cause_of prepare.Memory cause = tt

  printed_of : (limit : ℕ) (why : PrepareFault) → PrintsNothing state job call → HasPrinted state job call (refusal limit why)
  printed_of limit (prepare.BadLine line) nothing = nothing
  printed_of limit prepare.TooLong nothing = nothing
  printed_of limit prepare.ReadFault nothing = nothing
  printed_of limit prepare.DiskFault nothing = λ text text_is graphs tells. inl nothing
  printed_of limit prepare.Memory nothing = nothing

  stands_of : (limit : ℕ) (why : PrepareFault) → (IsOfText why → AllShut state job call.after.store) → StandsAfter state job call (refusal limit why)
  stands_of limit (prepare.BadLine line) shut = shut tt
  stands_of limit prepare.TooLong shut = shut tt
  stands_of limit prepare.ReadFault shut = shut tt
  stands_of limit prepare.DiskFault shut = tt
  stands_of limit prepare.Memory shut = tt

module _ {D M : Type 0} (state : D → DiskState) (faults : M → ℕ) (job : Job) (text left out : Option (List ℕ)) (reads reads' writes : ℕ) (old new : Store D M) (meters meters' : List M) (seat : View) (number now : ℕ) (why : PrepareFault)
    (ready : IsReady state job.engines (moment old meters seat number)) (on : MetersGoOn faults meters meters') (shut : SomeShut state old.graphs.items)
    (prepares : Prepares state job text left number now (Rose reads reads') old.graphs.items new.graphs.items old.values.items new.values.items (Err why)) (lanes : new.lanes ≡ old.lanes) (spills : new.spills ≡ old.spills)
    (still : SameCounts faults meters meters') (reads_same : ◌≢◌ {A = Result (List (List Place)) PrepareFault} (Err why) (Err prepare.ReadFault) → reads' ≡ reads) where
  abbrev call : Call D M
  call = begun text left out reads reads' writes old new meters meters' seat number now

  back : IsBack state faults job.engines MOST_BEATS call.before call.after
  back =
      let on_beat = beats state job text left number now (Rose reads reads') old new (Err why) prepares lanes spills meters seat ready in
      record {
        ready = ready_made state job text left number now (Rose reads reads') old new (Err why) prepares lanes spills meters seat ready meters' (on.many ∙ ready.meters);
        store = store_made state job text left number now (Rose reads reads') old new (Err why) prepares lanes spills meters seat ready;
        meters = on;
        beats = (on_beat.0, omega (arith, on_beat.1));
      }

  stops : LeavesStores state job call
  stops =
      let on_beat = beats state job text left number now (Rose reads reads') old new (Err why) prepares lanes spills meters seat ready in
      record {
        any_stop = λ shut_device told told_is devices tells b graphs values within stop_graphs stop_values.
            let leave : LeaveMade state job text number now old.graphs.items new.graphs.items old.values.items new.values.items = record { of_graphs = prepares.any_moment; of_values = prepares.any_moment_of_values } in
            elim (making_at_stop state job told number now b old.graphs.items new.graphs.items old.values.items new.values.items graphs values ready.graphs.all ready.values.all
            (subst (λ (x : Option (List ℕ)). LeaveMade state job x number now old.graphs.items new.graphs.items old.values.items new.values.items) told_is leave)
            (stop_of_each state b old.graphs.items new.graphs.items graphs stop_graphs) shut_device within
            (stop_of_each state b old.values.items new.values.items values stop_values)) [
              | inl unprepared_now ↦ inl unprepared_now
              | inr whole ↦
                  let read_all = of_some text (λ bytes. IsAccepted job bytes × (left ≡ Some [])) (prepares.all_read (omega (arith, on_beat.1, within, whole.0))) told told_is in
                  inr (read_all.0, read_all.1, whole.1)
            ];
        in_rounds = λ told told_is devices tells round from b graphs values within stop_graphs stop_values is. absurd (omega (arith, within, on_beat.1, is));
      }

  calm : IsFaultless (refusal (text_limit job.chunk) why) → NoneFailed state faults call
  calm faultless =
      let same = faultless_of (text_limit job.chunk) why (reads' ≡ reads) (NoneRose state old.graphs.items new.graphs.items × NoneRose state old.values.items new.values.items)
      (λ other. reads_same (λ is. other cc)) (λ other. prepares.calm (λ is. other cc)) faultless in
      record {
        reads = same.0;
        writes = refl;
        devices = (
          same.1.0,
          (
            still,
            record {
              values = same.1.1;
              lanes = subst (λ (rows : Vec (Vec D Global) Global). NoRowRose state old.lanes.items rows.items) (sym lanes) refl;
              spills = subst (λ (devices : Vec D Global). NoneRose state old.spills.items devices.items) (sym spills) refl;
            },
          ),
        );
      }

  -- **A run whose store was not made**
  refused_run : IsRun state faults job call (refusal (text_limit job.chunk) why)
  refused_run =
      let cause = cause_of state faults job call why prepares.cause in
      record {
        cause = cause;
        exact = exact state faults job call (unprepared state faults job call shut) (refusal (text_limit job.chunk) why) cause;
        calm = calm;
        printed = printed_of state faults job call (text_limit job.chunk) why (prints_nothing state job call refl);
        all_read = λ answered. absurd (not_answered (text_limit job.chunk) why answered);
        epochs = [];
        gone = gone_none job (refusal (text_limit job.chunk) why) (not_complete (text_limit job.chunk) why) seat ready.between;
        are = λ told told_is devices tells. none_of_job job (refusal (text_limit job.chunk) why) (not_complete (text_limit job.chunk) why) (edges job told) Fresh;
        counts = λ report answered told told_is. none_counted job (refusal (text_limit job.chunk) why) (not_complete (text_limit job.chunk) why) (edges job told) report answered;
        back = back;
        beats = λ report answered. absurd (not_complete (text_limit job.chunk) why (subst IsComplete (sym answered) tt));
        stands = stands_of state faults job call (text_limit job.chunk) why prepares.shut;
        stops = stops;
      }

  pub refused_as : (ending : Ending) → ending ≡ refusal (text_limit job.chunk) why → IsRun state faults job call ending
  refused_as ending is = subst (λ (e : Ending). IsRun state faults job call e) (sym is) refused_run
