-- A resume that made no round: the store was not recovered, or there was no memory.
use Rattle.std.proofs.Common.{◌≡◌, ◌≢◌, ◌∙◌, inl, inr, ℕ, List, [], true, refl, sym, ap, subst, arith}
use Rattle.ports.specs.Disk.{DiskState, IsDisk}
use Rattle.ports.specs.Devices.{MetersGoOn, AreDevices, AreRows, OneCountRose}
use Rattle.graph_model.specs.declared.edge.Edge.{Edge}
use Rattle.graph_model.specs.declared.job.Job.{Job}
use Rattle.graph_model.specs.declared.job.Program.TheVariants.{Labels}
use Rattle.store_model.specs.Damage as damage
use Rattle.store_model.specs.Damage.{HasFault}
use Rattle.store_model.specs.Kept.{IsWholeStore, StoreOf, IsEverywhere}
use Rattle.store_reader.specs.declared.store.Part.TheVariants.{Graph, Values, Lane}
use Rattle.store_reader.specs.declared.store.Store.{Store}
use Rattle.store_checks.specs.Causes.{Tell, HasRecoverCause}
use Rattle.store_checks.specs.declared.fault.RecoverFault.{RecoverFault}
use Rattle.store_checks.specs.declared.fault.RecoverFault.TheVariants as recover
use Rattle.restart.specs.Resuming as restart
use Rattle.restart.specs.Storable.{IsStorable}
use Rattle.restart.proofs.OneFault.{one_fault}
use Rattle.epoch_seats.specs.Between.{IsBetweenEpochs}
use Rattle.store_rounds.proofs.Places.{same_stop}
use Rattle.store_rounds.proofs.Stores.{whole_open}
use Rattle.endings.specs.declared.ending.Ending.{Ending}
use Rattle.endings.specs.declared.ending.Ending.TheVariants.{Memory, DiskFault}
use Rattle.run_model.specs.Calls.{Call, IsReady, StoreGoesOn, NoneFailed, IsBack}
use Rattle.run_model.specs.Causes.{is_interrupted, IsFaultless, Comes}
use Rattle.run_model.specs.Printing.{Prints}
use Rattle.run_model.specs.Epochs.{IsComplete, HasGone}
use Rattle.run_model.specs.Runs.{MOST_BEATS}
use Rattle.store_resume.specs.Resumes.{told_as, OfBytes, HasResumeCause, HasDamage, HasPrintedNothing, HasRefused, HasCauseOfJob, StandsAfterResume, GoesOnWell, IsResume}
use Rattle.run_model.proofs.Going.{store_same}
use Rattle.run_model.proofs.Untouched.{prints_none, gone_none, none_of_job, none_counted}
use Rattle.store_resume.specs.Refusals.{refusal}

-- some job, of which no epoch was opened
some_job : Job
some_job = record { program = Labels; vertices = 0; engines = 1; most = 1; chunk = 1; seed = 0; alpha = 0; limit = 1; format = 2; keep = 1 }

not_complete : (why : RecoverFault) → IsComplete (refusal why) → ⊥
not_complete recover.NotPrepared complete = complete
not_complete (recover.EnginesDiffer held asked) complete = complete
not_complete (recover.Damaged part engine place) complete = complete
not_complete recover.DiskFault complete = complete
not_complete recover.Memory complete = complete

-- a cause, by a count that is one of several
pub cause_among : (one several : Type 0) (IsFound : damage.Fault → Type 0) (why : RecoverFault) → (one → several) → HasRecoverCause one IsFound why → HasRecoverCause several IsFound why
cause_among one several IsFound recover.NotPrepared among cause = cause
cause_among one several IsFound (recover.EnginesDiffer held asked) among cause = cause
cause_among one several IsFound (recover.Damaged Graph engine place) among cause = cause
cause_among one several IsFound (recover.Damaged Values engine place) among cause = cause
cause_among one several IsFound (recover.Damaged Lane engine place) among cause = cause
cause_among one several IsFound recover.DiskFault among cause = among cause
cause_among one several IsFound recover.Memory among cause = cause

module _ {D M : Type 0} (state : D → DiskState) (lawful : (d : D) → IsDisk (state d)) (faults : M → ℕ) (call : Call D M) (engines : ℕ) (ready : IsReady state engines call.before) (on : MetersGoOn faults call.before.meters call.after.meters)
    (unread : call.text_after ≡ call.text) (no_reads : call.read_faults_after ≡ call.read_faults) (unprinted : call.out_after ≡ call.out) (same_store : call.after.store ≡ call.before.store) (same_seat : call.after.seat ≡ call.before.seat) (same_beat : call.after.beat ≡ call.before.beat) where
  at_end : (P : Store D M → ℕ → Type 0) → P call.before.store call.before.beat → P call.after.store call.after.beat
  at_end P p = subst (λ (store : Store D M). P store call.after.beat) (sym same_store) (subst (P call.before.store) (sym same_beat) p)

  back : IsBack state faults engines MOST_BEATS call.before call.after
  back = record {
    ready = record {
      graphs = at_end (λ store beat. AreDevices state engines beat store.graphs.items) ready.graphs;
      values = at_end (λ store beat. AreDevices state engines beat store.values.items) ready.values;
      lanes = at_end (λ store beat. AreRows state engines beat store.lanes.items) ready.lanes;
      spills = at_end (λ store beat. AreDevices state engines beat store.spills.items) ready.spills;
      meters = on.many ∙ ready.meters;
      between = subst IsBetweenEpochs (sym same_seat) ready.between;
    };
    store = subst (λ (store : Store D M). StoreGoesOn state call.before.store store) (sym same_store) (store_same state call.before.store);
    meters = on;
    beats = (omega (arith, same_beat), omega (arith, same_beat));
  }

  gone : (job : Job) (ending : Ending) → (IsComplete ending → ⊥) → HasGone job call.before.seat call.after.seat ending []
  gone job ending none = subst (λ seat. HasGone job call.before.seat seat ending []) (sym same_seat) (gone_none job ending none call.before.seat ready.between)

  -- the fault is found where the devices tell their bytes
  abbrev IsThere : damage.Fault → Type 0
  IsThere fault = (graphs values : List (List ℕ)) → Tell state call.before.store.graphs.items graphs → Tell state call.before.store.values.items values → HasFault graphs values fault

  abbrev HasFound : RecoverFault → Type 0
  HasFound why = HasRecoverCause (OneCountRose faults call.before.meters call.after.meters) IsThere why

  cause_of : (why : RecoverFault) → HasFound why → HasResumeCause state faults call (refusal why)
  cause_of recover.NotPrepared found = λ graphs values tell_graphs tell_values others. (damage.NotPrepared, found graphs values tell_graphs tell_values, refl)
  cause_of (recover.EnginesDiffer held asked) found = λ graphs values tell_graphs tell_values others. (damage.EnginesDiffer held asked, found graphs values tell_graphs tell_values, refl)
  cause_of (recover.Damaged Graph engine place) found = λ graphs values tell_graphs tell_values others. (damage.GraphDamaged engine place, found graphs values tell_graphs tell_values, refl)
  cause_of (recover.Damaged Values engine place) found = λ graphs values tell_graphs tell_values others. (damage.ValuesDamaged engine place, found graphs values tell_graphs tell_values, refl)
  cause_of (recover.Damaged Lane engine place) found = absurd found
  cause_of recover.DiskFault found = inr (inl found)
  cause_of recover.Memory found = tt

  -- no call failed, but where a fault of a device is told
  abbrev pub IsCalm : RecoverFault → Type 0
  IsCalm why = why ≢ recover.DiskFault → NoneFailed state faults call

  calm_of : (why : RecoverFault) → IsCalm why → IsFaultless (refusal why) → NoneFailed state faults call
  calm_of recover.NotPrepared calm faultless = calm (λ is. cc)
  calm_of (recover.EnginesDiffer held asked) calm faultless = calm (λ is. cc)
  calm_of (recover.Damaged part engine place) calm faultless = calm (λ is. cc)
  calm_of recover.DiskFault calm faultless = absurd cc
  calm_of recover.Memory calm faultless = calm (λ is. cc)

  damage_of : (given : Job) (why : RecoverFault) → HasFound why → IsCalm why → HasDamage state faults call given (refusal why)
  damage_of given recover.NotPrepared found calm = tt
  damage_of given (recover.EnginesDiffer held asked) found calm = tt
  damage_of given (recover.Damaged Graph engine place) found calm = inl (record { untouched = same_store; calm = calm (λ is. cc); fails = λ graphs values tell_graphs tell_values. (damage.GraphDamaged engine place, found graphs values tell_graphs tell_values, refl) })
  damage_of given (recover.Damaged Values engine place) found calm = inl (record { untouched = same_store; calm = calm (λ is. cc); fails = λ graphs values tell_graphs tell_values. (damage.ValuesDamaged engine place, found graphs values tell_graphs tell_values, refl) })
  damage_of given (recover.Damaged Lane engine place) found calm = absurd found
  damage_of given recover.DiskFault found calm = tt
  damage_of given recover.Memory found calm = tt

  -- the first check that fails is answered
  first_is : (ending : Ending) (found : damage.Fault) → ending ≡ told_as found → IsThere found → OfBytes state faults call (λ graphs values. (fault : damage.Fault) → HasFault graphs values fault → Comes (told_as fault) ending)
  first_is ending found is there graphs values tell_graphs tell_values others fault has =
      inl (is ∙ ap told_as (one_fault graphs values found fault (there graphs values tell_graphs tell_values) has))

  exact_of : (why : RecoverFault) → HasFound why → OfBytes state faults call (λ graphs values. (fault : damage.Fault) → HasFault graphs values fault → Comes (told_as fault) (refusal why))
  exact_of recover.NotPrepared found = first_is (refusal recover.NotPrepared) damage.NotPrepared refl found
  exact_of (recover.EnginesDiffer held asked) found = first_is (refusal (recover.EnginesDiffer held asked)) (damage.EnginesDiffer held asked) refl found
  exact_of (recover.Damaged Graph engine place) found = first_is (refusal (recover.Damaged Graph engine place)) (damage.GraphDamaged engine place) refl found
  exact_of (recover.Damaged Values engine place) found = first_is (refusal (recover.Damaged Values engine place)) (damage.ValuesDamaged engine place) refl found
  exact_of (recover.Damaged Lane engine place) found = absurd found
  exact_of recover.DiskFault found = λ graphs values tell_graphs tell_values others fault has. inr refl
  exact_of recover.Memory found = λ graphs values tell_graphs tell_values others fault has. inr refl

  nothing : Prints call.out call.out_after []
  nothing = prints_none call.out call.out_after unprinted

  printed_of : (why : RecoverFault) → HasPrintedNothing state faults call (refusal why)
  printed_of recover.NotPrepared = nothing
  printed_of (recover.EnginesDiffer held asked) = nothing
  printed_of (recover.Damaged part engine place) = nothing
  printed_of recover.DiskFault = tt
  printed_of recover.Memory = nothing

  refused_of : (why : RecoverFault) → HasRefused state faults call (refusal why)
  refused_of recover.NotPrepared = same_store
  refused_of (recover.EnginesDiffer held asked) = same_store
  refused_of (recover.Damaged part engine place) = λ graphs values tell_graphs tell_values others. same_store
  refused_of recover.DiskFault = tt
  refused_of recover.Memory = tt

  -- of a whole store of a job
  module _ (job : Job) (edges : List Edge) (graphs values : List (List ℕ)) (whole : IsWholeStore job edges graphs values) where
    interrupted : (ending : Ending) → (IsComplete ending → ⊥) → is_interrupted ending ≡ true → HasCauseOfJob state faults call job edges ending → StandsAfterResume state faults call job edges ending
        → GoesOnWell state faults call job edges graphs values ending []
    interrupted ending none is cause stands = record {
      cause = cause;
      unsettled = λ never. inr is;
      settled = λ settles. inr is;
      gone = gone job ending none;
      found = λ complete. absurd (none complete);
      are = λ start is_start. none_of_job job ending none edges start;
      counts = none_counted job ending none edges;
      stands = λ settled. stands;
      kept = λ settled round kept b stopped_graphs stopped within stop_graphs stop_values.
          (round, omega arith, subst (λ images. IsEverywhere job edges images round) (sym (settled.1 stopped (same_stop state lawful b call.before.store.values.items call.after.store.values.items stopped (ap (λ (store : Store D M). store.values.items) same_store) stop_values))) kept.everywhere);
    }

    well_of : (why : RecoverFault) → restart.HasCauseOfJob graphs why → GoesOnWell state faults call job edges graphs values (refusal why) []
    well_of recover.NotPrepared shut = absurd (shut.2 (whole_open job edges graphs values whole shut.0 shut.1))
    well_of (recover.EnginesDiffer held asked) none = absurd none
    well_of (recover.Damaged part engine place) none = absurd none
    well_of recover.DiskFault free = interrupted DiskFault (λ complete. complete) refl (inl nothing) tt
    well_of recover.Memory free = interrupted Memory (λ complete. complete) refl tt tt

  -- **The store was not recovered.**
  pub refused_resume : (why : RecoverFault) → HasFound why → IsCalm why
      → ((job : Job) (edges : List Edge) (graphs values : List (List ℕ)) → IsStorable job edges → StoreOf job edges graphs values → Tell state call.before.store.graphs.items graphs → Tell state call.before.store.values.items values → restart.HasCauseOfJob graphs why)
      → IsResume state faults call engines (refusal why)
  refused_resume why found calm of_job = record {
    cause = cause_of why found;
    exact = exact_of why found;
    calm = calm_of why calm;
    printed = printed_of why;
    unread = unread;
    no_reads = no_reads;
    epochs = [];
    job = some_job;
    gone = gone some_job (refusal why) (not_complete why);
    limited = λ limit is. absurd (not_complete why (subst IsComplete (sym is) tt));
    damaged = damage_of some_job why found calm;
    back = back;
    graphs = ap (λ (store : Store D M). store.graphs) same_store;
    refused = refused_of why;
    of_job = λ job edges storable graphs values tell_graphs tell_values others whole. well_of job edges graphs values whole why (of_job job edges graphs values storable (inr whole) tell_graphs tell_values);
    stops = λ job edges storable told_graphs told_values tell_graphs tell_values others stores b graphs values within stop_graphs stop_values.
        stores graphs values
        (same_stop state lawful b call.before.store.graphs.items call.after.store.graphs.items graphs (ap (λ (store : Store D M). store.graphs.items) same_store) stop_graphs)
        (same_stop state lawful b call.before.store.values.items call.after.store.values.items values (ap (λ (store : Store D M). store.values.items) same_store) stop_values);
  }
