-- Runs that end before the store is touched.
use Rattle.std.proofs.Common.{◌∙◌, inl, inr, ℕ, List, [], Option, refl, sym, subst, arith}
use Rattle.std.specs.List.{All}
use Rattle.ports.specs.Disk.{DiskState, IsDisk}
use Rattle.ports.specs.Devices.{MetersGoOn, OneCountRose, SameCounts}
use Rattle.graph_model.specs.declared.job.Job.{Job}
use Rattle.graph_model.specs.Answer.{edges}
use Rattle.store_reader.specs.declared.store.Store.{Store}
use Rattle.store_reader.specs.Devices.{IsOpenDevice}
use Rattle.chunk_cursor.specs.declared.view.View.{View}
use Rattle.round_loop.specs.declared.run.Start.TheVariants.{Fresh}
use Rattle.round_loop.specs.Keeping.{moment}
use Rattle.endings.specs.declared.ending.Ending.{Ending}
use Rattle.endings.specs.declared.ending.Ending.TheVariants.{DiskFault, Memory, StoreHolds}
use Rattle.run_model.specs.Calls.{Call, IsReady, NoneFailed, IsBack}
use Rattle.run_model.specs.Causes.{HasCause, IsExact, IsAnswered, IsFaultless}
use Rattle.run_model.specs.Printing.{HasPrinted}
use Rattle.run_model.specs.Epochs.{IsComplete}
use Rattle.run_model.specs.Standing.{StandsAfter}
use Rattle.run_model.specs.Runs.{IsRun, MOST_BEATS}
use Rattle.run_model.proofs.Going.{store_same}
use Rattle.text_run.proofs.Causes.{prepared, exact_held, exact_interrupted}
use Rattle.run_model.proofs.Untouched.{prints_nothing, gone_none, none_of_job, none_counted}
use Rattle.text_run.proofs.Untouched.{leaves_untouched}

-- a call that has touched nothing but the meters
abbrev pub untouched : {D M : Type 0} (text out : Option (List ℕ)) (reads writes : ℕ) (store : Store D M) (meters meters' : List M) (seat : View) (beat : ℕ) → Call D M
untouched text out reads writes store meters meters' seat beat = record {
  text = text;
  text_after = text;
  read_faults = reads;
  read_faults_after = reads;
  out = out;
  out_after = out;
  write_faults = writes;
  write_faults_after = writes;
  before = moment store meters seat beat;
  after = moment store meters' seat beat;
}

module _ {D M : Type 0} (state : D → DiskState) (lawful : (d : D) → IsDisk (state d)) (faults : M → ℕ) (job : Job) (text out : Option (List ℕ)) (reads writes : ℕ) (store : Store D M) (meters meters' : List M) (seat : View) (beat : ℕ)
    (ready : IsReady state job.engines (moment store meters seat beat)) (on : MetersGoOn faults meters meters') where
  abbrev call : Call D M
  call = untouched text out reads writes store meters meters' seat beat

  back : IsBack state faults job.engines MOST_BEATS (moment store meters seat beat) (moment store meters' seat beat)
  back = record {
    ready = record {
      graphs = ready.graphs;
      values = ready.values;
      lanes = ready.lanes;
      spills = ready.spills;
      meters = on.many ∙ ready.meters;
      between = ready.between;
    };
    store = store_same state store;
    meters = on;
    beats = (omega arith, omega arith);
  }

  run : (ending : Ending) → (IsComplete ending → ⊥) → (IsAnswered ending → ⊥) → HasCause state faults job call ending → IsExact state faults job call ending → (IsFaultless ending → NoneFailed state faults call)
      → HasPrinted state job call ending → StandsAfter state job call ending
      → IsRun state faults job call ending
  run ending not_complete not_answered cause exact calm printed stands = record {
    cause = cause;
    exact = exact;
    calm = calm;
    printed = printed;
    all_read = λ answered. absurd (not_answered answered);
    epochs = [];
    gone = gone_none job ending not_complete seat ready.between;
    are = λ text text_is graphs tells. none_of_job job ending not_complete (edges job text) Fresh;
    counts = λ report answered text text_is. none_counted job ending not_complete (edges job text) report answered;
    back = back;
    beats = λ report answered. absurd (not_complete (subst IsComplete (sym answered) tt));
    stands = stands;
    stops = leaves_untouched state lawful job call ready.graphs.all refl refl;
  }

  -- **The store holds a job.**
  pub held : All (λ disk. IsOpenDevice (state disk)) store.graphs.items → SameCounts faults meters meters' → IsRun state faults job call StoreHolds
  held are still =
      let open_now = prepared state faults job call are in
      run StoreHolds (λ c. c) (λ c. c) open_now (exact_held state faults job call open_now)
      (λ faultless. record { reads = refl; writes = refl; devices = (refl, (still, record { values = refl; lanes = refl; spills = refl })) })
      (prints_nothing state job call refl) refl

  -- **A read of a graph device's gate failed.**
  pub unread : OneCountRose faults meters meters' → IsRun state faults job call DiskFault
  unread rose = run DiskFault (λ c. c) (λ c. c) (inr (inl rose)) (exact_interrupted state faults job call DiskFault refl) (λ faultless. absurd cc)
      (λ told told_is graphs tells. inl (prints_nothing state job call refl)) tt

  -- **There was no memory.**
  pub no_room : IsRun state faults job call Memory
  no_room = run Memory (λ c. c) (λ c. c) tt (exact_interrupted state faults job call Memory refl) (λ faultless. absurd cc)
      (prints_nothing state job call refl) tt
