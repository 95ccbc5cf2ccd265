-- **What a resume promises**: the rounds of the job that stands on the devices, from the round that they keep.
use Rattle.std.specs.Prelude.{◌≡◌, ◌⊎◌, ⊤, ℕ, ◌≤◌, List, [], true, map, length}
use Rattle.ports.specs.Disk.{DiskState}
use Rattle.ports.specs.Faults.{Rose}
use Rattle.ports.specs.Stops.{AreImages}
use Rattle.graph_model.specs.declared.edge.Edge.{Edge}
use Rattle.graph_model.specs.declared.job.Job.{Job}
use Rattle.graph_model.specs.Programs.{rules_of}
use Rattle.graph_model.specs.Rounds.{IsLastRound}
use Rattle.graph_model.specs.Answer.{NeverSettles}
use Rattle.chunk_object.specs.Epochs.{Epoch}
use Rattle.store_model.specs.Damage as damage
use Rattle.store_model.specs.Damage.{HasFault, head_of, own_in}
use Rattle.store_model.specs.Kept.{IsWholeStore, StoreOf, IsEverywhere, IsKeptRound, IsFresh}
use Rattle.store_checks.specs.Causes.{Tell}
use Rattle.store_checks.specs.Rounds.{StandsEverywhere}
use Rattle.store_reader.specs.declared.store.Part.{Part}
use Rattle.store_reader.specs.declared.store.Part.TheVariants.{Graph, Values}
use Rattle.restart.specs.declared.recovering.Recovered.{Recovered}
use Rattle.restart.specs.Recovering.{job_in, index_in, IsRecovered}
use Rattle.restart.specs.Storable.{IsStorable}
use Rattle.restart.specs.Resuming.{changed_of_all}
use Rattle.round_steps.specs.Going.{IsOpenEverywhere}
use Rattle.round_steps.specs.Damage.{IsDamage}
use Rattle.partitioner.specs.Splits.{split_for}
use Rattle.round_loop.specs.Keeping.{IsTold}
use Rattle.round_loop.specs.declared.run.Start.{Start}
use Rattle.round_loop.specs.declared.run.Start.TheVariants.{Fresh, At}
use Rattle.endings.specs.declared.ending.Report.{Report}
use Rattle.store_rounds.specs.Printed.{AnswerPrinted, FrontPrinted}
use Rattle.endings.specs.declared.ending.Ending.{Ending}
use Rattle.endings.specs.declared.ending.Ending.TheVariants.{Answered, Dropped, Usage, BadLine, DiskFault, RoundLimit, Memory, ReadFault, WriteFault, NotPrepared, EnginesDiffer, Damaged, TooLong, StoreHolds}
use Rattle.run_model.specs.Telling.{CountsChunks}
use Rattle.run_model.specs.Calls.{Call, AnyRose, NoneFailed, IsBack}
use Rattle.run_model.specs.Causes.{is_interrupted, IsAnswered, IsFaultless, Comes}
use Rattle.run_model.specs.Printing.{Prints}
use Rattle.run_model.specs.Epochs.{IsComplete, HasGone, AreJobEpochs}
use Rattle.run_model.specs.Standing.{IsStored}
use Rattle.run_model.specs.Stops.{AtEachStop}
use Rattle.run_model.specs.Runs.{MOST_BEATS}

-- how it is told that a check of the store has failed
abbrev pub told_as : damage.Fault → Ending
told_as damage.NotPrepared = NotPrepared
told_as (damage.EnginesDiffer held asked) = EnginesDiffer held asked
told_as (damage.GraphDamaged engine at) = Damaged Graph engine at
told_as (damage.ValuesDamaged engine at) = Damaged Values engine at

-- the kept round of a whole store, from which a run goes on, or the beginning where there is none
abbrev pub IsStartOf : Job → List Edge → (values : List (List ℕ)) → Start → Type 0
IsStartOf job edges values Fresh = IsFresh job edges values
IsStartOf job edges values (At round changed) = IsKeptRound job edges values round × (changed ≡ changed_of_all job edges round)

module _ {D M : Type 0} (state : D → DiskState) (faults : M → ℕ) (call : Call D M) where
  -- of what the graph devices and the values devices tell, where all devices tell their bytes
  abbrev pub OfBytes : ((graphs values : List (List ℕ)) → Type 0) → Type 0
  OfBytes P = (graphs values : List (List ℕ)) → Tell state call.before.store.graphs.items graphs → Tell state call.before.store.values.items values
      → IsTold state call.before.store → P graphs values

  -- each device of the store has one image
  abbrev pub AreSettled : (graphs values : List (List ℕ)) → Type 0
  AreSettled graphs values = ((images : List (List ℕ)) → AreImages (map state call.before.store.graphs.items) images → images ≡ graphs)
      × ((images : List (List ℕ)) → AreImages (map state call.before.store.values.items) images → images ≡ values)

  -- a check of the store has failed that is told so
  abbrev pub IsFound : Ending → Type 0
  IsFound ending = OfBytes (λ graphs values. (fault : damage.Fault) × HasFault graphs values fault × (ending ≡ told_as fault))

  -- **Why a resume ends so**
  abbrev pub HasResumeCause : Ending → Type 0
  HasResumeCause (Answered report) = ⊤
  HasResumeCause (RoundLimit limit) = ⊤
  HasResumeCause Memory = ⊤
  HasResumeCause DiskFault = AnyRose state faults call.before call.after
  HasResumeCause WriteFault = Rose call.write_faults call.write_faults_after
  HasResumeCause NotPrepared = IsFound NotPrepared
  HasResumeCause (EnginesDiffer held asked) = IsFound (EnginesDiffer held asked)
  HasResumeCause (Damaged part engine place) = IsFound (Damaged part engine place)
  HasResumeCause Dropped = ⊥
  HasResumeCause Usage = ⊥
  HasResumeCause (BadLine line) = ⊥
  HasResumeCause ReadFault = ⊥
  HasResumeCause (TooLong limit) = ⊥
  HasResumeCause StoreHolds = ⊥

  -- of what the graph devices and the values devices tell, whatever the others do
  abbrev pub OfChecked : ((graphs values : List (List ℕ)) → Type 0) → Type 0
  OfChecked P = (graphs values : List (List ℕ)) → Tell state call.before.store.graphs.items graphs → Tell state call.before.store.values.items values → P graphs values

  -- **Damage that a check of the store has found**: nothing was done to the store, no call failed, and where those tell their bytes it is the first check that fails
  pub record IsDamageInChecks (part : Part) (engine place : ℕ) : Type 0 where
    pub untouched : call.after.store ≡ call.before.store
    pub calm : NoneFailed state faults call
    pub fails : OfChecked (λ graphs values. (fault : damage.Fault) × HasFault graphs values fault × (Damaged part engine place ≡ told_as fault))

  -- **Damage in the rounds** of a job that was recovered: a chunk that the recovered index names is refused, or one of updates
  pub record IsDamageInRounds (job : Job) (part : Part) (engine place : ℕ) : Type 0 where
    pub found : Recovered
    pub job_is : job_in found ≡ job
    pub engines : job.engines ≡ length call.before.store.graphs.items
    pub recovered : OfChecked (λ graphs values. IsRecovered graphs values found)
    pub refused : IsDamage state job (split_for job) (index_in found) call.before.store.graphs.items call.after.store.lanes.items part engine place

  -- where a resume ends by damage, it is one or the other
  abbrev pub HasDamage : Job → Ending → Type 0
  HasDamage job (Damaged part engine place) = IsDamageInChecks part engine place ⊎ IsDamageInRounds job part engine place
  HasDamage job _ = ⊤

  -- the limit is the job's, and a round of at least the limit stands in an open slot of every engine: it stood there, or was made
  pub record IsAtLimit (job : Job) (limit : ℕ) : Type 0 where
    pub of_job : limit ≡ job.limit
    pub round : ℕ
    pub reached : limit ≤ round
    pub stands : OfBytes (λ graphs values. StandsEverywhere (own_in (head_of graphs 0)) values round) ⊎ IsOpenEverywhere state (split_for job) round call.after.store.values.items

  -- nothing was printed but where the rounds were made to their last
  abbrev pub HasPrintedNothing : Ending → Type 0
  HasPrintedNothing (Answered report) = ⊤
  HasPrintedNothing WriteFault = ⊤
  HasPrintedNothing DiskFault = ⊤
  HasPrintedNothing _ = Prints call.out call.out_after []

  -- a refusal leaves all devices as they were
  abbrev pub HasRefused : Ending → Type 0
  HasRefused NotPrepared = call.after.store ≡ call.before.store
  HasRefused (EnginesDiffer held asked) = call.after.store ≡ call.before.store
  HasRefused (Damaged part engine place) = OfBytes (λ graphs values. call.after.store ≡ call.before.store)
  HasRefused _ = ⊤

  module _ (job : Job) (edges : List Edge) where
    -- why a resume of a whole store of the job ends so, and what it has printed
    abbrev pub HasCauseOfJob : Ending → Type 0
    HasCauseOfJob (Answered report) = (¬ (NeverSettles job edges)) × AnswerPrinted job edges call.out call.out_after
    HasCauseOfJob (RoundLimit limit) = (limit ≡ job.limit) × NeverSettles job edges
    HasCauseOfJob WriteFault = FrontPrinted job edges call.out call.out_after
    HasCauseOfJob DiskFault = Prints call.out call.out_after [] ⊎ FrontPrinted job edges call.out call.out_after
    HasCauseOfJob NotPrepared = ⊥
    HasCauseOfJob (EnginesDiffer held asked) = ⊥
    HasCauseOfJob (Damaged part engine place) = ⊥
    HasCauseOfJob _ = ⊤

    -- what stands after a resume of a settled store of the job
    abbrev pub StandsAfterResume : Ending → Type 0
    StandsAfterResume (Answered report) = IsStored state job edges report.rounds call.after.store
    StandsAfterResume WriteFault = (last : ℕ) × IsLastRound (rules_of job.program) job.vertices edges job.limit last × IsStored state job edges last call.after.store
    StandsAfterResume (RoundLimit limit) = IsStored state job edges limit call.after.store
    StandsAfterResume _ = ⊤

    -- **A resume of a whole store of the job**
    pub record GoesOnWell (graphs values : List (List ℕ)) (ending : Ending) (epochs : List Epoch) : Type 0 where
      pub cause : HasCauseOfJob ending
      pub unsettled : NeverSettles job edges → Comes (RoundLimit job.limit) ending
      pub settled : ¬ (NeverSettles job edges) → IsAnswered ending ⊎ (is_interrupted ending ≡ true)
      pub gone : HasGone job call.before.seat call.after.seat ending epochs
      -- from the start that the store has, which is only one and was found where the rounds were made to their end
      pub found : IsComplete ending → (start : Start) × IsStartOf job edges values start
      pub are : (start : Start) → IsStartOf job edges values start → AreJobEpochs job edges start ending epochs
      pub counts : (report : Report) → ending ≡ Answered report → CountsChunks job edges report
      pub stands : AreSettled graphs values → StandsAfterResume ending
      -- no stop loses the round that was found
      pub kept : AreSettled graphs values → (round : ℕ) → IsKeptRound job edges values round
          → AtEachStop state call (λ b stopped_graphs stopped. (later : ℕ) × (round ≤ later) × IsEverywhere job edges stopped later)

  -- **A resume**: it ends with a cause; each check that fails is answered, the first of them; unless it was interrupted, or
  -- met damage in its rounds, no call failed; of a whole store of a job it makes the job's rounds and prints its answer; all
  -- is in its place; no graph device is touched; and what stops leave of a store of a job is one of that job.
  pub record IsResume (engines : ℕ) (ending : Ending) : Type 0 where
    pub cause : HasResumeCause ending
    pub exact : OfBytes (λ graphs values. (fault : damage.Fault) → HasFault graphs values fault → Comes (told_as fault) ending)
    pub calm : IsFaultless ending → NoneFailed state faults call
    pub printed : HasPrintedNothing ending
    pub unread : call.text_after ≡ call.text
    pub no_reads : call.read_faults_after ≡ call.read_faults
    pub epochs : List Epoch
    pub job : Job
    pub gone : HasGone job call.before.seat call.after.seat ending epochs
    pub limited : (limit : ℕ) → ending ≡ RoundLimit limit → IsAtLimit job limit
    pub damaged : HasDamage job ending
    pub back : IsBack state faults engines MOST_BEATS call.before call.after
    pub graphs : call.after.store.graphs ≡ call.before.store.graphs
    pub refused : HasRefused ending
    pub of_job : (job : Job) (edges : List Edge) → IsStorable job edges → OfBytes (λ graphs values. IsWholeStore job edges graphs values → GoesOnWell job edges graphs values ending epochs)
    pub stops : (job : Job) (edges : List Edge) → IsStorable job edges → OfBytes (λ told_graphs told_values.
        ((graphs values : List (List ℕ)) → AreImages (map state call.before.store.graphs.items) graphs → AreImages (map state call.before.store.values.items) values → StoreOf job edges graphs values)
        → AtEachStop state call (λ b graphs values. StoreOf job edges graphs values))
