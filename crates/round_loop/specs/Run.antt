-- What a run is seen to do.
use Rattle.std.specs.Prelude.{◌≡◌, ◌⊎◌, ⊤, ℕ, ◌+◌, ◌-◌, ◌<◌, ◌≤◌, None, List, length, slice_index_or, flat_map, Result, Ok, Err, IfOk, IsErr, IsErrOf}
use Rattle.std.specs.List.{All}
use Rattle.graph_model.specs.declared.edge.Edge.{Edge}
use Rattle.graph_model.specs.declared.job.Job.{Job}
use Rattle.graph_model.specs.Programs.{Rules}
use Rattle.graph_model.specs.Rounds.{IsLastRound, IsUnsettled}
use Rattle.ports.specs.Disk.{DiskState}
use Rattle.ports.specs.Stops.{LeavesByBeat}
use Rattle.ports.specs.Devices.{MetersGoOn}
use Rattle.chunk_object.specs.Epochs.{Epoch, all_calls}
use Rattle.chunk_file.specs.declared.index.Place.{Place}
use Rattle.phase_model.specs.JobTerms.{terms_of}
use Rattle.phase_model.specs.Taken.{claims, admissions}
use Rattle.store_reader.specs.declared.store.Part.{Part}
use Rattle.round_steps.specs.Epochs.{IsWhole, WholeButLast, GoesThrough}
use Rattle.round_steps.specs.Going.{IsStore, SomeRose, NoDeviceRose, IsOpenEverywhere}
use Rattle.round_steps.specs.Standing.{HaveEdges, HasEdges}
use Rattle.round_steps.specs.Damage.{IsDamage}
use Rattle.round_loop.specs.declared.run.Start.{Start}
use Rattle.round_loop.specs.declared.run.Done.{Done}
use Rattle.round_loop.specs.declared.fault.RoundFault.{RoundFault}
use Rattle.round_loop.specs.declared.fault.RoundFault.TheVariants.{RoundLimit, DiskFault, Damaged}
use Rattle.partitioner.specs.Splits.{split_for}
use Rattle.round_loop.specs.Starts.{first_made, first_sent, counts_first, epochs_to, IsLastBegun}
use Rattle.round_loop.specs.Opening.{AreEpochsOf}
use Rattle.round_loop.specs.Kept.{Left, LeftSince, StandsAfter, IsGoodStart}
use Rattle.round_loop.specs.Keeping.{Keeps, IsTold, Moment}

-- of a run that went on until no further round was to be made: to its last one, or to the limit
abbrev pub OnMade : Result Done RoundFault → Type 0 → Type 0
OnMade (Ok done) P = P
OnMade (Err RoundLimit) P = P
OnMade _ P = ⊤

module _ {D M : Type 0} (state : D → DiskState) (rules : Rules) (job : Job) (start : Start) (edges : List Edge) where
  -- **A run on a good store**, over the edges that stand there
  pub record RunsWell (old new : Moment D M) (epochs : List Epoch) (result : Result Done RoundFault) : Type 0 where
    pub are : AreEpochsOf rules job edges (counts_first rules start) (first_sent start) epochs
    -- the last round stands
    pub last : IfOk result (λ done. IsLastRound rules job.vertices edges job.limit done.round × StandsAfter rules job edges state start done.round old.store.values.items new.store.values.items)
    -- there is none within the limit, and the limit's round stands, which was made or handed in: the run has all epochs to its end
    pub unsettled : IsErrOf result RoundLimit → IsUnsettled rules job.vertices edges job.limit × (length epochs ≡ epochs_to rules start job.limit) × StandsAfter rules job edges state start job.limit old.store.values.items new.store.values.items
    pub settles : IsUnsettled rules job.vertices edges job.limit → IsErr result
    -- the round before the one in which the run has ended stands
    pub stored : (round : ℕ) → IsLastBegun rules start epochs round → StandsAfter rules job edges state start (round - 1) old.store.values.items new.store.values.items
    -- what a stop leaves
    pub any_stop : (e : ℕ) (d : D) → e < job.engines → LeavesByBeat (state (slice_index_or old.store.values.items e d)) (state (slice_index_or new.store.values.items e d))
        (λ b bytes. b ≤ new.beat → Left rules job edges old.beat (first_made start) e (state (slice_index_or old.store.values.items e d)) b bytes)
    -- the same in the beats of the run, where a stop is counted from before it
    pub since : (e : ℕ) (d : D) → e < job.engines
        → LeftSince rules job edges old.beat (first_made start) new.beat e (state (slice_index_or old.store.values.items e d)) (state (slice_index_or new.store.values.items e d))

module _ {D M : Type 0} (state : D → DiskState) (faults : M → ℕ) (rules : Rules) (job : Job) (start : Start) (index : List (List Place)) where
  -- the round was handed in, or it was made and stands in an open slot of every engine
  abbrev pub HasComeTo : (round : ℕ) → (new : Moment D M) → Type 0
  HasComeTo round new = (round + 1 ≡ first_made start) ⊎ ((first_made start ≤ round) × IsOpenEverywhere state (split_for job) round new.store.values.items)

  -- **A run, whatever it is handed and whatever it answers**
  pub record HasRun (old new : Moment D M) (result : Result Done RoundFault) : Type 0 where
    -- all is in its place
    pub store : IsStore state (split_for job) new.beat new.store
    pub keeps : Keeps state old.store new.store
    pub meters : MetersGoOn faults old.meters new.meters
    pub rose : IsErrOf result DiskFault → SomeRose state faults old.store new.store old.meters new.meters
    pub calm : OnMade result (NoDeviceRose state old.store new.store)
    pub beats : (old.beat ≤ new.beat) × (new.beat ≤ old.beat + 1000002)
    -- the seat went through epochs of the job
    pub epochs : List Epoch
    pub through : GoesThrough (terms_of job) old.seat new.seat (claims (flat_map all_calls epochs)) (admissions (flat_map all_calls epochs)) epochs
    pub fronts : WholeButLast (terms_of job) epochs
    -- a run that came to its end: all epochs are whole, and its numbers are theirs
    pub done : IfOk result (λ done. All (IsWhole (terms_of job)) epochs × (length epochs ≡ epochs_to rules start done.round) × (new.beat + first_made start ≡ old.beat + 1 + done.round))
    pub counts : IfOk result (λ done. (done.claims ≡ claims (flat_map all_calls epochs)) × (done.admitted ≡ admissions (flat_map all_calls epochs)))
    -- a run that came to the limit: the last round that was made or handed in is not below it
    pub limited : IsErrOf result RoundLimit → All (IsWhole (terms_of job)) epochs × (rules.rounds ≡ None) × (old.beat + 1 + job.limit ≤ new.beat + first_made start)
    pub at_limit : IsErrOf result RoundLimit → (round : ℕ) × (job.limit ≤ round) × HasComeTo round new
    -- devices that tell are not damaged
    pub sound : (records : ℕ → ℕ → List Edge) → HaveEdges state job (split_for job) index old.store.graphs.items records → IsTold state old.store
        → (part : Part) (engine place : ℕ) → ¬ (IsErrOf result (Damaged part engine place))
    -- on any devices: the damage that is named is that of a chunk of the index, or of updates on a lane, that was refused
    pub damaged : (part : Part) (engine place : ℕ) → IsErrOf result (Damaged part engine place) → IsDamage state job (split_for job) index old.store.graphs.items new.store.lanes.items part engine place
    pub well : (edges : List Edge) → HasEdges state job (split_for job) index old.store.graphs.items edges → IsTold state old.store → IsGoodStart rules job edges state start old.store.values.items
        → RunsWell state rules job start edges old new epochs result
