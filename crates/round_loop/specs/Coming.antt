-- A run in its course.
use Rattle.std.specs.Prelude.{◌≡◌, ◌≢◌, ◌⊎◌, ℕ, ◌+◌, ◌-◌, ◌*◌, ◌<◌, ◌≤◌, Option, None, Some, List, length, slice_index_or}
use Rattle.std.specs.List.{All}
use Rattle.graph_model.specs.declared.edge.Edge.{Edge}
use Rattle.graph_model.specs.declared.job.Job.{Job}
use Rattle.graph_model.specs.Programs.{Rules}
use Rattle.ports.specs.Disk.{DiskState}
use Rattle.ports.specs.Stops.{LeavesByBeat}
use Rattle.ports.specs.Devices.{MetersGoOn}
use Rattle.chunk_object.specs.Epochs.{Epoch}
use Rattle.chunk_file.specs.declared.index.Place.{Place}
use Rattle.phase_model.specs.JobTerms.{terms_of}
use Rattle.round_steps.specs.Epochs.{IsWhole, WholeButLast, HasFewChunks, GoesThrough}
use Rattle.round_steps.specs.Going.{IsStore, NoCountRose, IsOpenEverywhere}
use Rattle.round_steps.specs.Standing.{HasEdges}
use Rattle.round_loop.specs.declared.run.Start.{Start}
use Rattle.round_loop.specs.declared.course.Progress.{Progress}
use Rattle.partitioner.specs.Splits.{split_for}
use Rattle.round_loop.specs.Starts.{first_made, first_sent, counts_first, epochs_to, IsDue}
use Rattle.round_loop.specs.Opening.{AreEpochsOf}
use Rattle.round_loop.specs.Kept.{changed_in, Left, LeftSince, StandsAfter, IsGoodStart}
use Rattle.round_loop.specs.Keeping.{Keeps, IsTold, Moment}

-- a further round is to be made
pub record GoesOn (rules : Rules) (limit round changed : ℕ) : Type 0 where
  pub fixed : (last : ℕ) → rules.rounds ≡ Some last → round < last
  pub within : rules.rounds ≡ None → round < limit
  pub unsettled : rules.rounds ≡ None → 1 ≤ round → changed ≢ 0

-- no round beyond this one is made
abbrev pub bound : (rounds : Option ℕ) → (limit : ℕ) → ℕ
bound (Some last) limit = last
bound None limit = limit

-- no further round is to be made
pub record EndsAt (rules : Rules) (limit round changed : ℕ) : Type 0 where
  pub fixed : (last : ℕ) → rules.rounds ≡ Some last → last ≤ round
  pub open_ended : rules.rounds ≡ None → (limit ≤ round) ⊎ ((1 ≤ round) × (changed ≡ 0))

module _ {D M : Type 0} (state : D → DiskState) (rules : Rules) (job : Job) (start : Start) (edges : List Edge) where
  -- so far on a good store: where the round is done it stands, and the round before stands in any case
  pub record ComesWell (done : Type 0) (round changed : ℕ) (old new : Moment D M) (epochs : List Epoch) : Type 0 where
    pub are : AreEpochsOf rules job edges (counts_first rules start) (first_sent start) epochs
    pub kept : done → StandsAfter rules job edges state start round old.store.values.items new.store.values.items
    pub behind : first_sent start ≤ round → StandsAfter rules job edges state start (round - 1) old.store.values.items new.store.values.items
    pub counted : done → changed ≡ changed_in rules job edges round
    pub due : IsDue rules job.vertices edges job.limit round
    pub any_stop : (e : ℕ) (d : D) → e < job.engines → LeavesByBeat (state (slice_index_or old.store.values.items e d)) (state (slice_index_or new.store.values.items e d))
        (λ b bytes. b ≤ new.beat → Left rules job edges old.beat (first_made start) e (state (slice_index_or old.store.values.items e d)) b bytes)
    pub since : (e : ℕ) (d : D) → e < job.engines
        → LeftSince rules job edges old.beat (first_made start) new.beat e (state (slice_index_or old.store.values.items e d)) (state (slice_index_or new.store.values.items e d))

module _ {D M : Type 0} (state : D → DiskState) (faults : M → ℕ) (rules : Rules) (job : Job) (start : Start) (index : List (List Place)) where
  -- **A run has come to a round**, which is done or not; so many epochs were made, and so many of their replies took chunks and admitted help
  pub record HasCome (done : Type 0) (round changed took helped : ℕ) (old new : Moment D M) (epochs : List Epoch) : Type 0 where
    pub store : IsStore state (split_for job) new.beat new.store
    pub keeps : Keeps state old.store new.store
    pub meters : MetersGoOn faults old.meters new.meters
    pub calm : done → NoCountRose state faults old.store new.store old.meters new.meters
    pub through : GoesThrough (terms_of job) old.seat new.seat took helped epochs
    pub fronts : WholeButLast (terms_of job) epochs
    pub few : All HasFewChunks epochs
    pub since : first_sent start ≤ round + 1
    pub begun : first_sent start ≤ round → epochs_to rules start (round - 1) < length epochs
    pub most : length epochs ≤ epochs_to rules start round
    pub helpers : done → helped ≤ 1024 * (round + 1)
    pub whole : done → All (IsWhole (terms_of job)) epochs
    pub many : done → length epochs ≡ epochs_to rules start round
    pub rises : (old.beat ≤ new.beat) × (new.beat ≤ old.beat + 1000001)
    pub later : old.beat + round ≤ new.beat + first_made start
    pub sooner : new.beat + first_made start ≤ old.beat + 1 + round
    pub beat : done → new.beat + first_made start ≡ old.beat + 1 + round
    -- a round that was made stands in an open slot of every engine, wherever it was made from
    pub opened : done → first_made start ≤ round → IsOpenEverywhere state (split_for job) round new.store.values.items
    pub well : (edges : List Edge) → HasEdges state job (split_for job) index old.store.graphs.items edges → IsTold state old.store → IsGoodStart rules job edges state start old.store.values.items
        → ComesWell state rules job start edges done round changed old new epochs

  -- all rounds so far are done
  pub record IsAt (so_far : Progress) (old new : Moment D M) : Type 0 where
    pub epochs : List Epoch
    pub come : HasCome (Unit {0}) so_far.round so_far.changed so_far.claims so_far.admitted old new epochs
    pub epochs_are : so_far.epochs ≡ length epochs
