-- What a step of a run makes.
use Rattle.std.specs.Prelude.{◌≡◌, ℕ, ◌-◌, ◌<◌, ◌≤◌, Bool, None, Some, if◌then◌else◌, Option, List, length, slice_index_or}
use Rattle.std.specs.List.{All, range_with_len}
use Rattle.graph_model.specs.declared.edge.Edge.{Edge}
use Rattle.graph_model.specs.declared.value.Value.{Value}
use Rattle.graph_model.specs.declared.job.Job.{Job}
use Rattle.graph_model.specs.Programs.{Rules}
use Rattle.graph_model.specs.Rounds.{values}
use Rattle.ports.specs.Disk.{DiskState}
use Rattle.partitioner.specs.declared.split.Split.{Split}
use Rattle.chunk_object.specs.Epochs.{Epoch}
use Rattle.chunk_file.specs.declared.index.Place.{Place}
use Rattle.chunk_cursor.specs.declared.view.View.{View}
use Rattle.phase_model.specs.JobTerms.{terms_of}
use Rattle.replica_merge.specs.declared.replicas.Replicas.{Replicas}
use Rattle.store_reader.specs.Indexed.{lens_of}
use Rattle.store_reader.specs.declared.store.Store.{Store}
use Rattle.epoch_laws.specs.Phases.{Opens, sending_in, updates_of}
use Rattle.apply_round.specs.Made.{AreMerged, made, LeavesShare, HoldsShare, changed_among}
use Rattle.round_steps.specs.Epochs.{IsWhole, WholeButLast, HasFewChunks, GoesThrough, ForFirst, ForRound}
use Rattle.round_steps.specs.Standing.{IsBefore}

-- the values of two rounds before, where those alone send that have changed since
abbrev pub earlier_values : Rules → (vertices : ℕ) → List Edge → (round : ℕ) → (changed_only : Bool) → Option (List Value)
earlier_values rules vertices edges round changed_only = (if changed_only then Some (values rules vertices edges (round - 2)) else None)

module _ {D : Type 0} (state : D → DiskState) where
  -- **A round is stored**: at every moment a stop leaves each engine's share as it was, closed, or whole, and when all is done the values of the round stand on every engine, with the number of its own vertices that changed; the sum of these is the number of all that changed
  pub record StoresRound (rules : Rules) (split : Split) (edges : List Edge) (round number : ℕ) (done : Type 0) (changed : ℕ) (old new : List D) : Type 0 where
    pub any_moment : (e : ℕ) (d : D) → e < length old
        → LeavesShare split round number (values rules split.vertices edges (round - 1)) (values rules split.vertices edges round) e (state (slice_index_or old e d)) (state (slice_index_or new e d))
    pub stored : done → (e : ℕ) (d : D) → e < length old → HoldsShare split round (values rules split.vertices edges (round - 1)) (values rules split.vertices edges round) e (state (slice_index_or new e d))
    pub changed_are : done → changed ≡ changed_among round (values rules split.vertices edges (round - 1)) (values rules split.vertices edges round) (range_with_len 0 split.vertices)

-- **The epochs before the values of round 0**: none, or one in which the edges are counted, which is whole when all is done
pub record MakesFirst (counts : Bool) (job : Job) (index : List (List Place)) (done : Type 0) (before after : View) (took helped : ℕ) : Type 0 where
  pub epochs : List Epoch
  pub through : GoesThrough (terms_of job) before after took helped epochs
  pub are : ForFirst (λ count. count.lens ≡ lens_of index) epochs
  pub fronts : WholeButLast (terms_of job) epochs
  pub bounds : All HasFewChunks epochs
  pub all : done → All (IsWhole (terms_of job)) epochs × (length epochs ≡ (if counts then 1 else 0))
  pub few : length epochs ≤ (if counts then 1 else 0)

module _ {D M : Type 0} (state : D → DiskState) where
  -- **The epochs of a later round**, of which the first is the t-th of the run: one in which edges send, and one in which exactly the chunks of what was sent are gathered. When all is done both are whole
  pub record MakesEpochs (rules : Rules) (job : Job) (split : Split) (index : List (List Place)) (round : ℕ) (changed_only : Bool) (t : ℕ) (store : Store D M) (done : Type 0) (before after : View) (took helped : ℕ) : Type 0 where
    pub epochs : List Epoch
    pub through : GoesThrough (terms_of job) before after took helped epochs
    pub are : ForRound
        (λ scatter. scatter.lens ≡ lens_of index)
        (λ scatter gather. (edges : List Edge) → IsBefore state rules job split index edges round changed_only store
        → Opens (updates_of job edges (sending_in rules job.vertices edges round (earlier_values rules job.vertices edges round changed_only)) t scatter) gather)
        epochs
    pub fronts : WholeButLast (terms_of job) epochs
    pub bounds : All HasFewChunks epochs
    pub all : done → All (IsWhole (terms_of job)) epochs × (length epochs ≡ 2)
    pub some : 1 ≤ length epochs

-- What all workers have summed up, for each vertex: the values of the round are made of it
pub record HasSums (rules : Rules) (split : Split) (edges : List Edge) (round : ℕ) (replicas : List Replicas) (spills : List (Option (List ℕ))) : Type 0 where
  pub numbers : ℕ → ℕ
  pub merged_are : AreMerged rules split replicas spills numbers
  pub makes : made rules split.vertices round numbers (values rules split.vertices edges (round - 1)) ≡ values rules split.vertices edges round
