-- The duty of a worker as it grows: partition by partition, and in each partition engine by engine.
use Rattle.std.specs.Prelude.{◌≡◌, ℕ, ◌%◌, Bool, true, not, ◌==◌, List}
use Rattle.std.specs.List.{All}
use Rattle.chunk_object.specs.declared.call.Call.{Call}
use Rattle.chunk_object.specs.Epochs.{cursor_of, Terms}
use Rattle.chunk_object.specs.Duty.{is_on, claims_at, EndsExhausted, ClaimsToTheEnd, Helps}
use Rattle.worker_duty.specs.Slots.{Fills}

-- claims at a cursor alone, until none is left
pub record DrainsCursor (cursor : ℕ) (calls : List Call) : Type 0 where
  pub ends : EndsExhausted calls
  pub only : All (λ call. claims_at cursor call ≡ true) calls

-- claims at the cursors of a partition alone, on each of the engines below this one until none is left
abbrev pub DrainsTo : (partition engine : ℕ) → List Call → Type 0
DrainsTo partition = Fills (λ engine. claims_at (cursor_of engine partition)) (λ engine. true) (λ engine. EndsExhausted)

-- one proposal to the partition, with what follows, and nothing else
pub record HelpsAt (terms : Terms) (partition : ℕ) (calls : List Call) : Type 0 where
  pub helps : Helps terms partition calls
  pub only : All (λ call. is_on partition call ≡ true) calls

abbrev pub is_master : Terms → (worker partition : ℕ) → Bool
is_master terms worker partition = partition % terms.engines == worker

-- the worker's own partitions below this one, each to the end
abbrev pub OwnTo : Terms → (worker partition : ℕ) → List Call → Type 0
OwnTo terms worker = Fills is_on (is_master terms worker) (ClaimsToTheEnd terms.engines)

-- one proposal to each other partition below this one, with what follows
abbrev pub OthersTo : Terms → (worker partition : ℕ) → List Call → Type 0
OthersTo terms worker = Fills is_on (λ partition. not (is_master terms worker partition)) (Helps terms)
