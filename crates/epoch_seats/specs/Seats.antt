-- The first seat, and those of the workers, while an epoch lasts.
use Rattle.std.specs.Prelude.{◌≡◌, ℕ, suc, ◌+◌, ◌<◌, List, [], ◌++◌, map, length, slice_index_or}
use Rattle.chunk_object.specs.Epochs.{Terms, Epoch, entry_of, first_entries, opens_of, greets_of, splits_of}
use Rattle.chunk_cursor.specs.declared.view.View.{View}
use Rattle.chunk_cursor.specs.View.{IsFirst, OutWithin}
use Rattle.chunk_cursor.specs.Hold.{Hold, TableId}
use Rattle.worker_duty.specs.Views.{calls_of, MayWork}

-- the first seat has opened each cursor, greeted each partition and split off a seat for each worker
pub record HasBegun (terms : Terms) (lens : ℕ → ℕ) (before first : View) : Type 0 where
  pub number : IsFirst first
  pub story : first.story ≡ before.story ++ (first_entries (opens_of terms lens) ++ (first_entries (greets_of terms) ++ first_entries (splits_of before.splits terms.engines)))
  pub splits : first.splits ≡ before.splits + terms.engines
  pub held : first.held ≡ before.held
  pub out : OutWithin 0 terms.engines first

-- The seat is the one that was split off for the worker in an epoch before which so many were split off, and its list has its own calls alone
pub record IsSeatOf (before worker : ℕ) (v : View) : Type 0 where
  pub serial : v.serial ≡ suc (before + worker)
  pub number : v.worker ≡ worker
  pub own : v.story ≡ map (entry_of v.serial v.worker) (calls_of v)

-- it has made no call, and may do all that the duty asks
pub record IsNewSeat (terms : Terms) (lens : ℕ → ℕ) (before worker : ℕ) (table : TableId) (seat : Hold) : Type 0 where
  pub of_table : seat.table ≡ table
  pub is : IsSeatOf before worker seat.view
  pub story : seat.view.story ≡ []
  pub may : MayWork terms lens seat.view

-- each worker has such a seat, in order of the workers
pub record AreNewSeats (terms : Terms) (lens : ℕ → ℕ) (before : ℕ) (table : TableId) (seats : List Hold) : Type 0 where
  pub many : length seats ≡ terms.engines
  pub each : (worker : ℕ) (seat : Hold) → worker < terms.engines → IsNewSeat terms lens before worker table (slice_index_or seats worker seat)

-- the seats of all workers, in order of the workers
pub record AreSeats (engines before : ℕ) (seats : List Hold) : Type 0 where
  pub many : length seats ≡ engines
  pub each : (worker : ℕ) (seat : Hold) → worker < engines → IsSeatOf before worker (slice_index_or seats worker seat).view

-- the epoch in which the workers' seats have these lists
abbrev pub epoch_with : (ℕ → ℕ) → List Hold → Epoch
epoch_with lens seats = record { lens = lens; lists = map (λ (seat : Hold). calls_of seat.view) seats }
