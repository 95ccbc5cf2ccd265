-- The front of an epoch, as far as it has come.
use Rattle.std.specs.Prelude.{◌≡◌, ℕ, suc, ◌+◌, false, List, [], ◌++◌, map}
use Rattle.std.specs.List.{flat_map, range_with_len}
use Rattle.chunk_object.specs.declared.call.Call.{Call}
use Rattle.chunk_object.specs.declared.call.Call.TheVariants.{Open}
use Rattle.chunk_object.specs.Epochs.{cursor_of, first_entries, splits_of}
use Rattle.chunk_cursor.specs.declared.view.View.{View}
use Rattle.chunk_cursor.specs.View.{IsFirst, OutWithin}
use Rattle.chunk_cursor.specs.Hold.{Hold}

abbrev pub opening : (ℕ → ℕ) → (engine partition : ℕ) → Call
opening lens engine partition = Open (cursor_of engine partition) (lens (cursor_of engine partition))

-- the cursors of the engines below this one
abbrev pub openings : (partitions : ℕ) → (ℕ → ℕ) → (engines : ℕ) → List Call
openings partitions lens engines = flat_map (λ engine. map (opening lens engine) (range_with_len 0 partitions)) (range_with_len 0 engines)

-- the first seat has split off a seat for each of the workers below this one
pub record HasSplit (workers : ℕ) (old new : View) : Type 0 where
  pub number : IsFirst new
  pub story : new.story ≡ old.story ++ first_entries (splits_of old.splits workers)
  pub splits : new.splits ≡ old.splits + workers
  pub held : new.held ≡ old.held
  pub out : OutWithin 0 workers new

-- the seat that was split off for a worker, behind those of the lower ones
abbrev pub seat_of_worker : Hold → ℕ → Hold
seat_of_worker first worker = record {
  table = first.table;
  view = record {
    serial = suc (first.view.splits + worker);
    worker = worker;
    held = first.view.story ++ first_entries (splits_of first.view.splits (worker + 1));
    story = [];
    splits = 0;
    out = [];
    spent = false;
  };
}

-- those of all workers below this one
abbrev pub split_seats_of : ℕ → Hold → List Hold
split_seats_of workers first = map (seat_of_worker first) (range_with_len 0 workers)
