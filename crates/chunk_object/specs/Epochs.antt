-- Epochs: all that the first caller and the workers do from the opening of the cursors to the last join.
use Rattle.std.specs.Prelude.{◌≡◌, ℕ, suc, ◌+◌, ◌*◌, ◌/◌, ◌%◌, ◌<◌, ◌&&◌, List, [], ◌∷◌, ◌++◌, map, nat_lt, if◌then◌else◌, slice_index_or}
use Rattle.std.specs.List.{count_by, flat_map, range_with_len}
use Rattle.chunk_object.specs.declared.call.Call.{Call}
use Rattle.chunk_object.specs.declared.call.Call.TheVariants.{Open, Greet, Split, Join}
use Rattle.chunk_object.specs.declared.call.Entry.{Entry}
use Rattle.chunk_object.specs.History.{exhausts, takes, one_below}

-- the cursor of a partition on an engine
abbrev pub cursor_of : (engine partition : ℕ) → ℕ
cursor_of engine partition = 64 * engine + partition

-- What is the same in all epochs: how many engines and partitions there are, the bytes of each partition's vertices and of a full chunk, and the factor of the rule of help
pub record Terms : Type 0 where
  pub engines : ℕ
  pub partitions : ℕ
  pub set_bytes : ℕ → ℕ
  pub chunk_bytes : ℕ
  pub alpha : ℕ

-- An epoch: with how many chunks each cursor is opened, and the calls of the workers 0, 1, ..
pub record Epoch : Type 0 where
  pub lens : ℕ → ℕ
  pub lists : List (List Call)

abbrev pub list_of : Epoch → ℕ → List Call
list_of epoch worker = slice_index_or epoch.lists worker []

-- the calls of all workers
abbrev pub all_calls : Epoch → List Call
all_calls epoch = flat_map (λ calls. calls) epoch.lists

abbrev pub entry_of : (serial worker : ℕ) → Call → Entry
entry_of serial worker call = record { serial = serial; worker = worker; call = call }

abbrev pub first_entries : List Call → List Entry
first_entries = map (entry_of 0 8)

-- each cursor is opened
abbrev pub opens_of : Terms → (ℕ → ℕ) → List Call
opens_of terms lens = flat_map (λ engine. map (λ partition. Open (cursor_of engine partition) (lens (cursor_of engine partition))) (range_with_len 0 terms.partitions)) (range_with_len 0 terms.engines)

-- then each partition is greeted
abbrev pub greets_of : Terms → List Call
greets_of terms = map Greet (range_with_len 0 terms.partitions)

-- then a caller is split off for each worker, where so many were split off before
abbrev pub splits_of : (before workers : ℕ) → List Call
splits_of before workers = map (λ worker. Split (suc (before + worker)) worker) (range_with_len 0 workers)

-- at last the lists of the workers from this one on come back, each with its join
abbrev pub returns_of : (before worker : ℕ) → List (List Call) → List Entry
returns_of before worker [] = []
returns_of before worker (calls ∷ lists) = map (entry_of (suc (before + worker)) worker) calls ++ (first_entries (Join (suc (before + worker)) worker ∷ []) ++ returns_of before (worker + 1) lists)

-- all that an epoch adds to the story of the first caller, which has split off so many before
abbrev pub epoch_entries : Terms → ℕ → Epoch → List Entry
epoch_entries terms before epoch =
    first_entries (opens_of terms epoch.lens) ++ (first_entries (greets_of terms) ++ (first_entries (splits_of before terms.engines) ++ returns_of before 0 epoch.lists))

-- the same of epochs one after the other
abbrev pub epochs_entries : Terms → ℕ → List Epoch → List Entry
epochs_entries terms before [] = []
epochs_entries terms before (epoch ∷ epochs) = epoch_entries terms before epoch ++ epochs_entries terms (before + terms.engines) epochs

-- each master was told at each engine that its partition has no chunk left there
abbrev pub MastersAreTold : Terms → Epoch → Type 0
MastersAreTold terms epoch =
    (engine partition : ℕ) → engine < terms.engines → partition < terms.partitions → 0 < count_by (exhausts (cursor_of engine partition)) (list_of epoch (partition % terms.engines))

-- each chunk of each of the job's cursors was taken exactly once, and no other of that cursor
abbrev pub TakesEachChunk : Terms → Epoch → Type 0
TakesEachChunk terms epoch =
    (engine partition chunk : ℕ) → engine < terms.engines → partition < terms.partitions → count_by (takes (cursor_of engine partition) chunk) (all_calls epoch) ≡ one_below (epoch.lens (cursor_of engine partition)) chunk

-- with how many chunks the epoch opened this cursor; 0 where it did not
abbrev pub opened_with : Terms → Epoch → ℕ → ℕ
opened_with terms epoch cursor = (if nat_lt (cursor / 64) terms.engines && nat_lt (cursor % 64) terms.partitions then epoch.lens cursor else 0)

-- each chunk of each cursor was taken exactly once, and no other of any cursor
abbrev pub TakesEachOnce : Terms → Epoch → Type 0
TakesEachOnce terms epoch = (cursor chunk : ℕ) → count_by (takes cursor chunk) (all_calls epoch) ≡ one_below (opened_with terms epoch cursor) chunk
