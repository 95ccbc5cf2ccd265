-- What a seat knows, and what it may do.
use Rattle.std.specs.Prelude.{◌≡◌, ◌≢◌, ◌⊎◌, ℕ, suc, ◌%◌, ◌<◌, ◌≤◌, true, false, List, [], ◌∷◌, ◌++◌, map, slice_index, slice_set}
use Rattle.chunk_object.specs.declared.call.Call.{Call}
use Rattle.chunk_object.specs.declared.call.Call.TheVariants.{Split, Join}
use Rattle.chunk_object.specs.declared.call.Entry.{Entry}
use Rattle.chunk_object.specs.History.{refusals_of, admissions_of, taken_by, opened_len, epoch_of, engine_count}
use Rattle.chunk_cursor.specs.declared.view.View.{View}

abbrev pub entry : View → Call → Entry
entry v call = record { serial = v.serial; worker = v.worker; call = call }

-- the first seat of a new table
abbrev pub newcomer : View
newcomer = record { serial = 0; worker = 8; held = []; story = []; splits = 0; out = 0 ∷ 0 ∷ 0 ∷ 0 ∷ 0 ∷ 0 ∷ 0 ∷ 0 ∷ []; spent = false }

-- what is left of a seat that was joined
abbrev pub nobody : View
nobody = record { serial = 0; worker = 0; held = []; story = []; splits = 0; out = []; spent = true }

-- the view with one more call
abbrev pub with_call : View → Call → View
with_call v call = record v { story = v.story ++ entry v call ∷ [] }

-- the view with these calls more
abbrev pub with_calls : View → List Call → View
with_calls v calls = record v { story = v.story ++ map (entry v) calls }

-- all that a seat knows
abbrev pub knows : View → List Entry
knows v = v.held ++ v.story

-- the serial number of the worker's seat that was split off and not joined, or 0
abbrev pub out_at : View → ℕ → ℕ
out_at v worker = slice_index v.out worker

abbrev pub IsFirst : View → Type 0
IsFirst v = (v.serial ≡ 0) × (v.worker ≡ 8)

-- no seat is out but those of workers from `low` on and below `high`
abbrev pub OutWithin : (low high : ℕ) → View → Type 0
OutWithin low high v = (worker : ℕ) → (worker < low) ⊎ (high ≤ worker) → out_at v worker ≡ 0

-- the first seat, where each seat that was split off was joined again
pub record IsAlone (v : View) : Type 0 where
  pub first : IsFirst v
  pub none_out : (worker : ℕ) → out_at v worker ≡ 0

-- the first seat, and the new one, after a split for the worker
abbrev pub after_split : ℕ → View → View
after_split worker v = record v { story = v.story ++ entry v (Split (suc v.splits) worker) ∷ []; splits = suc v.splits; out = slice_set v.out worker (suc v.splits) }

abbrev pub split_off : ℕ → View → View
split_off worker v = record { serial = suc v.splits; worker = worker; held = v.story ++ entry v (Split (suc v.splits) worker) ∷ []; story = []; splits = 0; out = []; spent = false }

-- the first seat after a join of another
abbrev pub after_join : View → View → View
after_join v other = record v { story = (v.story ++ other.story) ++ entry v (Join other.serial other.worker) ∷ []; out = slice_set v.out other.worker 0 }

-- what a claim asks: since the cursor was last opened, no seat of this worker was told there that nothing is left
abbrev pub MayClaim : View → ℕ → Type 0
MayClaim v cursor = refusals_of v.worker cursor (knows v) ≡ 0

-- What an admit asks: the seat was split off, in an epoch in which the partition was greeted, for a worker that is not its master, and no seat of this worker was admitted there since
pub record MayAdmit (v : View) (partition : ℕ) : Type 0 where
  pub split : v.serial ≢ 0
  pub greeted : (epoch_of v.held).greeted partition ≡ true
  pub opened : 0 < engine_count (epoch_of v.held)
  pub no_master : v.worker ≢ partition % engine_count (epoch_of v.held)
  pub once : admissions_of v.worker partition (knows v) ≡ 0

-- a chunk that a seat may be given: one of those with which the cursor was opened, and with so many before it as its worker has
abbrev pub MayTake : View → ℕ → ℕ → Type 0
MayTake v cursor chunk = (taken_by v.worker cursor (knows v) ≤ chunk) × (chunk < opened_len cursor (knows v))
