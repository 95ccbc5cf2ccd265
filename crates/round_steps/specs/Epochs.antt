-- The epochs of a step, one after the other.
use Rattle.std.specs.Prelude.{◌≡◌, ⊤, ℕ, ◌+◌, ◌*◌, ◌≤◌, List, [], ◌∷◌, ◌++◌, length, flat_map}
use Rattle.chunk_object.specs.Epochs.{Terms, Epoch, TakesEachOnce, all_calls, epochs_entries}
use Rattle.chunk_object.specs.Duty.{MeetsDuty}
use Rattle.chunk_object.specs.History.{StandsWhole, most_chunks}
use Rattle.chunk_cursor.specs.declared.view.View.{View}
use Rattle.phase_model.specs.Taken.{claims, admissions}
use Rattle.epoch_seats.specs.Between.{IsBetweenEpochs}
use Rattle.epoch_seats.specs.Made.{BeginsDuty}

-- each worker's list meets its duty, and each chunk was taken exactly once
pub record IsWhole (terms : Terms) (epoch : Epoch) : Type 0 where
  pub duty : MeetsDuty terms epoch
  pub once : TakesEachOnce terms epoch

-- each epoch but the last is whole, and each worker's list in the last can be gone on with to one that meets its duty
abbrev pub WholeButLast : Terms → List Epoch → Type 0
WholeButLast terms [] = ⊤
WholeButLast terms (epoch ∷ []) = BeginsDuty terms epoch
WholeButLast terms (epoch ∷ next ∷ epochs) = IsWhole terms epoch × WholeButLast terms (next ∷ epochs)

-- no cursor was opened with more chunks than one can have
abbrev pub HasFewChunks : Epoch → Type 0
HasFewChunks epoch = (cursor : ℕ) → epoch.lens cursor ≤ most_chunks

-- **The seat went through these epochs**: their entries are behind what stood in its story, and it is ready for the next one. So many chunks were taken in them, and so often help was admitted
pub record GoesThrough (terms : Terms) (before after : View) (took helped : ℕ) (epochs : List Epoch) : Type 0 where
  pub story : after.story ≡ before.story ++ epochs_entries terms before.splits epochs
  pub splits : after.splits ≡ before.splits + terms.engines * length epochs
  pub held : after.held ≡ before.held
  pub between : IsBetweenEpochs after
  pub whole : StandsWhole before.story → StandsWhole after.story
  pub claims_are : took ≡ claims (flat_map all_calls epochs)
  pub admissions_are : helped ≡ admissions (flat_map all_calls epochs)

-- the epoch before the values of round 0: one, where edges are counted
abbrev pub ForFirst : (Counts : Epoch → Type 0) → List Epoch → Type 0
ForFirst Counts [] = ⊤
ForFirst Counts (count ∷ []) = Counts count
ForFirst Counts (count ∷ next ∷ epochs) = ⊥

-- the epochs of a later round, as far as it came
abbrev pub ForRound : (Scatters : Epoch → Type 0) → (Gathers : Epoch → Epoch → Type 0) → List Epoch → Type 0
ForRound Scatters Gathers [] = ⊤
ForRound Scatters Gathers (scatter ∷ []) = Scatters scatter
ForRound Scatters Gathers (scatter ∷ gather ∷ []) = Scatters scatter × Gathers scatter gather
ForRound Scatters Gathers (scatter ∷ gather ∷ next ∷ epochs) = ⊥
