-- What the workers of an epoch have done, so far as their calls on cursors go.
use Rattle.std.specs.Prelude.{◌≡◌, ℕ, ◌<◌, ◌≤◌, length}
use Rattle.chunk_object.specs.Epochs.{Terms, Epoch, list_of, all_calls, TakesEachOnce}
use Rattle.chunk_object.specs.Duty.{BeginsDutiful, MeetsDuty}
use Rattle.chunk_cursor.specs.declared.view.View.{View}
use Rattle.phase_model.specs.Taken.{claims, admissions}
use Rattle.epoch_seats.specs.Between.{HasEnded}

-- each worker's list can be gone on with to one that meets its duty
pub record BeginsDuty (terms : Terms) (epoch : Epoch) : Type 0 where
  pub workers : length epoch.lists ≡ terms.engines
  pub each : (worker : ℕ) → worker < terms.engines → BeginsDutiful terms worker (list_of epoch worker)

-- **The epoch was made**: the cursors were opened with these numbers of chunks, and each worker's list is a front of one that meets its duty. Where the workers are through each list meets it, so that each chunk was taken once. So many chunks were taken, and so often help was admitted: no more than all cursors have room for, and than each worker has partitions
pub record HasMadeEpoch (terms : Terms) (lens : ℕ → ℕ) (IsThrough : Type 0) (before after : View) (took helped : ℕ) (epoch : Epoch) : Type 0 where
  pub lens_are : epoch.lens ≡ lens
  pub ended : HasEnded terms before after epoch
  pub begins : BeginsDuty terms epoch
  pub duty : IsThrough → MeetsDuty terms epoch
  pub once : IsThrough → TakesEachOnce terms epoch
  pub claims_are : took ≡ claims (all_calls epoch)
  pub admissions_are : helped ≡ admissions (all_calls epoch)
  pub few : (took ≤ 1099511627776) × (helped ≤ 512)
