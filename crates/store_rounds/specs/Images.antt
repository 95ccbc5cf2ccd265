-- The bytes of several devices, beside what a stop may leave of each.
use Rattle.std.specs.Prelude.{◌≡◌, ℕ, ◌<◌, List, length, slice_index_or}
use Rattle.ports.specs.Disk.{DiskState, InEveryImage}
use Rattle.store_model.specs.Kept.{device}

module _ {D : Type 0} (state : D → DiskState) where
  -- **one image of each device**
  pub record HaveImages (devices : List D) (images : List (List ℕ)) : Type 0 where
    pub many : length images ≡ length devices
    pub each : (e : ℕ) (d : D) → e < length devices → (state (slice_index_or devices e d)).images (device images e)

  -- **the only image of each device**
  pub record AreSettledAs (devices : List D) (images : List (List ℕ)) : Type 0 where
    pub many : length images ≡ length devices
    pub each : (e : ℕ) (d : D) → e < length devices → InEveryImage (state (slice_index_or devices e d)) (λ c. c ≡ device images e)

  -- **of each device, what a stop in beat b since it was old may have left**
  pub record IsStopOfEach (b : ℕ) (old new : List D) (images : List (List ℕ)) : Type 0 where
    pub many : length images ≡ length old
    pub in_place : length new ≡ length old
    pub each : (e : ℕ) (d : D) → e < length old → (state (slice_index_or new e d)).stops b (state (slice_index_or old e d)).moment (device images e)
