-- What a stop leaves of the two slots of a values device while one of them is closed, written and opened. `own` is the
-- number of the engine's vertices.
use Rattle.std.specs.Prelude.{◌≡◌, ◌⊎◌, ℕ, ◌-◌, List, length, IfSome}
use Rattle.ports.specs.Disk.{DiskState, InEveryImage}
use Rattle.store_model.specs.Slots.{device_size, slot_bytes, slot_numbers, slot_values, number_bytes, IsOpen, IsClosed}

-- the device and each of its images have the exact size
pub record HasExactSize (own : ℕ) (disk : DiskState) : Type 0 where
  pub now : disk.size ≡ device_size own
  pub images : InEveryImage disk (λ c. length c ≡ device_size own)

-- the other slot is as it was
abbrev pub SameOther : (own slot : ℕ) → List ℕ → List ℕ → Type 0
SameOther own slot before now = slot_bytes own (1 - slot) now ≡ slot_bytes own (1 - slot) before

-- Bytes that are an image of the start, as many, but for the slot, which is closed if it is not as there.
pub record WhileClosing (own slot : ℕ) (start : DiskState) (bytes : List ℕ) : Type 0 where
  pub image : List ℕ
  pub is_image : start.images image
  pub long : length bytes ≡ length image
  pub other : SameOther own slot image bytes
  pub itself : (slot_bytes own slot bytes ≡ slot_bytes own slot image) ⊎ IsClosed own slot bytes

-- The same where the slot is closed.
pub record WhileWriting (own slot : ℕ) (start : DiskState) (bytes : List ℕ) : Type 0 where
  pub image : List ℕ
  pub is_image : start.images image
  pub long : length bytes ≡ length image
  pub other : SameOther own slot image bytes
  pub closed : IsClosed own slot bytes

-- The same where the slot, once it is open, has these numbers and the values that a read of the start gives.
pub record WhileOpening (own slot round changed : ℕ) (start : DiskState) (bytes : List ℕ) : Type 0 where
  pub image : List ℕ
  pub is_image : start.images image
  pub long : length bytes ≡ length image
  pub other : SameOther own slot image bytes
  pub numbers : IsOpen own slot bytes → slot_numbers own slot bytes ≡ number_bytes round changed
  pub values : IsOpen own slot bytes → IfSome start.bytes (λ read. slot_values own slot bytes ≡ slot_values own slot read)

-- A slot is open, with this round and so many changed values, whatever its values are.
pub record IsOpenWith (own slot round changed : ℕ) (bytes : List ℕ) : Type 0 where
  pub is_open : IsOpen own slot bytes
  pub numbers : slot_numbers own slot bytes ≡ number_bytes round changed
