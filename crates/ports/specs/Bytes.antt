-- What the calls of a disk do to its bytes: as a whole, and in part.
use Rattle.std.specs.Prelude.{◌≡◌, ◌⊎◌, ℕ, ◌+◌, ◌<◌, ◌≤◌, min, max, List, ◌++◌, length, take, drop, slice_index}

-- the bytes of a place, where it lies within them
abbrev pub bytes_at : ℕ → ℕ → List ℕ → List ℕ
bytes_at at count bytes = take count (drop at bytes)

-- a piece over what stands there, and past the end
abbrev pub after_write : ℕ → List ℕ → List ℕ → List ℕ
after_write at piece old = take at old ++ piece ++ drop (at + length piece) old

-- A write of so many bytes in part: any bytes in its range, any length between, and what stood outside stays.
pub record Torn (at count : ℕ) (old new : List ℕ) : Type 0 where
  pub no_shorter : length old ≤ length new
  pub no_longer : length new ≤ max (length old) (at + count)
  pub stays : (i : ℕ) → i < length old → (i < at) ⊎ (at + count ≤ i) → slice_index new i ≡ slice_index old i

-- A cut to a size in part: any length between, and what stood below it stays.
pub record CutShort (size : ℕ) (old new : List ℕ) : Type 0 where
  pub no_shorter : min size (length old) ≤ length new
  pub front : take (length new) old ≡ new

abbrev pub Same : List ℕ → List ℕ → Type 0
Same old new = new ≡ old
