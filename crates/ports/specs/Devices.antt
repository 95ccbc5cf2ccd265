-- Several devices, or meters, as they were and as they are.
use Rattle.std.specs.Prelude.{◌≡◌, ℕ, ◌<◌, ◌≤◌, List, Vec, length, map, slice_index_or}
use Rattle.std.specs.Global.{Global}
use Rattle.ports.specs.Disk.{DiskState}
use Rattle.ports.specs.Faults.{Rose}

-- one of some counts rose
abbrev pub OneCountRose : {X : Type 0} → (X → ℕ) → (olds news : List X) → Type 0
OneCountRose {X} count olds news =
    (k : ℕ) × (k < length olds) × ((x : X) → Rose (count (slice_index_or olds k x)) (count (slice_index_or news k x)))

-- and none of them: each stands as it was, be it a number or a row of numbers
abbrev pub SameCounts : {X C : Type 0} → (X → C) → (olds news : List X) → Type 0
SameCounts count olds news = map count news ≡ map count olds

-- the meters of the workers count the reads that failed, and their counts never fall
pub record MetersGoOn {M : Type 0} (faults : M → ℕ) (old new : List M) : Type 0 where
  pub many : length new ≡ length old
  pub later : (w : ℕ) (m : M) → w < length old → faults (slice_index_or old w m) ≤ faults (slice_index_or new w m)

module _ {X : Type 0} (state : X → DiskState) where
  -- device by device
  pub record Each (R : DiskState → DiskState → Type 0) (olds news : List X) : Type 0 where
    pub many : length news ≡ length olds
    pub each : (e : ℕ) (d : X) → e < length olds → R (state (slice_index_or olds e d)) (state (slice_index_or news e d))

  -- the count of faults of one of them rose
  abbrev pub OneRose : (olds news : List X) → Type 0
  OneRose olds news = OneCountRose (λ (x : X). (state x).faults) olds news

  -- and of none
  abbrev pub NoneRose : (olds news : List X) → Type 0
  NoneRose olds news = SameCounts (λ (x : X). (state x).faults) olds news

  -- so many devices, to which nothing was written under a later beat
  pub record AreDevices (many number : ℕ) (devices : List X) : Type 0 where
    pub all : length devices ≡ many
    pub beats : (e : ℕ) (d : X) → e < many → (state (slice_index_or devices e d)).beat ≤ number

  -- such a row of devices for each worker
  pub record AreRows (many number : ℕ) (rows : List (Vec X Global)) : Type 0 where
    pub all : length rows ≡ many
    pub each : (w : ℕ) (row : Vec X Global) → w < many → AreDevices many number (slice_index_or rows w row).items

  -- row by row
  pub record EachRow (R : DiskState → DiskState → Type 0) (olds news : List (Vec X Global)) : Type 0 where
    pub many : length news ≡ length olds
    pub each : (w : ℕ) (row : Vec X Global) → w < length olds → Each R (slice_index_or olds w row).items (slice_index_or news w row).items

  -- the count of one device in one row rose
  abbrev pub OneRowRose : (olds news : List (Vec X Global)) → Type 0
  OneRowRose olds news = (w : ℕ) × (w < length olds) × ((row : Vec X Global) → OneRose (slice_index_or olds w row).items (slice_index_or news w row).items)

  -- and of none
  abbrev pub NoRowRose : (olds news : List (Vec X Global)) → Type 0
  NoRowRose olds news = SameCounts (λ (row : Vec X Global). map (λ (x : X). (state x).faults) row.items) olds news
