-- What calls say of a stop at any moment since they began.
use Rattle.std.specs.Prelude.{◌⊎◌, ℕ, ◌≤◌, suc, List, [], ◌∷◌}
use Rattle.ports.specs.Bytes.{CutShort}
use Rattle.ports.specs.Disk.{DiskState, After, ContinuesUnder}

-- A stop at any moment since `old` leaves bytes that have P. All calls in between are of this beat or a later one.
pub record Leaves (number : ℕ) (old new : DiskState) (P : List ℕ → Type 0) : Type 0 where
  pub later : old.moment ≤ new.moment
  pub each : (b : ℕ) (c : List ℕ) → new.stops b old.moment c → P c
  -- for a run that began earlier
  pub since : (b t : ℕ) (c : List ℕ) → t ≤ old.moment → new.stops b t c → old.stops b t c ⊎ ((number ≤ b) × P c)

-- The same where the beat goes on in between: a stop in beat b leaves bytes that have P b.
pub record LeavesByBeat (old new : DiskState) (P : ℕ → List ℕ → Type 0) : Type 0 where
  pub later : old.moment ≤ new.moment
  pub each : (b : ℕ) (c : List ℕ) → new.stops b old.moment c → P b c
  pub since : (b t : ℕ) (c : List ℕ) → t ≤ old.moment → new.stops b t c → old.stops b t c ⊎ P b c

-- A stop of several disks: in one beat, and of each disk one image of one moment of that beat since it was `old`.
abbrev pub IsStop : ℕ → List DiskState → List DiskState → List (List ℕ) → Type 0
IsStop b (old ∷ olds) (new ∷ news) (c ∷ cs) = new.stops b old.moment c × IsStop b olds news cs
IsStop b [] [] [] = Unit {0}
IsStop b (old ∷ olds) (new ∷ news) [] = ⊥
IsStop b (old ∷ olds) [] images = ⊥
IsStop b [] (new ∷ news) images = ⊥
IsStop b [] [] (c ∷ cs) = ⊥

-- one image of each disk, and of the i-th of them what is said of it beside its disk
abbrev pub EachImage : (ℕ → DiskState → List ℕ → Type 0) → List DiskState → List (List ℕ) → Type 0
EachImage P (disk ∷ disks) (c ∷ cs) = P 0 disk c × EachImage (λ i. P (suc i)) disks cs
EachImage P [] [] = Unit {0}
EachImage P (disk ∷ disks) [] = ⊥
EachImage P [] (c ∷ cs) = ⊥

-- one image of each disk as it stands
abbrev pub AreImages : List DiskState → List (List ℕ) → Type 0
AreImages disks images = EachImage (λ i disk c. disk.images c) disks images

-- A claim for each disk: a stop in beat b since the i-th was `old` leaves bytes that have P i old b.
abbrev pub EachLeaves : (ℕ → DiskState → ℕ → List ℕ → Type 0) → List DiskState → List DiskState → Type 0
EachLeaves P (old ∷ olds) (new ∷ news) = LeavesByBeat old new (P 0 old) × EachLeaves (λ i. P (suc i)) olds news
EachLeaves P [] [] = Unit {0}
EachLeaves P (old ∷ olds) [] = ⊥
EachLeaves P [] (new ∷ news) = ⊥

-- A disk is being cut to nothing under the beat of this number: a stop leaves a front of an image from before.
pub record Empties (number : ℕ) (old new : DiskState) : Type 0 where
  pub leaves : Leaves number old new (After (CutShort 0) old)
  pub size : new.size ≤ old.size
  pub goes_on : ContinuesUnder number old new
