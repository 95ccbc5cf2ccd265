-- What contracts see of a disk, and what its calls make of it.
use Rattle.std.specs.Prelude.{◌≡◌, ◌⊎◌, ℕ, ◌+◌, ◌<◌, ◌≤◌, max, List, length, take, Option, Some, IsSome, IfSome, Result, OnOk, OnErr}
use Rattle.ports.specs.Bytes.{after_write, Torn, CutShort, Same}
use Rattle.ports.specs.Faults.{HasCause}
use Rattle.ports.specs.Told.{AsTold}

-- A disk that does not tell its bytes has no image, so that no claim on images asks anything of it.
pub record DiskState : Type 1 where
  pub size : ℕ
  -- what a read gives, where the disk tells it
  pub bytes : Option (List ℕ)
  -- a number that never falls
  pub moment : ℕ
  -- the beat's number at the last write, cut or sync
  pub beat : ℕ
  -- what a stop now may leave
  pub images : List ℕ → Type 0
  -- `stops b t c`: a stop at a moment of beat b, and not before moment t, may have left c
  pub stops : ℕ → ℕ → List ℕ → Type 0
  -- how often a write, cut or sync has failed
  pub faults : ℕ

abbrev pub InEveryImage : DiskState → (List ℕ → Type 0) → Type 0
InEveryImage disk P = (c : List ℕ) → disk.images c → P c

-- a stop now leaves what a read gives
abbrev pub IsSettled : DiskState → Type 0
IsSettled disk = InEveryImage disk (λ c. disk.bytes ≡ Some c)

-- an image of the disk, and then a call in part
abbrev pub After : (List ℕ → List ℕ → Type 0) → DiskState → List ℕ → Type 0
After part disk c = (d : List ℕ) × disk.images d × part d c

-- What always holds of a disk.
pub record IsDisk (disk : DiskState) : Type 0 where
  pub sized : IfSome disk.bytes (λ bytes. disk.size ≡ length bytes)
  -- what a read gives is an image, and there are images only where the bytes are told
  pub present : IfSome disk.bytes disk.images
  pub told : InEveryImage disk (λ _. IsSome disk.bytes)
  -- this moment is one of each beat from that of the last call on
  pub counts_now : (b t : ℕ) (c : List ℕ) → disk.beat ≤ b → t ≤ disk.moment → disk.images c → disk.stops b t c
  -- and from it on there is no other
  pub only_now : (b : ℕ) (c : List ℕ) → disk.stops b disk.moment c → disk.images c
  -- a beat without a call finds the disk as the earlier beats left it
  pub later_beats : (b t : ℕ) (c : List ℕ) → disk.beat < b → disk.stops b t c → disk.images c

-- What a write, cut or sync under the beat of this number makes of a disk, whatever it answers: `part` says what it
-- does to the bytes where it is done in part.
pub record Changes (number : ℕ) (part : List ℕ → List ℕ → Type 0) (old new : DiskState) : Type 0 where
  pub bytes : AsTold part old.bytes new.bytes
  pub images : InEveryImage new (After part old)
  pub beat : new.beat ≡ number
  pub later : old.moment ≤ new.moment
  -- a call that leaves the moment as it was has no effect in any image
  pub unmoved : new.moment ≡ old.moment → InEveryImage new old.images
  -- a stop since an earlier moment is one from before the call, or it leaves what a stop now may leave
  pub since : (b t : ℕ) (c : List ℕ) → t ≤ old.moment → new.stops b t c → old.stops b t c ⊎ ((number ≤ b) × new.images c)
  pub keeps : (b t : ℕ) (c : List ℕ) → t ≤ old.moment → b ≤ number → old.stops b t c → new.stops b t c

-- What no sync has covered: no image is forgotten, and whatever the call, done in part, makes of one is an image too.
pub record Uncovered (part : List ℕ → List ℕ → Type 0) (old new : DiskState) : Type 0 where
  pub stays : InEveryImage old new.images
  pub may : old.moment < new.moment → (c : List ℕ) → After part old c → new.images c

-- What a write of a piece at a place promises.
pub record Writes {T E : Type 0} (number at : ℕ) (piece : List ℕ) (old new : DiskState) (result : Result T E) : Type 0 where
  pub changes : Changes number (Torn at (length piece)) old new
  pub uncovered : Uncovered (Torn at (length piece)) old new
  pub moves : OnOk result (IfSome old.bytes (λ _. old.moment < new.moment))
  pub written : OnOk result (AsTold (λ before now. now ≡ after_write at piece before) old.bytes new.bytes)
  pub grown : OnOk result (new.size ≡ max old.size (at + length piece))
  pub no_shorter : old.size ≤ new.size
  pub no_longer : new.size ≤ max old.size (at + length piece)
  pub cause : HasCause old.faults new.faults result

-- What a cut to a size promises.
pub record Cuts {T E : Type 0} (number size : ℕ) (old new : DiskState) (result : Result T E) : Type 0 where
  pub changes : Changes number (CutShort size) old new
  pub uncovered : Uncovered (CutShort size) old new
  pub moves : OnOk result (IfSome old.bytes (λ _. old.moment < new.moment))
  pub done : OnOk result (AsTold (λ before now. now ≡ take size before) old.bytes new.bytes)
  pub cut : OnOk result (new.size ≡ size)
  pub no_shorter : size ≤ new.size
  pub no_longer : new.size ≤ old.size
  pub cause : HasCause old.faults new.faults result

-- What a sync promises: it covers all calls before it, or none.
pub record Syncs {T E : Type 0} (number : ℕ) (old new : DiskState) (result : Result T E) : Type 0 where
  pub changes : Changes number Same old new
  pub uncovered : OnErr result (Uncovered Same old new)
  pub moves : OnOk result (IfSome old.bytes (λ _. old.moment < new.moment))
  pub settled : OnOk result (IsSettled new)
  pub size : new.size ≡ old.size
  pub cause : HasCause old.faults new.faults result

-- a disk that told its bytes still does
abbrev pub StillTells : (old new : DiskState) → Type 0
StillTells old new = (bytes : List ℕ) → old.bytes ≡ Some bytes → (now : List ℕ) × (new.bytes ≡ Some now)

-- A disk after calls, whatever they answered: its count of faults has not fallen, and it tells its bytes where it did.
pub record Continues (old new : DiskState) : Type 0 where
  pub faults : old.faults ≤ new.faults
  pub told : StillTells old new

-- the same after calls under beats up to this number
pub record ContinuesUnder (number : ℕ) (old new : DiskState) : Type 0 where
  pub beat : old.beat ≤ number → new.beat ≤ number
  pub faults : old.faults ≤ new.faults
  pub told : StillTells old new
