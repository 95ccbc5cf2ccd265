-- What a disk in memory keeps, the bytes at first and every call since, and what a stop may leave of it.
use Rattle.std.specs.Prelude.{◌≡◌, ◌⊎◌, ℕ, ◌≤◌, List, [], ◌∷◌, ◌++◌, Result, OnOk, OnErr, length, take, drop, map, Some, true, false, if◌then◌else◌, All}
use Rattle.std.specs.List.{list_any}
use Rattle.ports.specs.Disk.{DiskState}
use Rattle.mem_devices.specs.declared.call.Call.{Call}
use Rattle.mem_devices.specs.declared.call.Work.{Work}
use Rattle.mem_devices.specs.Call.{InPart, covers, after_call}

abbrev pub beats : List Call → List ℕ
beats calls = map (λ (call : Call). call.beat) calls

-- what a read gives after these calls
abbrev pub after_calls : List Call → List ℕ → List ℕ
after_calls [] bytes = bytes
after_calls (call ∷ calls) bytes = after_calls calls (after_call call bytes)

-- the calls up to the last sync that succeeded
abbrev pub covered_calls : List Call → List Call
covered_calls [] = []
covered_calls (call ∷ calls) = if list_any covers (call ∷ calls) then call ∷ covered_calls calls else []

-- and those behind it
abbrev pub uncovered_calls : List Call → List Call
uncovered_calls [] = []
uncovered_calls (call ∷ calls) = if list_any covers (call ∷ calls) then uncovered_calls calls else call ∷ calls

-- each of the calls, in order, in part
abbrev pub TakesEach : List Call → List ℕ → List ℕ → Type 0
TakesEach [] image c = c ≡ image
TakesEach (call ∷ calls) image c = (next : List ℕ) × InPart call.work image next × TakesEach calls next c

-- A stop after these calls leaves what a read gave after the last sync that succeeded, and then each later call, in
-- order, in part: also those that failed.
abbrev pub IsImage : List ℕ → List Call → List ℕ → Type 0
IsImage first calls c = TakesEach (uncovered_calls calls) (after_calls (covered_calls calls) first) c

-- A stop in beat b, and not before moment t. Moment k is the one after k calls. It is in a beat where the calls before
-- it are of that beat or earlier ones, and those behind it of that beat or later ones.
pub record MayLeave (first : List ℕ) (calls : List Call) (b t : ℕ) (c : List ℕ) : Type 0 where
  pub moment : ℕ
  pub since : t ≤ moment
  pub within : moment ≤ length calls
  pub before : All (λ number. number ≤ b) (take moment (beats calls))
  pub behind : All (λ number. b ≤ number) (drop moment (beats calls))
  pub image : IsImage first (take moment calls) c

-- what contracts see of it
abbrev pub recorded_state : List ℕ → List ℕ → List Call → ℕ → ℕ → DiskState
recorded_state first bytes calls beat faults =
    record {
      size = length bytes;
      bytes = Some bytes;
      moment = length calls;
      beat = beat;
      images = IsImage first calls;
      stops = MayLeave first calls;
      faults = faults;
    }

pub record Entered (call : Call) (bytes bytes' : List ℕ) (calls calls' : List Call) : Type 0 where
  pub bytes_are : bytes' ≡ after_call call bytes
  pub calls_are : calls' ≡ calls ++ call ∷ []

-- What a call that is to do some work makes of the bytes and the record: it is done and recorded; or it failed and is
-- recorded as such; or there was no memory, and all stays.
pub record Enters {T E : Type 0} (number : ℕ) (work : Work) (bytes bytes' : List ℕ) (calls calls' : List Call) (result : Result T E) : Type 0 where
  pub done : OnOk result (Entered (record { beat = number; failed = false; work = work }) bytes bytes' calls calls')
  pub failed : OnErr result (Entered (record { beat = number; failed = true; work = work }) bytes bytes' calls calls' ⊎ ((bytes' ≡ bytes) × (calls' ≡ calls)))
