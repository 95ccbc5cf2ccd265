-- What contracts see of a disk in memory.
use Rattle.std.specs.Prelude.{◌≡◌, ◌⊎◌, ℕ, ◌-◌, List, [], ◌∷◌, ◌++◌, Some, IsTrue, Result, IsErr, is_ok, OnOk, OnErr}
use Rattle.ports.specs.Disk.{DiskState, IsSettled}
use Rattle.mem_devices.specs.declared.disk.MemDisk.{MemDisk}
use Rattle.mem_devices.specs.History.{beats, recorded_state}
use Rattle.mem_devices.specs.Images.{pick_of, picked_image}
use Rattle.mem_devices.specs.Plan.{Plan, new_plan, next_call_fails, after_answer}

abbrev pub disk_state : MemDisk → DiskState
disk_state disk = recorded_state disk.history.first.items disk.history.bytes.items disk.history.calls.items disk.beat disk.plan.faults

abbrev pub fault_plan : MemDisk → Plan
fault_plan disk = disk.plan

-- the beats' numbers of the calls in the record
abbrev pub recorded_beats : MemDisk → List ℕ
recorded_beats disk = beats disk.history.calls.items

-- the image of a pick during the call of this number, or where there is none, after the last one
abbrev pub picked_bytes : ℕ → ℕ → MemDisk → List ℕ
picked_bytes pick moment disk = picked_image (pick_of pick) disk.history.first.items disk.history.calls.items (moment - 1)

-- A disk with these bytes and an empty record, of which these calls are to fail.
pub record IsNewDisk (first fails : List ℕ) (disk : MemDisk) : Type 0 where
  pub bytes : (disk_state disk).bytes ≡ Some first
  pub settled : IsSettled (disk_state disk)
  pub moment : (disk_state disk).moment ≡ 0
  pub beat : (disk_state disk).beat ≡ 0
  pub plan : fault_plan disk ≡ new_plan fails

-- What a write, cut or sync under the beat of this number makes of the record.
pub record MakesCall {T E : Type 0} (number : ℕ) (old new : MemDisk) (result : Result T E) : Type 0 where
  -- a call that is to fail does, and one that finds no memory
  pub fails : IsTrue (next_call_fails (fault_plan old)) → IsErr result
  pub plan : fault_plan new ≡ after_answer (is_ok result) (fault_plan old)
  -- one that fails changes nothing that a read gives
  pub stands : OnErr result ((disk_state new).bytes ≡ (disk_state old).bytes)
  -- each call is in the record, but for one that finds no memory
  pub recorded : OnOk result (recorded_beats new ≡ recorded_beats old ++ number ∷ [])
  pub unrecorded : OnErr result ((recorded_beats new ≡ recorded_beats old) ⊎ (recorded_beats new ≡ recorded_beats old ++ number ∷ []))
