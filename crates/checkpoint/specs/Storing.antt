-- What a stop leaves of a values device while a round is stored in a slot, and how apply ends.
use Rattle.std.specs.Prelude.{◌≡◌, ◌⊎◌, ℕ, ◌+◌, ◌*◌, ◌≤◌, List, length}
use Rattle.graph_model.specs.declared.value.Value.{Value}
use Rattle.graph_model.specs.Programs.{Rules}
use Rattle.partitioner.specs.declared.split.Split.{Split}
use Rattle.ports.specs.Bytes.{bytes_at, after_write}
use Rattle.ports.specs.Disk.{DiskState}
use Rattle.ports.specs.Faults.{Rose}
use Rattle.store_model.specs.Slots.{slot_bytes, slot_start, slot_values, set_start, set_bytes, values_bytes, IsClosed, HoldsRound}
use Rattle.store_reader.specs.Reading.{own_in, master_in, len_in, before_in}
use Rattle.store_reader.specs.declared.store.Outcome.{Outcome}
use Rattle.store_reader.specs.declared.store.Outcome.TheVariants.{Done, DiskFault}
use Rattle.gather_laws.specs.Laws.{HaveRoom}
use Rattle.checkpoint.specs.Applied.{applied, values_in, changed_by}
use Rattle.checkpoint.specs.SlotStates.{SameOther}

-- Bytes that are an image of the start in the other slot, as many as there.
pub record KeepsOther (own slot : ℕ) (start : DiskState) (bytes : List ℕ) : Type 0 where
  pub image : List ℕ
  pub is_image : start.images image
  pub long : length bytes ≡ length image
  pub other : SameOther own slot image bytes

-- The same where the slot itself is as there, or closed, or holds the round.
pub record WhileStoring (own slot round changed : ℕ) (values : List Value) (start : DiskState) (bytes : List ℕ) : Type 0 where
  pub image : List ℕ
  pub is_image : start.images image
  pub long : length bytes ≡ length image
  pub other : SameOther own slot image bytes
  pub itself : (slot_bytes own slot bytes ≡ slot_bytes own slot image) ⊎ (IsClosed own slot bytes ⊎ HoldsRound own slot round changed values bytes)

-- All is done and no count rose, or that of the disk or of the meter did. Counts never fall.
pub record EndsByCause (outcome : Outcome) (disk_before disk_now meter_before meter_now : ℕ) : Type 0 where
  pub ends : (outcome ≡ Done) ⊎ ((outcome ≡ DiskFault) × (Rose disk_before disk_now ⊎ Rose meter_before meter_now))
  pub disk : disk_before ≤ disk_now
  pub meter : meter_before ≤ meter_now
  pub calm : outcome ≡ Done → (disk_now ≡ disk_before) × (meter_now ≡ meter_before)

-- the values before of a partition stand in a slot, where the round is not the first
pub record StandBefore (split : Split) (partition slot round : ℕ) (before : List Value) (read : List ℕ) : Type 0 where
  pub fit : HaveRoom before
  pub long : length before ≡ len_in split partition
  pub stand : 1 ≤ round → values_bytes before ≡ set_bytes (own_in split (master_in split partition)) slot (before_in split partition) (len_in split partition) read

-- the values before of an engine stand in a slot
pub record EngineStandsBefore (split : Split) (engine slot : ℕ) (before : List Value) (read : List ℕ) : Type 0 where
  pub fit : HaveRoom before
  pub long : length before ≡ own_in split engine
  pub stand : values_bytes before ≡ slot_values (own_in split engine) slot read

-- the same, where the round is not the first
pub record EngineBefore (split : Split) (engine slot round : ℕ) (before : List Value) (read : List ℕ) : Type 0 where
  pub fit : HaveRoom before
  pub long : length before ≡ own_in split engine
  pub stand : 1 ≤ round → values_bytes before ≡ slot_values (own_in split engine) slot read

-- the values of a partition, of these sums, were written to a slot, and so many of them differ from those before
pub record StoresPartition (rules : Rules) (split : Split) (round : ℕ) (sums : List ℕ) (partition slot : ℕ) (before : List Value) (changed : ℕ) (read now : List ℕ) : Type 0 where
  pub written : now ≡ after_write (set_start (own_in split (master_in split partition)) slot (before_in split partition)) (values_bytes (values_in rules split round sums partition before)) read
  pub counted : changed ≡ changed_by round before (values_in rules split round sums partition before)

-- the values of some partitions of an engine, so many, stand in a slot
pub record StoresFront (rules : Rules) (split : Split) (engine round : ℕ) (sums : ℕ → List ℕ) (slot : ℕ) (partitions : List ℕ) (count : ℕ) (before : List Value) (changed : ℕ) (now : List ℕ) : Type 0 where
  pub long : length (applied rules split round sums partitions before) ≡ count
  pub stand : bytes_at (slot_start (own_in split engine) slot + 24) (16 * count) now ≡ values_bytes (applied rules split round sums partitions before)
  pub counted : changed ≡ changed_by round before (applied rules split round sums partitions before)
