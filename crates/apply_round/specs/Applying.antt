-- What apply makes of the values device of each engine, and of all.
use Rattle.std.specs.Prelude.{◌≡◌, ℕ, ◌-◌, ◌<◌, ◌≤◌, List, length, map, Option, Some, slice_index, slice_index_or}
use Rattle.std.specs.List.{All, range_with_len}
use Rattle.graph_model.specs.declared.value.Value.{Value}
use Rattle.graph_model.specs.Programs.{Rules}
use Rattle.gather_laws.specs.Laws.{HaveRoom}
use Rattle.partitioner.specs.declared.split.Split.{Split}
use Rattle.partitioner.specs.Splits.{IsSplit}
use Rattle.ports.specs.Disk.{DiskState, InEveryImage, IsSettled}
use Rattle.ports.specs.Stops.{Leaves}
use Rattle.ports.specs.Told.{AsTold}
use Rattle.replica_merge.specs.declared.replicas.Replicas.{Replicas}
use Rattle.replica_merge.specs.Accumulators.{split_of, LiesWithin}
use Rattle.store_model.specs.Slots.{slot_of, device_size, HoldsRound}
use Rattle.store_reader.specs.Reading.{own_in}
use Rattle.store_reader.specs.declared.store.Outcome.TheVariants.{Done}
use Rattle.checkpoint.specs.Applied.{applied_on, changed_by}
use Rattle.checkpoint.specs.SlotStates.{SameOther, IsOpenWith}
use Rattle.checkpoint.specs.Storing.{KeepsOther, WhileStoring, EndsByCause, EngineStandsBefore}
use Rattle.checkpoint.specs.Room.{IsRoomOf}
use Rattle.checkpoint.specs.declared.apply.ApplyContext.{ApplyContext}
use Rattle.checkpoint.specs.declared.apply.ApplyDesk.{ApplyDesk}
use Rattle.apply_round.specs.Crew.{capped}
use Rattle.apply_round.specs.Made.{AreMerged, ShareStands, LeavesShare, HoldsShare, changed_among}

-- What is lent to apply, as far as the values that it makes depend on it.
pub record RoundTerms : Type 0 where
  pub rules : Rules
  pub split : Split
  pub replicas : List Replicas
  -- the bytes of the workers' devices, where these tell them
  pub spills : List (Option (List ℕ))
  pub round : ℕ
  -- the number of the beat
  pub number : ℕ

module _ {P D M : Type 0} (state : D → DiskState) where
  abbrev pub terms_in : (P → Rules) → ApplyContext P D M → RoundTerms
  terms_in rules c = record {
    rules = rules c.program.now;
    split = c.split.now;
    replicas = c.replicas.now;
    spills = map (λ d. (state d).bytes) c.spills.now;
    round = c.round;
    number = c.beat.now;
  }

  -- the accumulators are of the split, and what was spilled of each lies within its device
  pub record IsContext (c : ApplyContext P D M) : Type 0 where
    pub split : IsSplit c.split.now
    pub splits : All (λ r. split_of r ≡ c.split.now) c.replicas.now
    pub disks : length c.spills.now ≡ length c.replicas.now
    pub within : (w : ℕ) (r : Replicas) (d : D) → w < length c.replicas.now → LiesWithin (slice_index_or c.replicas.now w r) (state (slice_index_or c.spills.now w d)).size

-- the values of the round of an engine's vertices
abbrev pub applied_by : RoundTerms → (engine : ℕ) → (devices : List (List ℕ)) → (before : List Value) → List Value
applied_by t engine devices before = applied_on t.rules t.split engine t.round t.replicas devices before

-- the workers' devices tell these bytes, and that of the engine tells those in which the values before stand
pub record Tells (t : RoundTerms) (engine : ℕ) (old : DiskState) (devices : List (List ℕ)) (before : List Value) : Type 0 where
  pub spilled : t.spills ≡ map (λ device. Some device) devices
  pub read : List ℕ
  pub told : old.bytes ≡ Some read
  pub stands : 1 ≤ t.round → EngineStandsBefore t.split engine (1 - slot_of t.round) before read

-- On every answer: what a stop at any moment leaves of an engine's values device.
pub record Applies (t : RoundTerms) (engine : ℕ) (old new : DiskState) : Type 0 where
  pub size : new.size ≡ old.size
  pub beat : new.beat ≤ t.number
  pub bytes : AsTold (SameOther (own_in t.split engine) (slot_of t.round)) old.bytes new.bytes
  pub other : Leaves t.number old new (KeepsOther (own_in t.split engine) (slot_of t.round) old)
  pub any_moment : (devices : List (List ℕ)) (before : List Value) → Tells t engine old devices before →
      Leaves t.number old new (WhileStoring (own_in t.split engine) (slot_of t.round) t.round (changed_by t.round before (applied_by t engine devices before)) (applied_by t engine devices before) old)

-- Where all is done: the round's slot is open, and the engine's vertices have their values of the round, of which so many changed.
pub record Stores (t : RoundTerms) (engine changed : ℕ) (old new : DiskState) : Type 0 where
  pub settled : IsSettled new
  pub opened : InEveryImage new (IsOpenWith (own_in t.split engine) (slot_of t.round) t.round changed)
  pub holds : (devices : List (List ℕ)) (before : List Value) → Tells t engine old devices before →
      InEveryImage new (HoldsRound (own_in t.split engine) (slot_of t.round) t.round changed (applied_by t engine devices before))
  pub counted : (devices : List (List ℕ)) (before : List Value) → Tells t engine old devices before →
      changed ≡ changed_by t.round before (applied_by t engine devices before)

-- a desk may be worked on
pub record MayApply {D M : Type 0} (state : D → DiskState) (split : Split) (number : ℕ) (desk : ApplyDesk D M) : Type 0 where
  pub engine : desk.engine < split.engines
  pub size : (state desk.disk).size ≡ device_size (own_in split desk.engine)
  pub beat : (state desk.disk).beat ≤ number
  pub room : IsRoomOf split desk.room

-- One engine's work is done, or a count of its device or of its meter rose.
module _ {D M : Type 0} (state : D → DiskState) (faults : M → ℕ) where
  pub record HasApplied (t : RoundTerms) (old new : ApplyDesk D M) : Type 0 where
    pub room : IsRoomOf t.split new.room
    pub cause : EndsByCause new.outcome (state old.disk).faults (state new.disk).faults (faults old.meter) (faults new.meter)
    pub applies : Applies t old.engine (state old.disk) (state new.disk)
    pub stores : new.outcome ≡ Done → Stores t old.engine new.changed (state old.disk) (state new.disk)

module _ {D : Type 0} (state : D → DiskState) where
  -- the same of each of some devices, one for each engine
  abbrev pub AppliesToEach : RoundTerms → List D → List D → Type 0
  AppliesToEach t old new = (e : ℕ) (d : D) → e < length old → Applies t e (state (slice_index_or old e d)) (state (slice_index_or new e d))

  pub record StoresOnEach (t : RoundTerms) (changed : ℕ) (old new : List D) : Type 0 where
    -- how many of each engine's vertices changed
    pub counts : List ℕ
    pub many : length counts ≡ length old
    pub sum : changed ≡ capped counts
    pub each : (e : ℕ) (d : D) → e < length old → Stores t e (slice_index counts e) (state (slice_index_or old e d)) (state (slice_index_or new e d))

  -- **A round of all vertices**: where the numbers are the merges of all workers, and the values before stand on every engine, the values of the round stand on every engine when all is done, and a stop leaves each engine's share as it was, closed, or whole.
  pub record MakesRound (t : RoundTerms) (numbers : ℕ → ℕ) (before now : List Value) (done : Type 0) (changed : ℕ) (old new : List D) : Type 0 where
    pub any_moment : (e : ℕ) (d : D) → e < length old → LeavesShare t.split t.round t.number before now e (state (slice_index_or old e d)) (state (slice_index_or new e d))
    pub stored : done → (e : ℕ) (d : D) → e < length old → HoldsShare t.split t.round before now e (state (slice_index_or new e d))
    pub changed_are : done → changed ≡ changed_among t.round before now (range_with_len 0 t.split.vertices)

  -- what a round of all vertices is made of
  pub record StandsBefore (t : RoundTerms) (numbers : ℕ → ℕ) (before : List Value) (old : List D) : Type 0 where
    pub numbers_are : AreMerged t.rules t.split t.replicas t.spills numbers
    pub fit : 1 ≤ t.round → HaveRoom before
    pub shares : (e : ℕ) (d : D) → e < length old → ShareStands t.split (1 - slot_of t.round) t.round before e (state (slice_index_or old e d)).bytes
