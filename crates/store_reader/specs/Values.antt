-- The values devices of a store, and the values of all vertices that stand in a slot of them.
use Rattle.std.specs.Prelude.{◌≡◌, ⊤, ℕ, ◌^◌, ◌<◌, Option, Some, None, List, length, slice_get, slice_index_or, option_and_then}
use Rattle.std.specs.List.{All}
use Rattle.graph_model.specs.declared.value.Value.{Value}
use Rattle.graph_model.specs.Partitions.{vertices_in}
use Rattle.ports.specs.Disk.{DiskState}
use Rattle.partitioner.specs.declared.split.Split.{Split}
use Rattle.store_model.specs.Slots.{device_size, set_bytes, values_bytes}
use Rattle.store_model.specs.Kept.{values_of}
use Rattle.store_reader.specs.Reading.{own_in, master_in, len_in, before_in}

-- the values of a partition's vertices
abbrev pub values_in : Split → (partition : ℕ) → List Value → List Value
values_in split partition values = values_of (vertices_in split.vertices split.parts partition) values

module _ {X : Type 0} (state : X → DiskState) (split : Split) (devices : List X) where
  -- one values device for each engine, of the exact size for its vertices
  pub record AreValueDevices : Type 0 where
    pub many : length devices ≡ split.engines
    pub exact : (e : ℕ) (d : X) → e < length devices → (state (slice_index_or devices e d)).size ≡ device_size (own_in split e)

  -- what the values device of a partition's master tells
  abbrev pub told_of : (partition : ℕ) → Option (List ℕ)
  told_of partition = option_and_then (λ disk. (state disk).bytes) (slice_get devices (master_in split partition))

  -- **These values of all vertices stand in a slot**: those of each partition on the device of its master, which tells its bytes
  pub record HoldValues (slot : ℕ) (values : List Value) : Type 0 where
    pub long : length values ≡ split.vertices
    pub fit : All (λ (v : Value). (v.main < 2 ^ 64) × (v.side < 2 ^ 64)) values
    pub stand : (partition : ℕ) → partition < split.parts
        → (told : List ℕ) × (told_of partition ≡ Some told) × (values_bytes (values_in split partition values) ≡ set_bytes (own_in split (master_in split partition)) slot (before_in split partition) (len_in split partition) told)

  -- these are the values of a partition, whatever values of all vertices stand in the slot
  abbrev pub IsSet : (slot partition : ℕ) → List Value → Type 0
  IsSet slot partition set = (values : List Value) → HoldValues slot values → set ≡ values_in split partition values

  -- where there is a second slot, these values stand in it
  abbrev pub HoldBefore : (slot : Option ℕ) → (values : Option (List Value)) → Type 0
  HoldBefore None None = ⊤
  HoldBefore None (Some values) = ⊥
  HoldBefore (Some slot) None = ⊥
  HoldBefore (Some slot) (Some values) = HoldValues slot values
