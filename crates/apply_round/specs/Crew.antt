-- The desks of apply, the crew that they are made of, and how apply ends over all engines.
use Rattle.std.specs.Prelude.{◌≡◌, ◌⊎◌, ℕ, ◌-◌, ◌^◌, ◌<◌, ◌≤◌, min, List, length, map, sum, slice_index_or, vec_len, vec_capacity}
use Rattle.std.specs.List.{All}
use Rattle.partitioner.specs.declared.split.Split.{Split}
use Rattle.ports.specs.Disk.{DiskState}
use Rattle.ports.specs.Devices.{OneCountRose, SameCounts, MetersGoOn, Each, OneRose, NoneRose}
use Rattle.store_reader.specs.declared.store.Outcome.{Outcome}
use Rattle.store_reader.specs.declared.store.Outcome.TheVariants.{Done, DiskFault}
use Rattle.checkpoint.specs.Room.{IsRoomOf}
use Rattle.checkpoint.specs.declared.apply.ApplyDesk.{ApplyDesk}
use Rattle.apply_round.specs.declared.crew.ApplyCrew.{ApplyCrew}

-- the crew has buffers for each engine, and room for a desk of each
pub record IsCrewOf {D M : Type 0} (split : Split) (crew : ApplyCrew D M) : Type 0 where
  pub many : vec_len crew.rooms ≡ split.engines
  pub rooms : All (IsRoomOf split) crew.rooms.items
  pub idle : vec_len crew.desks ≡ 0
  pub room : split.engines ≤ vec_capacity crew.desks

-- the desks have these devices and meters, engine by engine
pub record AreDealt {D M : Type 0} (split : Split) (values : List D) (meters : List M) (desks : List (ApplyDesk D M)) : Type 0 where
  pub engines : (e : ℕ) (d : ApplyDesk D M) → e < length desks → (slice_index_or desks e d).engine ≡ e
  pub values_are : map (λ (d : ApplyDesk D M). d.disk) desks ≡ values
  pub meters_are : map (λ (d : ApplyDesk D M). d.meter) desks ≡ meters
  pub rooms : All (λ (d : ApplyDesk D M). IsRoomOf split d.room) desks

-- the sum of some counts, or the greatest number of 64 bits
abbrev pub capped : List ℕ → ℕ
capped counts = min (sum counts) (2 ^ 64 - 1)

-- All is done and no count rose, or that of a meter or of a device did. Counts never fall.
module _ {D M : Type 0} (state : D → DiskState) (faults : M → ℕ) where
  pub record EndsByCauses (outcome : Outcome) (disks_before disks_now : List D) (meters_before meters_now : List M) : Type 0 where
    pub ends : (outcome ≡ Done) ⊎ ((outcome ≡ DiskFault) × (OneCountRose faults meters_before meters_now ⊎ OneRose state disks_before disks_now))
    pub disks : Each state (λ old new. old.faults ≤ new.faults) disks_before disks_now
    pub meters : MetersGoOn faults meters_before meters_now
    pub calm : outcome ≡ Done → SameCounts faults meters_before meters_now × NoneRose state disks_before disks_now
