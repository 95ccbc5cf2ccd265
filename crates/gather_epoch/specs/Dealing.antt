-- What the workers own, at their desks and in its lists.
use Rattle.std.specs.Prelude.{◌≡◌, ℕ, List, map}
use Rattle.chunk_cursor.specs.Hold.{Hold}
use Rattle.replica_merge.specs.declared.replicas.Replicas.{Replicas}
use Rattle.store_reader.specs.declared.store.Outcome.{Outcome}
use Rattle.gather_phase.specs.declared.desk.GatherDesk.{GatherDesk}
use Rattle.gather_phase.specs.declared.desk.GatherRoom.{GatherRoom}

module _ {D M : Type 0} where
  abbrev pub seat_at : GatherDesk D M → Hold
  seat_at desk = desk.seat

  abbrev pub meter_at : GatherDesk D M → M
  meter_at desk = desk.meter

  abbrev pub replicas_at : GatherDesk D M → Replicas
  replicas_at desk = desk.replicas

  abbrev pub spill_at : GatherDesk D M → D
  spill_at desk = desk.spill

  abbrev pub room_at : GatherDesk D M → GatherRoom
  room_at desk = desk.room

  abbrev pub number_at : GatherDesk D M → ℕ
  number_at desk = desk.worker

  abbrev pub outcome_at : GatherDesk D M → Outcome
  outcome_at desk = desk.outcome

  abbrev pub claims_at : GatherDesk D M → ℕ
  claims_at desk = desk.claims

  abbrev pub admitted_at : GatherDesk D M → ℕ
  admitted_at desk = desk.admitted

  -- the desks have what stands in these lists, in order
  pub record AreDealt (desks : List (GatherDesk D M)) (seats : List Hold) (meters : List M) (replicas : List Replicas) (spills : List D) (rooms : List GatherRoom) : Type 0 where
    pub seats_are : map seat_at desks ≡ seats
    pub meters_are : map meter_at desks ≡ meters
    pub replicas_are : map replicas_at desks ≡ replicas
    pub spills_are : map spill_at desks ≡ spills
    pub rooms_are : map room_at desks ≡ rooms
