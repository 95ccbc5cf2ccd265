-- What the workers own, at their desks and in its lists.
use Rattle.std.specs.Prelude.{◌≡◌, ℕ, List, map, Vec}
use Rattle.std.specs.Global.{Global}
use Rattle.chunk_cursor.specs.Hold.{Hold}
use Rattle.phase_model.specs.declared.placed.Placed.{Placed}
use Rattle.store_reader.specs.declared.store.Outcome.{Outcome}
use Rattle.scatter_phase.specs.declared.desk.ScatterDesk.{ScatterDesk}
use Rattle.scatter_phase.specs.declared.desk.ScatterRoom.{ScatterRoom}

module _ {D M : Type 0} where
  abbrev pub seat_at : ScatterDesk D M → Hold
  seat_at desk = desk.seat

  abbrev pub meter_at : ScatterDesk D M → M
  meter_at desk = desk.meter

  abbrev pub lanes_at : ScatterDesk D M → Vec D Global
  lanes_at desk = desk.lanes

  abbrev pub places_on : ScatterDesk D M → Vec Placed Global
  places_on desk = desk.places

  abbrev pub room_at : ScatterDesk D M → ScatterRoom
  room_at desk = desk.room

  abbrev pub number_at : ScatterDesk D M → ℕ
  number_at desk = desk.worker

  abbrev pub outcome_at : ScatterDesk D M → Outcome
  outcome_at desk = desk.outcome

  abbrev pub claims_at : ScatterDesk D M → ℕ
  claims_at desk = desk.claims

  abbrev pub admitted_at : ScatterDesk D M → ℕ
  admitted_at desk = desk.admitted

  -- the desks have what stands in these lists, in order
  pub record AreDealt (desks : List (ScatterDesk D M)) (seats : List Hold) (meters : List M) (lanes : List (Vec D Global)) (rooms : List ScatterRoom) : Type 0 where
    pub seats_are : map seat_at desks ≡ seats
    pub meters_are : map meter_at desks ≡ meters
    pub lanes_are : map lanes_at desks ≡ lanes
    pub rooms_are : map room_at desks ≡ rooms
