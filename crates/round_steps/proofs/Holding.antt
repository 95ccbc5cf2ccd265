-- The values that stand in slots, as a scatter phase reads them.
use Rattle.std.proofs.Common.{◌≡◌, ℕ, ◌-◌, ◌<◌, ◌≤◌, Bool, true, false, if◌then◌else◌, Option, Some, None, List, length, refl, ◌∙◌, ap, arith, slice_index_or}
use Rattle.std.specs.Prelude.{option_and_then}
use Rattle.std.proofs.lemmas.Option.{slice_get-get_or}
use Rattle.std.proofs.Math.Nat.{mod-lt}
use Rattle.graph_model.specs.declared.edge.Edge.{Edge}
use Rattle.graph_model.specs.declared.value.Value.{Value}
use Rattle.graph_model.specs.Programs.{Rules}
use Rattle.graph_model.specs.Rounds.{values}
use Rattle.graph_model.proofs.RoundLemmas.{length-values}
use Rattle.gather_laws.specs.Laws.{HaveRoom}
use Rattle.partitioner.specs.declared.split.Split.{Split}
use Rattle.ports.specs.Disk.{DiskState}
use Rattle.store_model.specs.Slots.{slot_of, slot_values, values_bytes}
use Rattle.store_reader.specs.Reading.{own_in, master_in}
use Rattle.store_reader.specs.Values.{HoldValues, HoldBefore, told_of}
use Rattle.apply_round.specs.Made.{share_of}
use Rattle.list_moves.proofs.Desks.{some_of}
use Rattle.round_steps.specs.Rounds.{earlier_values}
use Rattle.round_steps.specs.Standing.{StandsBefore, ValuesStand}
use Rattle.round_steps.proofs.Sets.{set_stands}

module _ {D : Type 0} (state : D → DiskState) (split : Split) (devices : List D) (many : length devices ≡ split.engines) (some : 1 ≤ split.engines) where
  -- an engine's share of these values stands in a slot
  pub record ShareIn (slot : ℕ) (all : List Value) (engine : ℕ) (bytes : Option (List ℕ)) : Type 0 where
    pub read : List ℕ
    pub told : bytes ≡ Some read
    pub stands : slot_values (own_in split engine) slot read ≡ values_bytes (share_of split engine all)

  pub hold_values : (slot : ℕ) (all : List Value) → length all ≡ split.vertices → HaveRoom all → ((e : ℕ) (d : D) → e < split.engines → ShareIn slot all e (state (slice_index_or devices e d)).bytes) → HoldValues state split devices slot all
  hold_values slot all long fit each = record {
    long = long;
    fit = fit;
    stand = λ p below.
        let e : ℕ = master_in split p in
        let within : e < split.engines = mod-lt p some in
        let d : D = some_of devices e (omega arith) in
        let at : ShareIn slot all e (state (slice_index_or devices e d)).bytes = each e d within in
        let told : told_of state split devices p ≡ Some at.read =
        ap (option_and_then (λ (disk : D). (state disk).bytes)) (slice_get-get_or devices e d (omega arith)) ∙ at.told in
        (at.read, told, set_stands split slot p all at.read below at.stands);
  }

  module _ (rules : Rules) (edges : List Edge) (round : ℕ) (fit : (r : ℕ) → HaveRoom (values rules split.vertices edges r)) where
    pub hold_last : (changed_only : Bool) → 1 ≤ round → ValuesStand state rules split edges round changed_only devices → HoldValues state split devices (1 - slot_of round) (values rules split.vertices edges (round - 1))
    hold_last changed_only later stand = hold_values (1 - slot_of round) (values rules split.vertices edges (round - 1)) (length-values rules split.vertices edges (round - 1)) (fit (round - 1))
        (λ e d below. let at : StandsBefore rules split edges round changed_only e (state (slice_index_or devices e d)).bytes = stand e d below in record { read = at.read; told = at.told; stands = at.last later })

    pub hold_earlier : (changed_only : Bool) → ValuesStand state rules split edges round changed_only devices
        → HoldBefore state split devices (if changed_only then Some (slot_of round) else None) (earlier_values rules split.vertices edges round changed_only)
    hold_earlier true stand = hold_values (slot_of round) (values rules split.vertices edges (round - 2)) (length-values rules split.vertices edges (round - 2)) (fit (round - 2))
        (λ e d below. let at : StandsBefore rules split edges round true e (state (slice_index_or devices e d)).bytes = stand e d below in record { read = at.read; told = at.told; stands = at.earlier refl })
    hold_earlier false stand = tt
