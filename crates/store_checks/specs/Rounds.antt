-- What is read of the slots of values devices.
use Rattle.std.specs.Prelude.{◌≡◌, ℕ, ◌<◌, ◌≤◌, true, false, List, Option, Some, None, length, sum_by, IfSome}
use Rattle.std.specs.List.{range_with_len}
use Rattle.store_model.specs.Slots.{slot_of}
use Rattle.store_model.specs.Kept.{device}
use Rattle.store_model.specs.Damage.{is_open_slot, round_in, changed_of}
use Rattle.store_checks.specs.declared.kept.Standing.{Standing}

-- what was read of a slot
abbrev pub TellsSlot : (own slot : ℕ) → (bytes : List ℕ) → Option Standing → Type 0
TellsSlot own slot bytes None = is_open_slot own slot bytes ≡ false
TellsSlot own slot bytes (Some standing) =
    (is_open_slot own slot bytes ≡ true) × (round_in own slot bytes ≡ standing.round) × (changed_of own slot bytes ≡ standing.changed)

-- its numbers are in their ranges, and the slot is the round's
abbrev pub IsWithin : (own slot : ℕ) → Option Standing → Type 0
IsWithin own slot found =
    IfSome found (λ standing. (slot_of standing.round ≡ slot) × (standing.round ≤ 1000000) × (standing.changed ≤ own))

-- Over several engines: `own` gives the number of an engine's vertices.
-- this round stands in this slot of each of the first so many engines, and the slot is open
abbrev pub StandsIn : (own : ℕ → ℕ) → (values : List (List ℕ)) → (slot count round : ℕ) → Type 0
StandsIn own values slot count round =
    (e : ℕ) → e < count → (is_open_slot (own e) slot (device values e) ≡ true) × (round_in (own e) slot (device values e) ≡ round)

-- the changed values of their slots, together
abbrev pub changed_over : (own : ℕ → ℕ) → (values : List (List ℕ)) → (slot count : ℕ) → ℕ
changed_over own values slot count = sum_by (λ e. changed_of (own e) slot (device values e)) (range_with_len 0 count)

-- what is found of a slot over all engines
abbrev pub FindsRound : (own : ℕ → ℕ) → (values : List (List ℕ)) → (slot count : ℕ) → Option Standing → Type 0
FindsRound own values slot count None = (round : ℕ) → StandsIn own values slot count round → ⊥
FindsRound own values slot count (Some standing) =
    StandsIn own values slot count standing.round × (standing.changed ≡ changed_over own values slot count)

-- a round stands in its open slot of every engine
abbrev pub StandsEverywhere : (own : ℕ → ℕ) → (values : List (List ℕ)) → (round : ℕ) → Type 0
StandsEverywhere own values round = StandsIn own values (slot_of round) (length values) round

-- **The kept round**: the greatest such round; and how many values changed in it.
pub record IsKept (own : ℕ → ℕ) (values : List (List ℕ)) (round changed : ℕ) : Type 0 where
  pub everywhere : StandsEverywhere own values round
  pub greatest : (other : ℕ) → StandsEverywhere own values other → other ≤ round
  pub changed_is : changed ≡ changed_over own values (slot_of round) (length values)

-- there is none
abbrev pub NoneKept : (own : ℕ → ℕ) → (values : List (List ℕ)) → Type 0
NoneKept own values = (round : ℕ) → StandsEverywhere own values round → ⊥

abbrev pub FindsKept : (own : ℕ → ℕ) → (values : List (List ℕ)) → Option Standing → Type 0
FindsKept own values None = NoneKept own values
FindsKept own values (Some standing) = IsKept own values standing.round standing.changed
