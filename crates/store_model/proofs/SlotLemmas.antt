-- Where the two slots of a values device lie.
use Rattle.std.proofs.Common.{◌≡◌, ◌⊎◌, ℕ, ◌+◌, ◌-◌, ◌*◌, ◌<◌, ◌≤◌, zero, suc, inl, inr, arith, length, refl}
use Rattle.graph_model.specs.declared.value.Value.{Value}
use Rattle.store_model.specs.Slots.{slot_size, slot_start, device_size, set_start, value_bytes}

-- a slot lies within the device
pub slot_within : (own slot : ℕ) → slot < 2 → slot_start own slot + slot_size own ≤ device_size own
slot_within own zero below = omega arith
slot_within own (suc zero) below = omega arith
slot_within own (suc (suc slot)) below = omega arith

-- one slot begins the device, and the other stands behind it
pub slots_lie : (own slot : ℕ) → slot < 2
    → ((slot_start own slot ≡ 0) × (slot_start own (1 - slot) ≡ slot_size own))
    ⊎ ((slot_start own slot ≡ slot_size own) × (slot_start own (1 - slot) ≡ 0))
slots_lie own zero below = inl (omega arith, omega arith)
slots_lie own (suc zero) below = inr (omega arith, omega arith)
slots_lie own (suc (suc slot)) below = absurd (omega arith)

-- the values of some vertices lie within the device
pub set_within : (own slot before count : ℕ) → slot < 2 → before + count ≤ own → set_start own slot before + 16 * count ≤ device_size own
set_within own slot before count below within = omega (arith, slot_within own slot below)

pub length-value_bytes : (value : Value) → length (value_bytes value) ≡ 16
unfolding value_bytes
length-value_bytes value = refl
