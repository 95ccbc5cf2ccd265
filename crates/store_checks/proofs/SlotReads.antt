-- The head of a slot, as it was read and as its bytes say.
use Rattle.std.proofs.Common.{◌≡◌, ◌∙◌, ℕ, ◌+◌, ◌^◌, ◌<◌, ◌==◌, ◌&&◌, ◌||◌, not, nat_le, Bool, true, false, if◌then◌else◌, List, length, take, drop, get_or, IsTrue, Option, Some, None, [], ◌∷◌, inl, inr, refl, sym, ap, subst, arith}
use Rattle.std.specs.Int.{to_be_bytes, from_be_bytes, w64}
use Rattle.std.proofs.lemmas.Nat.{from_be_bytes-to_be_bytes_8}
use Rattle.std.proofs.lemmas.Bool.{eq-eqb, ne_eqb, false≢true, cases_lt}
use Rattle.std.proofs.lemmas.List.{get_or_default}
use Rattle.ports.specs.Bytes.{bytes_at}
use Rattle.ports.proofs.Parts.{bytes_at-within}
use Rattle.store_model.specs.Slots.{slot_start, slot_of, device_size, number_bytes}
use Rattle.store_model.specs.Damage as damage
use Rattle.store_model.specs.Damage.{Fault, is_open_slot, round_in, changed_of, is_good_slot, slot_fault, device_fault, ValuesDamaged}
use Rattle.store_reader.specs.declared.store.SlotHead.{SlotHead}
use Rattle.store_reader.specs.Reading.{TellsHead}

-- the two numbers
first_eight : (round changed : ℕ) → take 8 (number_bytes round changed) ≡ to_be_bytes w64 round
first_eight round changed = refl

second_eight : (round changed : ℕ) → take 8 (drop 8 (number_bytes round changed)) ≡ to_be_bytes w64 changed
second_eight round changed = refl

pub round_read : (own slot : ℕ) (head : SlotHead) (told : List ℕ) → head.round < 2 ^ 64 → TellsHead own slot head told → round_in own slot told ≡ head.round
round_read own slot head told fits tells =
    ap (from_be_bytes w64)
    (sym (bytes_at-within (slot_start own slot + 8) 16 0 8 told (omega arith) ∙ ap (λ n. bytes_at n 8 told) (omega arith))
    ∙ ap (take 8) tells.numbers ∙ first_eight head.round head.changed)
    ∙ from_be_bytes-to_be_bytes_8 head.round fits

pub changed_read : (own slot : ℕ) (head : SlotHead) (told : List ℕ) → head.changed < 2 ^ 64 → TellsHead own slot head told → changed_of own slot told ≡ head.changed
changed_read own slot head told fits tells =
    ap (from_be_bytes w64)
    (sym (bytes_at-within (slot_start own slot + 8) 16 8 8 told (omega arith) ∙ ap (λ n. bytes_at n 8 told) (omega arith))
    ∙ ap (λ xs. take 8 (drop 8 xs)) tells.numbers ∙ second_eight head.round head.changed)
    ∙ from_be_bytes-to_be_bytes_8 head.changed fits

pub open_read : (own slot : ℕ) (head : SlotHead) (told : List ℕ) → TellsHead own slot head told → is_open_slot own slot told ≡ head.is_open
open_read own slot head told tells = by_test head.is_open refl
  where
    by_test : (found : Bool) → head.is_open ≡ found → is_open_slot own slot told ≡ head.is_open
    by_test true is = eq-eqb _ 165 (tells.gate.0 (subst IsTrue (sym is) refl)) ∙ sym is
    by_test false is = ne_eqb _ 165 (λ same. absurd (false≢true (subst IsTrue is (tells.gate.1 same)))) ∙ sym is

-- whether the slot is well formed
pub open_slot_test : (own slot : ℕ) (head : SlotHead) (told : List ℕ) (good : Bool) → head.round < 2 ^ 64 → head.changed < 2 ^ 64 → TellsHead own slot head told → head.is_open ≡ true
    → good ≡ ((slot_of head.round == slot) && nat_le head.round 1000000 && nat_le head.changed own) → is_good_slot own slot told ≡ good
open_slot_test own slot head told good fits fits' tells opened is =
    ap (λ b. not b || ((slot_of (round_in own slot told) == slot) && nat_le (round_in own slot told) 1000000 && nat_le (changed_of own slot told) own)) (open_read own slot head told tells ∙ opened)
    ∙ ap (λ n. (slot_of n == slot) && nat_le n 1000000 && nat_le (changed_of own slot told) own) (round_read own slot head told fits tells)
    ∙ ap (λ n. (slot_of head.round == slot) && nat_le head.round 1000000 && nat_le n own) (changed_read own slot head told fits' tells)
    ∙ sym is

pub closed_slot_test : (own slot : ℕ) (head : SlotHead) (told : List ℕ) → TellsHead own slot head told → head.is_open ≡ false → is_good_slot own slot told ≡ true
closed_slot_test own slot head told tells closed =
    ap (λ b. not b || ((slot_of (round_in own slot told) == slot) && nat_le (round_in own slot told) 1000000 && nat_le (changed_of own slot told) own)) (open_read own slot head told tells ∙ closed)

pub bad_slot : (own e slot : ℕ) (told : List ℕ) → is_good_slot own slot told ≡ false → slot_fault own e slot told ≡ Some (ValuesDamaged e (slot_start own slot))
bad_slot own e slot told bad = ap (λ b. if b then None else Some (ValuesDamaged e (slot_start own slot))) bad

-- The checks of one values device.
pub wrong_size : (own e : ℕ) (told : List ℕ) → (length told ≡ device_size own → ⊥) → device_fault own e told ≡ Some (ValuesDamaged e 0)
wrong_size own e told other =
    ap (λ b. if b then damage.first_of (slot_fault own e 0 told ∷ slot_fault own e 1 told ∷ []) else Some (ValuesDamaged e 0)) (ne_eqb (length told) (device_size own) other)

pub right_size : (own e : ℕ) (told : List ℕ) (first second : Option Fault) → length told ≡ device_size own → slot_fault own e 0 told ≡ first → slot_fault own e 1 told ≡ second → device_fault own e told ≡ damage.first_of (first ∷ second ∷ [])
right_size own e told first second exact one two =
    ap (λ b. if b then damage.first_of (slot_fault own e 0 told ∷ slot_fault own e 1 told ∷ []) else Some (ValuesDamaged e 0)) (eq-eqb (length told) (device_size own) exact)
    ∙ ap (λ f. damage.first_of (f ∷ slot_fault own e 1 told ∷ [])) one
    ∙ ap (λ f. damage.first_of (first ∷ f ∷ [])) two

pub good_slot : (own e slot : ℕ) (told : List ℕ) → is_good_slot own slot told ≡ true → slot_fault own e slot told ≡ None
good_slot own e slot told good = ap (λ b. if b then None else Some (ValuesDamaged e (slot_start own slot))) good

pub first_slot : (own e : ℕ) (told : List ℕ) (fault : Fault) → length told ≡ device_size own → slot_fault own e 0 told ≡ Some fault → device_fault own e told ≡ Some fault
first_slot own e told fault exact found = right_size own e told (Some fault) (slot_fault own e 1 told) exact found refl

-- what is so of the entries below a number, and of the one there
pub below_and_here : {X : Type 0} (P : ℕ → X → Type 0) (xs : List X) (e : ℕ) (x : X) → x ≡ get_or xs e x → e < length xs → ((k : ℕ) (d : X) → k < e → P k (get_or xs k d)) → P e x → (k : ℕ) (d : X) → k < e + 1 → P k (get_or xs k d)
below_and_here {X} P xs e x is within below here k d less = elim (cases_lt k e) [
  | inl before ↦ below k d before
  | inr from ↦
      let same : e ≡ k = omega arith in
      subst (λ (j : ℕ). P j (get_or xs j d)) same (subst (P e) (is ∙ get_or_default xs e x d within) here)
]
