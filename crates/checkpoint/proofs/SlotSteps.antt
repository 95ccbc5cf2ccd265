-- What writes within one slot, done or torn, leave of both.
use Rattle.std.proofs.Common.{◌≡◌, ℕ, ◌+◌, ◌-◌, ◌*◌, ◌<◌, ◌≤◌, List, [], ◌∷◌, length, drop, get_or, Option, Some, None, IfSome, IsSome, Bool, true, false, not, IsTrue, inl, inr, refl, sym, ◌∙◌, ap, subst, arith}
use Rattle.std.proofs.lemmas.Bool.{cases_eq}
use Rattle.std.proofs.lemmas.List.{get_or-take, get_or-drop}
use Rattle.graph_model.specs.declared.value.Value.{Value}
use Rattle.ports.specs.Bytes.{Torn, Same, bytes_at, after_write}
use Rattle.ports.specs.Disk.{DiskState, IsDisk, IsSettled, InEveryImage, After, Changes}
use Rattle.ports.specs.Stops.{Leaves}
use Rattle.ports.specs.Told.{AsTold}
use Rattle.ports.proofs.Parts.{bytes_at-torn, bytes_at-after_write, torn_after_write, torn_byte, length-torn}
use Rattle.ports.proofs.Stops.{started, by_one, joined, weaker, leaves_now}
use Rattle.ports.proofs.Told.{as_told_then, settled_from, present_at, sized_at}
use Rattle.store_model.specs.Slots.{slot_size, slot_start, set_start, device_size, slot_bytes, slot_numbers, slot_values, number_bytes, values_bytes, IsOpen, IsClosed, HoldsRound}
use Rattle.store_model.proofs.SlotLemmas.{slot_within, slots_lie}
use Rattle.store_model.proofs.SlotBytes.{closed_still}
use Rattle.store_reader.specs.declared.store.SlotHead.{SlotHead}
use Rattle.store_reader.specs.Reading.{TellsHead}
use Rattle.checkpoint.specs.Storing.{WhileStoring, KeepsOther}
use Rattle.checkpoint.specs.SlotStates.{HasExactSize, SameOther, WhileClosing, WhileWriting, WhileOpening, IsOpenWith}

-- the byte at a place is the first of the bytes from it on
byte_at : (at : ℕ) (bytes : List ℕ) → get_or (bytes_at at 1 bytes) 0 0 ≡ get_or bytes at 0
byte_at at bytes =
    let here : at + 0 ≡ at = omega arith in
    get_or-take 1 (drop at bytes) 0 0 (omega arith) ∙ get_or-drop at bytes 0 0 ∙ ap (λ n. get_or bytes n 0) here

-- the gate that was written
gate_of-after_write : (at gate : ℕ) (old : List ℕ) → at ≤ length old → get_or (after_write at (gate ∷ []) old) at 0 ≡ gate
gate_of-after_write at gate old within =
    sym (byte_at at (after_write at (gate ∷ []) old)) ∙ ap (λ bytes. get_or bytes 0 0) (bytes_at-after_write at (gate ∷ []) old within)

is_true : (b : Bool) → not b ≡ false → IsTrue b
is_true true is = refl
is_true false is = sym is

-- what the head of a slot tells of its gate
pub told_gate : (own slot : ℕ) (head : SlotHead) (x : Option (List ℕ)) → not head.is_open ≡ false → IfSome x (TellsHead own slot head) → IfSome x (IsOpen own slot)
told_gate own slot head (Some bytes) is_open tells = tells.gate.0 (is_true head.is_open is_open)
told_gate own slot head None is_open tells = tt

module _ (own slot : ℕ) (small : slot < 2) where
  -- a write within one slot leaves the other
  pub other_stays : (at n : ℕ) (old new : List ℕ) → Torn at n old new → slot_start own slot ≤ at → at + n ≤ slot_start own slot + slot_size own → length old ≡ device_size own →
      SameOther own slot old new
  other_stays at n old new torn from to long =
      bytes_at-torn at n old new (slot_start own (1 - slot)) (slot_size own) torn
      (elim (slots_lie own slot small) [ inl lies ↦ inr (omega (arith, lies.0, lies.1)) | inr lies ↦ inl (omega (arith, lies.0, lies.1)) ])
      (elim (slots_lie own slot small) [ inl lies ↦ omega (arith, lies.0, lies.1) | inr lies ↦ omega (arith, lies.0, lies.1) ])

  -- and one behind the gate leaves it closed
  pub closed_stays : (at n : ℕ) (old new : List ℕ) → Torn at n old new → slot_start own slot < at → length old ≡ device_size own → IsClosed own slot old → IsClosed own slot new
  closed_stays at n old new torn behind long closed = λ is_open.
      let within : slot_start own slot < length old = omega (arith, slot_within own slot small) in
      closed (sym (torn.stays (slot_start own slot) within (inl behind)) ∙ is_open)

  -- of a device that tells its bytes
  pub told_other : (at n size : ℕ) (x y : Option (List ℕ)) → IfSome x (λ bytes. size ≡ length bytes) → size ≡ device_size own → slot_start own slot ≤ at → at + n ≤ slot_start own slot + slot_size own →
      AsTold (Torn at n) x y → AsTold (SameOther own slot) x y
  told_other at n size (Some a) (Some b) sized exact from to torn = other_stays at n a b torn from to (sym sized ∙ exact)
  told_other at n size (Some a) None sized exact from to torn = torn
  told_other at n size None (Some b) sized exact from to torn = torn
  told_other at n size None None sized exact from to torn = tt

  -- Closing. Before any call, and after a sync, each image is one of the start.
  pub as_at_start : (start synced : DiskState) → InEveryImage synced (After Same start) → InEveryImage synced (WhileClosing own slot start)
  as_at_start start synced images c image =
      let before : After Same start c = images c image in
      record { image = c; is_image = subst start.images (sym before.2) before.1; long = refl; other = refl; itself = inl refl }

  pub synced_run : (number : ℕ) (start synced : DiskState) → IsDisk start → Changes number Same start synced → Leaves number start synced (WhileClosing own slot start)
  synced_run number start synced law changes =
      by_one number start synced Same (WhileClosing own slot start) law changes
      (λ c image. record { image = c; is_image = image; long = refl; other = refl; itself = inl refl })
      (as_at_start start synced changes.images)

  -- closing an open gate
  closing : (start : DiskState) (d c : List ℕ) → start.images d → length d ≡ device_size own → IsOpen own slot d → Torn (slot_start own slot) 1 d c → WhileClosing own slot start c
  closing start d c image long open_gate torn = record {
    image = d;
    is_image = image;
    long = length-torn (slot_start own slot) 1 d c torn (omega (arith, slot_within own slot small, long));
    other = other_stays (slot_start own slot) 1 d c torn (omega arith) (omega arith) long;
    itself = elim (cases_eq (get_or c (slot_start own slot) 0) 165) [
      | inl still ↦
          let within : slot_start own slot < length d = omega (arith, slot_within own slot small, long) in
          inl (ap (slot_bytes own slot) (torn_byte (slot_start own slot) d c torn within (still ∙ sym open_gate)))
      | inr closed ↦ inr closed
    ];
  }

  pub closing_run : (number : ℕ) (start synced new : DiskState) → IsDisk start → IsDisk synced → Changes number Same start synced → IsSettled synced → synced.size ≡ device_size own →
      IfSome synced.bytes (IsOpen own slot) → Leaves number synced new (After (Torn (slot_start own slot) 1) synced) → Leaves number start new (WhileClosing own slot start)
  closing_run number start synced new law synced_law changes settled exact open_gate run =
      joined number start synced new (WhileClosing own slot start) (After (Torn (slot_start own slot) 1) synced)
      (synced_run number start synced law changes) run
      (λ c after.
      let told : synced.bytes ≡ Some after.0 = settled after.0 after.1 in
      let before : After Same start after.0 = changes.images after.0 after.1 in
      closing start after.0 c (subst start.images (sym before.2) before.1)
      (sym (sized_at synced after.0 synced_law told) ∙ exact)
      (subst (λ (x : Option (List ℕ)). IfSome x (IsOpen own slot)) told open_gate) after.2)

  -- once the gate was written and synced
  pub gate_closed : (synced new : DiskState) → IsDisk synced → synced.size ≡ device_size own → IsSettled new →
      AsTold (λ before now. now ≡ after_write (slot_start own slot) (0 ∷ []) before) synced.bytes new.bytes → InEveryImage new (IsClosed own slot)
  gate_closed synced new law exact settled told c image = λ is_open.
      let from = settled_from synced new (λ before now. now ≡ after_write (slot_start own slot) (0 ∷ []) before) settled told c image in
      let within : slot_start own slot ≤ length from.0 = omega (arith, slot_within own slot small, sized_at synced from.0 law from.1) in
      let gate : get_or c (slot_start own slot) 0 ≡ 0 = ap (λ bytes. get_or bytes (slot_start own slot) 0) from.2 ∙ gate_of-after_write (slot_start own slot) 0 from.0 within in
      let none : ⊥ = omega (arith, gate, is_open) in absurd none

  pub gate_opened : (before new : DiskState) → IsDisk before → before.size ≡ device_size own → IsSettled new →
      AsTold (λ before now. now ≡ after_write (slot_start own slot) (165 ∷ []) before) before.bytes new.bytes → InEveryImage new (IsOpen own slot)
  gate_opened before new law exact settled told c image =
      let from = settled_from before new (λ old now. now ≡ after_write (slot_start own slot) (165 ∷ []) old) settled told c image in
      let within : slot_start own slot ≤ length from.0 = omega (arith, slot_within own slot small, sized_at before from.0 law from.1) in
      ap (λ bytes. get_or bytes (slot_start own slot) 0) from.2 ∙ gate_of-after_write (slot_start own slot) 165 from.0 within

  -- Writing behind a closed gate.
  pub writing : (at n : ℕ) (start : DiskState) (c : List ℕ) → HasExactSize own start → InEveryImage start (IsClosed own slot) → slot_start own slot < at → at + n ≤ slot_start own slot + slot_size own →
      After (Torn at n) start c → WhileWriting own slot start c
  writing at n start c exact closed behind to after = record {
    image = after.0;
    is_image = after.1;
    long = length-torn at n after.0 c after.2 (omega (arith, to, slot_within own slot small, exact.images after.0 after.1));
    other = other_stays at n after.0 c after.2 (omega arith) to (exact.images after.0 after.1);
    closed = closed_stays at n after.0 c after.2 behind (exact.images after.0 after.1) (closed after.0 after.1);
  }

  pub exact_after : (at n : ℕ) (start new : DiskState) → HasExactSize own start → at + n ≤ device_size own → new.size ≡ start.size → InEveryImage new (After (Torn at n) start) → HasExactSize own new
  exact_after at n start new exact to size images = record {
    now = size ∙ exact.now;
    images = λ c image.
        let after : After (Torn at n) start c = images c image in
        let long : length after.0 ≡ device_size own = exact.images after.0 after.1 in
        length-torn at n after.0 c after.2 (omega (arith, long)) ∙ long;
  }

  -- Opening.
  module _ (round changed : ℕ) where
    -- while the numbers are written, the gate is closed
    pub numbering : (start : DiskState) (c : List ℕ) → HasExactSize own start → InEveryImage start (IsClosed own slot) →
        After (Torn (slot_start own slot + 8) 16) start c → WhileOpening own slot round changed start c
    numbering start c exact closed after =
        let written : WhileWriting own slot start c = writing (slot_start own slot + 8) 16 start c exact closed (omega arith) (omega arith) after in
        record {
          image = written.image;
          is_image = written.is_image;
          long = written.long;
          other = written.other;
          numbers = λ is_open. absurd (written.closed is_open);
          values = λ is_open. absurd (written.closed is_open);
        }

    -- then the gate is written over bytes that are synced
    pub gating : (start : DiskState) (read d c : List ℕ) → IsDisk start → start.bytes ≡ Some read → length read ≡ device_size own →
        d ≡ after_write (slot_start own slot + 8) (number_bytes round changed) read → Torn (slot_start own slot) 1 d c → WhileOpening own slot round changed start c
    gating start read d c law told long is torn =
        let at : ℕ = slot_start own slot in
        let first : Torn (at + 8) 16 read d = subst (λ bytes. Torn (at + 8) 16 read bytes) (sym is) (torn_after_write (at + 8) (number_bytes round changed) read) in
        let within : at + slot_size own ≤ device_size own = slot_within own slot small in
        let same_length : length d ≡ length read = length-torn (at + 8) 16 read d first (omega arith) in
        let values : slot_values own slot c ≡ slot_values own slot read =
        bytes_at-torn at 1 d c (at + 24) (16 * own) torn (inr (omega arith)) (omega arith)
        ∙ bytes_at-torn (at + 8) 16 read d (at + 24) (16 * own) first (inr (omega arith)) (omega arith) in
        let numbers : slot_numbers own slot c ≡ number_bytes round changed =
        bytes_at-torn at 1 d c (at + 8) 16 torn (inr (omega arith)) (omega arith)
        ∙ ap (bytes_at (at + 8) 16) is
        ∙ bytes_at-after_write (at + 8) (number_bytes round changed) read (omega arith) in
        record {
          image = read;
          is_image = present_at start read law told;
          long = length-torn at 1 d c torn (omega (arith, same_length, long, within)) ∙ same_length;
          other = other_stays at 1 d c torn (omega arith) (omega arith) (same_length ∙ long) ∙ other_stays (at + 8) 16 read d first (omega arith) (omega arith) long;
          numbers = λ is_open. numbers;
          values = λ is_open. subst (λ (x : Option (List ℕ)). IfSome x (λ other. slot_values own slot c ≡ slot_values own slot other)) (sym told) values;
        }

    pub opening_run : (number : ℕ) (start mid new : DiskState) → IsDisk start → HasExactSize own start → InEveryImage start (IsClosed own slot) →
        Leaves number start mid (After (Torn (slot_start own slot + 8) 16) start) → IsSettled mid →
        AsTold (λ before now. now ≡ after_write (slot_start own slot + 8) (number_bytes round changed) before) start.bytes mid.bytes →
        Leaves number mid new (After (Torn (slot_start own slot) 1) mid) → Leaves number start new (WhileOpening own slot round changed start)
    opening_run number start mid new law exact closed first settled told next =
        joined number start mid new (WhileOpening own slot round changed start) (After (Torn (slot_start own slot) 1) mid)
        (weaker number start mid (After (Torn (slot_start own slot + 8) 16) start) (WhileOpening own slot round changed start) first (λ c. numbering start c exact closed)) next
        (λ c after.
        let from = settled_from start mid (λ before now. now ≡ after_write (slot_start own slot + 8) (number_bytes round changed) before) settled told after.0 after.1 in
        gating start from.0 after.0 c law from.1 (sym (sized_at start from.0 law from.1) ∙ exact.now) from.2 after.2)

-- what two devices that tell are related by
pub told_two : (R : List ℕ → List ℕ → Type 0) (x y : Option (List ℕ)) (read now : List ℕ) → x ≡ Some read → y ≡ Some now → AsTold R x y → R read now
told_two R x y read now told_x told_y related =
    subst (λ (z : Option (List ℕ)). AsTold R (Some read) z) told_y (subst (λ (z : Option (List ℕ)). AsTold R z y) told_x related)

-- values that are written to a slot leave the other
pub set_told_other : (own slot before count size : ℕ) (x y : Option (List ℕ)) → slot < 2 → before + count ≤ own → IfSome x (λ bytes. size ≡ length bytes) → size ≡ device_size own →
    AsTold (Torn (set_start own slot before) (16 * count)) x y → AsTold (SameOther own slot) x y
set_told_other own slot before count size x y small fits sized exact torn =
    told_other own slot small (set_start own slot before) (16 * count) size x y sized exact (omega arith) (omega arith) torn

-- before any call on a closed slot
pub closed_start : (own slot number : ℕ) (start : DiskState) → IsDisk start → InEveryImage start (IsClosed own slot) → Leaves number start start (WhileWriting own slot start)
closed_start own slot number start law closed =
    started number start (WhileWriting own slot start) law (λ c image. record { image = c; is_image = image; long = refl; other = refl; closed = closed c image })

-- further writes to the closed slot
pub writing_on : (own slot number : ℕ) (start mid new : DiskState) → IsDisk mid → Leaves number start mid (WhileClosing own slot start) → Leaves number mid new (WhileWriting own slot mid) →
    Leaves number start new (WhileClosing own slot start)
writing_on own slot number start mid new law first next =
    joined number start mid new (WhileClosing own slot start) (WhileWriting own slot mid) first next
    (λ c while.
    let before : WhileClosing own slot start while.image = leaves_now number start mid (WhileClosing own slot start) law first while.image while.is_image in
    record { image = before.image; is_image = before.is_image; long = while.long ∙ before.long; other = while.other ∙ before.other; itself = inr while.closed })

told_values : (own slot : ℕ) (values : List Value) (x : Option (List ℕ)) (c : List ℕ) → IfSome x (λ read. slot_values own slot c ≡ slot_values own slot read) →
    IfSome x (λ read. slot_values own slot read ≡ values_bytes values) → IsSome x → slot_values own slot c ≡ values_bytes values
told_values own slot values (Some read) c same stand some = same ∙ stand
told_values own slot values None c same stand some = let none : ⊥ = cc in absurd none

-- and what opens it at last
pub storing_on : (own slot round changed number : ℕ) (values : List Value) (start mid new : DiskState) → IsDisk mid → Leaves number start mid (WhileClosing own slot start) →
    Leaves number mid new (WhileOpening own slot round changed mid) → IfSome mid.bytes (λ read. slot_values own slot read ≡ values_bytes values) →
    Leaves number start new (WhileStoring own slot round changed values start)
storing_on own slot round changed number values start mid new law first next stand =
    joined number start mid new (WhileStoring own slot round changed values start) (WhileOpening own slot round changed mid)
    (weaker number start mid (WhileClosing own slot start) (WhileStoring own slot round changed values start) first
    (λ c while. record { image = while.image; is_image = while.is_image; long = while.long; other = while.other; itself = elim while.itself [ inl same ↦ inl same | inr closed ↦ inr (inl closed) ] }))
    next
    (λ c while.
    let before : WhileClosing own slot start while.image = leaves_now number start mid (WhileClosing own slot start) law first while.image while.is_image in
    record {
      image = before.image;
      is_image = before.is_image;
      long = while.long ∙ before.long;
      other = while.other ∙ before.other;
      itself = elim (cases_eq (get_or c (slot_start own slot) 0) 165) [
        | inl is_open ↦ inr (inr (record {
          is_open = is_open;
          numbers = while.numbers is_open;
          values_are = told_values own slot values mid.bytes c (while.values is_open) stand (law.told while.image while.is_image);
        }))
        | inr closed ↦ inr (inl closed)
      ];
    })

-- the other slot stays in each of these
pub other_while_storing : (own slot number : ℕ) (start mid new : DiskState) (round changed : ℕ) → IsDisk mid → Leaves number start mid (WhileClosing own slot start) → Leaves number mid new (WhileOpening own slot round changed mid) →
    Leaves number start new (KeepsOther own slot start)
other_while_storing own slot number start mid new round changed law first next =
    joined number start mid new (KeepsOther own slot start) (WhileOpening own slot round changed mid)
    (weaker number start mid (WhileClosing own slot start) (KeepsOther own slot start) first (λ c while. record { image = while.image; is_image = while.is_image; long = while.long; other = while.other }))
    next
    (λ c while.
    let before : WhileClosing own slot start while.image = leaves_now number start mid (WhileClosing own slot start) law first while.image while.is_image in
    record { image = before.image; is_image = before.is_image; long = while.long ∙ before.long; other = while.other ∙ before.other })

-- a run on a slot that is closed already
pub closing_on : (own slot number : ℕ) (start mid new : DiskState) → IsDisk mid → InEveryImage mid (IsClosed own slot) → Leaves number start mid (WhileClosing own slot start) → Leaves number mid new (WhileClosing own slot mid) →
    Leaves number start new (WhileClosing own slot start)
closing_on own slot number start mid new law closed first next =
    joined number start mid new (WhileClosing own slot start) (WhileClosing own slot mid) first next
    (λ c while.
    let before : WhileClosing own slot start while.image = leaves_now number start mid (WhileClosing own slot start) law first while.image while.is_image in
    record {
      image = before.image;
      is_image = before.is_image;
      long = while.long ∙ before.long;
      other = while.other ∙ before.other;
      itself = inr (elim while.itself [ inl same ↦ closed_still own slot while.image c same (closed while.image while.is_image) | inr is_closed ↦ is_closed ]);
    })

pub keeps_other : (own slot number : ℕ) (start new : DiskState) → Leaves number start new (WhileClosing own slot start) → Leaves number start new (KeepsOther own slot start)
keeps_other own slot number start new run =
    weaker number start new (WhileClosing own slot start) (KeepsOther own slot start) run (λ c while. record { image = while.image; is_image = while.is_image; long = while.long; other = while.other })

pub not_yet : (own slot round changed number : ℕ) (values : List Value) (start new : DiskState) → Leaves number start new (WhileClosing own slot start) → Leaves number start new (WhileStoring own slot round changed values start)
not_yet own slot round changed number values start new run =
    weaker number start new (WhileClosing own slot start) (WhileStoring own slot round changed values start) run
    (λ c while. record { image = while.image; is_image = while.is_image; long = while.long; other = while.other; itself = elim while.itself [ inl same ↦ inl same | inr closed ↦ inr (inl closed) ] })

-- once it is open, whatever it holds
pub open_now : (own slot round changed number : ℕ) (mid new : DiskState) → IsDisk new → Leaves number mid new (WhileOpening own slot round changed mid) → InEveryImage new (IsOpen own slot) →
    InEveryImage new (IsOpenWith own slot round changed)
open_now own slot round changed number mid new law run opened c image =
    let while : WhileOpening own slot round changed mid c = leaves_now number mid new (WhileOpening own slot round changed mid) law run c image in
    record { is_open = opened c image; numbers = while.numbers (opened c image) }

-- and with the values that were written
pub holds_now : (own slot round changed number : ℕ) (values : List Value) (mid new : DiskState) → IsDisk mid → IsDisk new → Leaves number mid new (WhileOpening own slot round changed mid) → InEveryImage new (IsOpen own slot) →
    IfSome mid.bytes (λ read. slot_values own slot read ≡ values_bytes values) → InEveryImage new (HoldsRound own slot round changed values)
holds_now own slot round changed number values mid new mid_law law run opened stand c image =
    let while : WhileOpening own slot round changed mid c = leaves_now number mid new (WhileOpening own slot round changed mid) law run c image in
    let now : IsOpenWith own slot round changed c = open_now own slot round changed number mid new law run opened c image in
    record {
      is_open = now.is_open;
      numbers = now.numbers;
      values_are = told_values own slot values mid.bytes c (while.values (opened c image)) stand (mid_law.told while.image while.is_image);
    }

-- the other slot of one call, and then of another
pub same_other_then : (own slot : ℕ) (x y z : Option (List ℕ)) → AsTold (SameOther own slot) x y → AsTold (SameOther own slot) y z → AsTold (SameOther own slot) x z
same_other_then own slot x y z = as_told_then (SameOther own slot) (SameOther own slot) (SameOther own slot) (λ a b c first next. next ∙ first) x y z
