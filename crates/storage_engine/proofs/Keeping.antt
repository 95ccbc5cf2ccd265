-- Calls that keep what is true of every image, one after another.
use Rattle.std.proofs.Common.{◌≡◌, ◌∙◌, ℕ, zero, suc, ◌+◌, ◌<◌, ◌≤◌, ◌==◌, max, Bool, true, false, List, [], ◌∷◌, ◌++◌, length, drop, get_or, Option, Some, None, IfSome, Result, Ok, Err, OnOk, inl, inr, refl, ap, sym, subst, arith}
use Rattle.std.proofs.lemmas.Bool.{eqb-true, eqb-false}
use Rattle.std.proofs.lemmas.List.{ext_get_or, get_or-drop, length-drop}
use Rattle.ports.specs.Bytes.{after_write, Torn, Same}
use Rattle.ports.specs.Disk.{DiskState, IsDisk, InEveryImage, IsSettled, Changes, After}
use Rattle.ports.specs.Told.{AsTold}
use Rattle.ports.proofs.Parts.{length-torn, after_write-end}
use Rattle.ports.proofs.Stops.{started, by_one, joined, leaves_now, weaker}
use Rattle.ports.proofs.Told.{as_told_same, as_told_then, as_told_weaker}
use Rattle.store_model.specs.Heads.{IsShutGraph}
use Rattle.storage_engine.specs.Steps.{Anything, Any, Keeps, Step, IsClosedFront, ShutOrOpened, Appended, Opens}

-- a call of this kind keeps P
abbrev pub Through : (List ℕ → List ℕ → Type 0) → (List ℕ → Type 0) → Type 0
Through part P = (a b : List ℕ) → part a b → P a → P b

pub after_has : (part : List ℕ → List ℕ → Type 0) (P : List ℕ → Type 0) (old new : DiskState) → Through part P → InEveryImage old P → InEveryImage new (After part old) → InEveryImage new P
after_has part P old new through all images c image =
    let before = images c image in through before.0 c before.2 (all before.0 before.1)

-- a device tells its bytes or not, whatever they are
pub told_same : (disk : DiskState) → AsTold Any disk.bytes disk.bytes
told_same disk = as_told_same Any (λ a. tt) disk.bytes

pub told_then : (old mid new : DiskState) → AsTold Any old.bytes mid.bytes → AsTold Any mid.bytes new.bytes → AsTold Any old.bytes new.bytes
told_then old mid new first next = as_told_then Any Any Any (λ a b c p q. tt) old.bytes mid.bytes new.bytes first next

pub told_any : (part : List ℕ → List ℕ → Type 0) (old new : DiskState) → AsTold part old.bytes new.bytes → AsTold Any old.bytes new.bytes
told_any part old new told = as_told_weaker part Any (λ a b p. tt) old.bytes new.bytes told

pub step_same : (P : List ℕ → Type 0) (number : ℕ) (disk : DiskState) → IsDisk disk → Step P number disk disk
step_same P number disk law = record {
  keeps = started number disk (λ c. InEveryImage disk P → P c) law (λ c image all. all c image);
  faults = omega arith;
  told = told_same disk;
  beat = λ before. before;
}

-- one call
pub step_call : (P : List ℕ → Type 0) (number : ℕ) (part : List ℕ → List ℕ → Type 0) (old new : DiskState) → IsDisk old → Changes number part old new → old.faults ≤ new.faults → Through part P → Step P number old new
step_call P number part old new law changes faults through = record {
  keeps = by_one number old new part (λ c. InEveryImage old P → P c) law changes (λ c image all. all c image)
      (λ c image all. after_has part P old new through all changes.images c image);
  faults = faults;
  told = told_any part old new changes.bytes;
  beat = λ before. omega (arith, changes.beat);
}

-- what every image had, every image has
pub keeps_now : (P : List ℕ → Type 0) (number : ℕ) (old new : DiskState) → IsDisk new → Keeps P number old new → InEveryImage old P → InEveryImage new P
keeps_now P number old new law keeps all c image = leaves_now number old new (λ b. InEveryImage old P → P b) law keeps c image all

-- one run and then another
pub step_then : (P : List ℕ → Type 0) (number : ℕ) (old mid new : DiskState) → IsDisk mid → Step P number old mid → Step P number mid new → Step P number old new
step_then P number old mid new law first next = record {
  keeps = joined number old mid new (λ c. InEveryImage old P → P c) (λ c. InEveryImage mid P → P c) first.keeps next.keeps
      (λ c kept all. kept (keeps_now P number old mid law first.keeps all));
  faults = omega (arith, first.faults, next.faults);
  told = told_then old mid new first.told next.told;
  beat = λ before. next.beat (first.beat before);
}

-- a gate that is closed is shut
pub closed_shut : (c : List ℕ) → IsClosedFront c → IsShutGraph c
closed_shut c closed = λ gate_open. closed.closed gate_open.gate

-- so what keeps closed gates closed keeps them shut
pub closed_step : (number : ℕ) (old new : DiskState) → InEveryImage old IsClosedFront → Step IsClosedFront number old new → Step IsShutGraph number old new
closed_step number old new all step = record {
  keeps = weaker number old new (λ c. InEveryImage old IsClosedFront → IsClosedFront c) (λ c. InEveryImage old IsShutGraph → IsShutGraph c) step.keeps
      (λ c kept shut. closed_shut c (kept all));
  faults = step.faults;
  told = step.told;
  beat = step.beat;
}

-- a write behind the front leaves the gate closed
pub torn_closed : (at n : ℕ) → 64 ≤ at → Through (Torn at n) IsClosedFront
torn_closed at n behind a b torn closed =
    let same : get_or b 0 0 ≡ get_or a 0 0 = torn.stays 0 (omega (arith, closed.long)) (inl (omega arith)) in
    record {
      long = omega (arith, torn.no_shorter, closed.long);
      closed = λ opened. closed.closed (sym same ∙ opened);
    }

pub same_closed : Through Same IsClosedFront
same_closed a b same closed = subst IsClosedFront (sym same) closed

-- a torn gate that comes out open: all else is as it was
opened_at : (a b : List ℕ) (i : ℕ) → Torn 0 1 a b → i < length a → get_or b 0 0 ≡ 165 → get_or b i 0 ≡ get_or (165 ∷ drop 1 a) i 0
opened_at a b zero torn within is_open = is_open
opened_at a b (suc i) torn within is_open =
    let next : 1 + i ≡ suc i = omega arith in
    torn.stays (suc i) within (inr (omega arith)) ∙ ap (λ n. get_or a n 0) (sym next) ∙ sym (get_or-drop 1 a i 0)

opened : (a b : List ℕ) → Torn 0 1 a b → 0 < length a → get_or b 0 0 ≡ 165 → b ≡ after_write 0 (165 ∷ []) a
opened a b torn some is_open =
    let long : length b ≡ length a = length-torn 0 1 a b torn (omega arith) in
    let long' : length (165 ∷ drop 1 a) ≡ length a = omega (arith, length-drop 1 a) in
    ext_get_or 0 b (165 ∷ drop 1 a) (long ∙ sym long') (λ i within. opened_at a b i torn (omega (arith, within, long)) is_open)

-- what the opening of a gate leaves of a settled device
pub opens : (start : DiskState) → IsSettled start → InEveryImage start IsClosedFront → (c : List ℕ) → After (Torn 0 1) start c → ShutOrOpened start c
opens start settled closed c after = by_test (get_or c 0 0 == 165) refl
  where
    by_test : (found : Bool) → (get_or c 0 0 == 165) ≡ found → ShutOrOpened start c
    by_test true is =
        let front = closed after.0 after.1 in
        let whole : c ≡ after_write 0 (165 ∷ []) after.0 = opened after.0 c after.2 (omega (arith, front.long)) (eqb-true _ _ is) in
        inr (after.0, settled after.0 after.1, whole)
    by_test false is = inl (λ is_open. eqb-false _ _ is is_open.gate)

-- a write at the end
told_at_end : (x y : Option (List ℕ)) (size at : ℕ) (piece : List ℕ) → IfSome x (λ told. size ≡ length told) → size ≡ at → AsTold (λ a b. b ≡ after_write at piece a) x y → AsTold (λ a b. b ≡ a ++ piece) x y
told_at_end (Some a) (Some b) size at piece sized here written = written ∙ after_write-end at piece a (sym here ∙ sized)
told_at_end (Some a) None size at piece sized here written = absurd written
told_at_end None (Some b) size at piece sized here written = absurd written
told_at_end None None size at piece sized here written = tt

pub appended : (at : ℕ) (piece : List ℕ) (old new : DiskState) → IsDisk old → old.size ≡ at → AsTold (λ a b. b ≡ after_write at piece a) old.bytes new.bytes → AsTold (λ a b. b ≡ a ++ piece) old.bytes new.bytes
appended at piece old new law here written = told_at_end old.bytes new.bytes old.size at piece law.sized here written

pub appends : (at : ℕ) (piece : List ℕ) (old new : DiskState) → IsDisk old → old.size ≡ at → AsTold (λ a b. b ≡ after_write at piece a) old.bytes new.bytes → new.size ≡ max old.size (at + length piece) → Appended piece old new
appends at piece old new law here written grown = record { bytes = appended at piece old new law here written; size = omega (arith, here, grown) }

pub on_ok_map : {T E P Q : Type 0} (r : Result T E) → (P → Q) → OnOk r P → OnOk r Q
on_ok_map (Ok x) f p = f p
on_ok_map (Err e) f p = tt

-- a device whose gate is not touched
pub opens_same : (number : ℕ) (disk : DiskState) → IsDisk disk → InEveryImage disk IsClosedFront → Opens number disk disk
opens_same number disk law closed = record {
  leaves = started number disk (ShutOrOpened disk) law (λ c image. inl (closed_shut c (closed c image)));
  faults = omega arith;
  told = told_same disk;
  beat = λ before. before;
}

pub step_anything : (P : List ℕ → Type 0) (number : ℕ) (old new : DiskState) → Step P number old new → Step Anything number old new
step_anything P number old new step = record {
  keeps = weaker number old new (λ c. InEveryImage old P → P c) (λ c. InEveryImage old Anything → Anything c) step.keeps (λ c kept all. tt);
  faults = step.faults;
  told = step.told;
  beat = step.beat;
}
