-- One graph device whose gate is closed.
use Rattle.std.proofs.Common.{◌≡◌, ℕ, ◌≤◌, ◌==◌, Bool, true, false, max, List, get_or, inl, inr, refl, sym, ◌∙◌, subst, arith}
use Rattle.std.proofs.lemmas.Bool.{eqb-true, eqb-false}
use Rattle.ports.specs.Bytes.{Same, Torn}
use Rattle.ports.specs.Disk.{DiskState, IsDisk, InEveryImage, IsSettled, Changes, After}
use Rattle.ports.specs.Stops.{Leaves}
use Rattle.ports.proofs.Parts.{torn_byte}
use Rattle.ports.proofs.Stops.{by_one, joined}
use Rattle.ports.specs.Told.{AsTold}
use Rattle.ports.proofs.Told.{settled_has, told_on}
use Rattle.store_model.specs.Heads.{IsOpenGraph}
use Rattle.store_reader.specs.Devices.{IsOpenDevice}
use Rattle.restart.specs.Dropping.{IsAsBeforeOrShut, Closes}

-- an image after a sync is one from before it
as_before : (number : ℕ) (start synced : DiskState) → Changes number Same start synced → InEveryImage synced start.images
as_before number start synced changes c image =
    let before : After Same start c = changes.images c image in subst start.images (sym before.2) before.1

-- a torn gate that comes out open has changed nothing
torn_gate : (start : DiskState) (c d : List ℕ) → start.images d → IsOpenGraph d → Torn 0 1 d c → IsAsBeforeOrShut start c
torn_gate start c d image is_open torn = by_test (get_or c 0 0 == 165) refl
  where
    by_test : (found : Bool) → (get_or c 0 0 == 165) ≡ found → IsAsBeforeOrShut start c
    by_test true is =
        let same : c ≡ d = torn_byte 0 d c torn (omega (arith, is_open.whole)) (eqb-true _ _ is ∙ sym is_open.gate) in
        inl (subst start.images (sym same) image)
    by_test false is = inr (λ opened. eqb-false _ _ is opened.gate)

-- **Closing an open gate leaves the device as it was, or not open.**
pub closes_open : (number : ℕ) (start synced new : DiskState) → IsDisk start → Changes number Same start synced → IsSettled synced → synced.size ≡ start.size → start.faults ≤ synced.faults
    → IsOpenDevice synced → Leaves number synced new (After (Torn 0 1) synced) → AsTold (Torn 0 1) synced.bytes new.bytes
    → synced.size ≤ new.size → new.size ≤ max synced.size 1 → new.beat ≡ number → synced.faults ≤ new.faults → Closes number start new
closes_open number start synced new law changes settled size counted is_open run written no_shorter no_longer beat counted' = record {
  leaves = joined number start synced new (IsAsBeforeOrShut start) (After (Torn 0 1) synced)
      (by_one number start synced Same (IsAsBeforeOrShut start) law changes (λ c image. inl image) (λ c image. inl (as_before number start synced changes c image)))
      run
      (λ c after. torn_gate start c after.0 (as_before number start synced changes after.0 after.1) (settled_has synced IsOpenGraph settled is_open.gate after.0 after.1) after.2);
  size = omega (arith, is_open.whole);
  goes_on = record {
    beat = λ before. omega arith;
    faults = omega arith;
    told = λ bytes is. let then = told_on Same start.bytes synced.bytes changes.bytes bytes is in told_on (Torn 0 1) synced.bytes new.bytes written then.0 then.1;
  };
}
