-- Disks after calls, and after further calls.
use Rattle.std.proofs.Common.{◌∙◌, ℕ, ◌≤◌, List, Vec, get_or, refl, arith}
use Rattle.std.specs.Global.{Global}
use Rattle.ports.specs.Bytes.{CutShort}
use Rattle.ports.specs.Disk.{DiskState, IsDisk, Changes, Continues, ContinuesUnder}
use Rattle.ports.specs.Devices.{Each, EachRow}
use Rattle.ports.specs.Stops.{Empties}
use Rattle.ports.proofs.Parts.{cut_same}
use Rattle.ports.proofs.Stops.{started, in_part}
use Rattle.ports.proofs.Told.{told_on}

pub continues_same : (disk : DiskState) → Continues disk disk
continues_same disk = record { faults = omega arith; told = λ bytes is. (bytes, is) }

pub continues_then : (old mid new : DiskState) → Continues old mid → Continues mid new → Continues old new
continues_then old mid new first next = record {
  faults = omega (arith, first.faults, next.faults);
  told = λ bytes is. let half = first.told bytes is in next.told half.0 half.1;
}

pub under_same : (number : ℕ) (disk : DiskState) → ContinuesUnder number disk disk
under_same number disk = record { beat = λ early. early; faults = omega arith; told = λ bytes is. (bytes, is) }

pub under_then : (number : ℕ) (old mid new : DiskState) → ContinuesUnder number old mid → ContinuesUnder number mid new → ContinuesUnder number old new
under_then number old mid new first next = record {
  beat = λ early. next.beat (first.beat early);
  faults = omega (arith, first.faults, next.faults);
  told = λ bytes is. let half = first.told bytes is in next.told half.0 half.1;
}

-- whatever the beats were
pub under_any : (number : ℕ) (old new : DiskState) → ContinuesUnder number old new → Continues old new
under_any number old new goes_on = record { faults = goes_on.faults; told = goes_on.told }

-- a cut to nothing that is not made yet
pub empties_same : (number : ℕ) (disk : DiskState) → IsDisk disk → Empties number disk disk
empties_same number disk law = record {
  leaves = started number disk _ law (λ c image. (c, image, cut_same 0 c));
  size = omega arith;
  goes_on = under_same number disk;
}

-- and one that is made, whatever it answers
pub empties_cut : (number : ℕ) (old new : DiskState) → IsDisk old → Changes number (CutShort 0) old new → new.size ≤ old.size → old.faults ≤ new.faults → Empties number old new
empties_cut number old new law changes size faults = record {
  leaves = in_part number old new (CutShort 0) law (cut_same 0) changes;
  size = size;
  goes_on = record { beat = λ early. omega (arith, changes.beat); faults = faults; told = told_on (CutShort 0) old.bytes new.bytes changes.bytes };
}

-- Device by device, and row by row.
module _ {X : Type 0} (state : X → DiskState) (R : DiskState → DiskState → Type 0) where
  pub each_same : ((disk : DiskState) → R disk disk) → (xs : List X) → Each state R xs xs
  each_same same xs = record { many = refl; each = λ e d below. same (state (get_or xs e d)) }

  pub each_then : ((old mid new : DiskState) → R old mid → R mid new → R old new) → (xs ys zs : List X) → Each state R xs ys → Each state R ys zs → Each state R xs zs
  each_then then xs ys zs first next = record {
    many = next.many ∙ first.many;
    each = λ e d below. then (state (get_or xs e d)) (state (get_or ys e d)) (state (get_or zs e d)) (first.each e d below) (next.each e d (omega (arith, below, first.many)));
  }

  pub rows_same : ((disk : DiskState) → R disk disk) → (xs : List (Vec X Global)) → EachRow state R xs xs
  rows_same same xs = record { many = refl; each = λ w row below. each_same same (get_or xs w row).items }

  pub rows_then : ((old mid new : DiskState) → R old mid → R mid new → R old new) → (xs ys zs : List (Vec X Global)) → EachRow state R xs ys → EachRow state R ys zs → EachRow state R xs zs
  rows_then then xs ys zs first next = record {
    many = next.many ∙ first.many;
    each = λ w row below. each_then then (get_or xs w row).items (get_or ys w row).items (get_or zs w row).items (first.each w row below) (next.each w row (omega (arith, below, first.many)));
  }

module _ {X : Type 0} (state : X → DiskState) (R P : DiskState → DiskState → Type 0) (means : (old new : DiskState) → R old new → P old new) where
  pub each_means : (xs ys : List X) → Each state R xs ys → Each state P xs ys
  each_means xs ys is = record { many = is.many; each = λ e d below. means (state (get_or xs e d)) (state (get_or ys e d)) (is.each e d below) }

  pub rows_means : (xs ys : List (Vec X Global)) → EachRow state R xs ys → EachRow state P xs ys
  rows_means xs ys is = record { many = is.many; each = λ w row below. each_means (get_or xs w row).items (get_or ys w row).items (is.each w row below) }
