-- What a spill leaves of the accumulators.
use Rattle.std.proofs.Common.{◌≡◌, ◌≢◌, ℕ, ◌+◌, ◌*◌, ◌^◌, ◌<◌, ◌≤◌, List, ◌++◌, length, take, get_or, set, Option, Some, None, IfSome, inl, inr, refl, sym, ◌∙◌, ap, subst, arith, get_or-set_same, get_or-set_other}
use Rattle.std.proofs.lemmas.List.{drop_at, take_all}
use Rattle.std.proofs.lemmas.Bool.{cases_eq}
use Rattle.ports.specs.Bytes.{Torn, bytes_at}
use Rattle.ports.specs.Told.{AsTold}
use Rattle.ports.proofs.Parts.{bytes_at-torn}
use Rattle.replica_merge.specs.Accumulators.{accumulators_at}
use Rattle.replica_merge.specs.Numbers.{numbers_at, bytes_of_numbers}
use Rattle.replica_merge.proofs.NumberLemmas.{numbers_at-same, numbers_at-written, length-bytes_of_numbers}

-- what lies within a device stays where bytes are written behind its end
kept_at : (place : Option ℕ) (count unit size n : ℕ) (before now : List ℕ) → size ≡ length before → Torn size n before now →
    ((at : ℕ) → place ≡ Some at → at + 8 * count ≤ size) → accumulators_at place count unit now ≡ accumulators_at place count unit before
kept_at None count unit size n before now sized torn within = refl
kept_at (Some at) count unit size n before now sized torn within =
    let inside : at + 8 * count ≤ size = within at refl in
    numbers_at-same at count now before (bytes_at-torn size n before now at (8 * count) torn (inl inside) (omega arith))

-- of each partition that was spilled within the device
abbrev LieBelow : List (Option ℕ) → (ℕ → ℕ) → (parts size : ℕ) → Type 0
LieBelow places len parts size = (q at : ℕ) → q < parts → get_or places q None ≡ Some at → at + 8 * len q ≤ size

pub told_kept : (places : List (Option ℕ)) (len : ℕ → ℕ) (parts p unit size n : ℕ) (x y : Option (List ℕ)) → IfSome x (λ bytes. size ≡ length bytes) → AsTold (Torn size n) x y → LieBelow places len parts size →
    AsTold (λ before now. (q : ℕ) → q ≢ p → q < parts → accumulators_at (get_or places q None) (len q) unit now ≡ accumulators_at (get_or places q None) (len q) unit before) x y
told_kept places len parts p unit size n (Some a) (Some b) sized torn within =
    λ q other below. kept_at (get_or places q None) (len q) unit size n a b sized torn (λ at place. within q at below place)
told_kept places len parts p unit size n (Some a) None sized torn within = absurd torn
told_kept places len parts p unit size n None (Some b) sized torn within = absurd torn
told_kept places len parts p unit size n None None sized torn within = tt

-- the same, where the place of another one is noted
pub told_kept_others : (places : List (Option ℕ)) (place : Option ℕ) (len : ℕ → ℕ) (parts p unit size n : ℕ) (x y : Option (List ℕ)) → IfSome x (λ bytes. size ≡ length bytes) → AsTold (Torn size n) x y → LieBelow places len parts size →
    AsTold (λ before now. (q : ℕ) → q ≢ p → q < parts → accumulators_at (get_or (set places p place) q None) (len q) unit now ≡ accumulators_at (get_or places q None) (len q) unit before) x y
told_kept_others places place len parts p unit size n (Some a) (Some b) sized torn within =
    λ q other below.
    ap (λ at. accumulators_at at (len q) unit b) (get_or-set_other places p q place None other)
    ∙ kept_at (get_or places q None) (len q) unit size n a b sized torn (λ at noted. within q at below noted)
told_kept_others places place len parts p unit size n (Some a) None sized torn within = absurd torn
told_kept_others places place len parts p unit size n None (Some b) sized torn within = absurd torn
told_kept_others places place len parts p unit size n None None sized torn within = tt

-- what was appended is read
pub told_written : (places : List (Option ℕ)) (p count unit at size : ℕ) (numbers : List ℕ) (x y : Option (List ℕ)) → p < length places → count ≡ length numbers → at ≡ size →
    ((k : ℕ) → get_or numbers k 0 < 2 ^ 64) → IfSome x (λ bytes. size ≡ length bytes) →
    AsTold (λ before now. now ≡ before ++ bytes_of_numbers numbers) x y →
    AsTold (λ before now. accumulators_at (get_or (set places p (Some at)) p None) count unit now ≡ numbers) x y
told_written places p count unit at size numbers (Some a) (Some b) below long end fits sized told =
    ap (λ place. accumulators_at place count unit b) (get_or-set_same places p (Some at) None below)
    ∙ ap (λ n. numbers_at at n b) long
    ∙ numbers_at-written at numbers b fits
    (ap (bytes_at at (8 * length numbers)) told
    ∙ ap (λ rest. take (8 * length numbers) rest) (drop_at a (bytes_of_numbers numbers) at (sym sized ∙ sym end))
    ∙ take_all (8 * length numbers) (bytes_of_numbers numbers) (omega (arith, length-bytes_of_numbers numbers)))
told_written places p count unit at size numbers (Some a) None below long end fits sized told = absurd told
told_written places p count unit at size numbers None (Some b) below long end fits sized told = absurd told
told_written places p count unit at size numbers None None below long end fits sized told = tt

-- a place that is noted lies within the device, as those noted before
pub noted_within : (places : List (Option ℕ)) (len : ℕ → ℕ) (parts p at size size' : ℕ) → length places ≡ parts → p < parts → at + 8 * len p ≤ size' → size ≤ size' →
    ((q a : ℕ) → q < parts → get_or places q None ≡ Some a → a + 8 * len q ≤ size) →
    (q a : ℕ) → q < parts → get_or (set places p (Some at)) q None ≡ Some a → a + 8 * len q ≤ size'
noted_within places len parts p at size size' long below noted grows within q a below_q place =
    elim (cases_eq q p) [
      | inl same ↦
          let here : Some at ≡ Some a = sym (get_or-set_same places p (Some at) None (omega arith)) ∙ ap (λ k. get_or (set places p (Some at)) k None) (sym same) ∙ place in
          let same_place : at ≡ a = cc in
          subst (λ (k : ℕ). a + 8 * len k ≤ size') (sym same) (omega (arith, noted))
      | inr other ↦
          let before : get_or places q None ≡ Some a = sym (get_or-set_other places p q (Some at) None other) ∙ place in
          omega (arith, within q a below_q before)
    ]
