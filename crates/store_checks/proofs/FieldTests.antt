-- The fields of a head, one after another.
use Rattle.std.proofs.Common.{◌≡◌, ◌∙◌, ℕ, ◌+◌, ◌*◌, ◌/◌, ◌<◌, ◌≤◌, nat_le, Bool, true, false, if◌then◌else◌, List, ◌∷◌, length, drop, get_or, Some, None, refl, sym, ap, arith, add-one, drop-cons}
use Rattle.std.proofs.lemmas.List.{drop_all}
use Rattle.std.proofs.lemmas.Bool.{le-leb, leb-true, leb-false}
use Rattle.std.proofs.Math.Nat.{le-div_iff_mul-le}
use Rattle.store_model.specs.declared.field.Field.{Field}
use Rattle.store_model.specs.Damage.{first_bad, place_of}

next : (fields : List Field) (i : ℕ) (d : Field) → i < length fields → drop i fields ≡ get_or fields i d ∷ drop (i + 1) fields
next fields i d within = drop-cons fields i d within ∙ ap (λ n. get_or fields i d ∷ drop n fields) (sym (add-one i))

-- a field that passes
pub passes : (test : Field → Bool) (fields : List Field) (i : ℕ) (d : Field) → i < length fields → test (get_or fields i d) ≡ true → first_bad test (drop i fields) ≡ first_bad test fields → first_bad test (drop (i + 1) fields) ≡ first_bad test fields
passes test fields i d within good so_far =
    sym (ap (first_bad test) (next fields i d within)
    ∙ ap (λ found. if found then first_bad test (drop (i + 1) fields) else Some (place_of (get_or fields i d))) good)
    ∙ so_far

-- one that fails
pub fails : (test : Field → Bool) (fields : List Field) (i : ℕ) (d : Field) → i < length fields → test (get_or fields i d) ≡ false → first_bad test (drop i fields) ≡ first_bad test fields → Some (place_of (get_or fields i d)) ≡ first_bad test fields
fails test fields i d within bad so_far =
    sym (ap (first_bad test) (next fields i d within)
    ∙ ap (λ found. if found then first_bad test (drop (i + 1) fields) else Some (place_of (get_or fields i d))) bad)
    ∙ so_far

-- and none is left
pub passed : (test : Field → Bool) (fields : List Field) (i : ℕ) → length fields ≤ i → first_bad test (drop i fields) ≡ first_bad test fields → None ≡ first_bad test fields
passed test fields i end so_far = sym (ap (first_bad test) (drop_all i fields end)) ∙ so_far

-- Two tests that say the same.
same_by : (a b c d : ℕ) → (a ≤ b → c ≤ d) → (c ≤ d → a ≤ b) → (test : Bool) → nat_le a b ≡ test → nat_le a b ≡ nat_le c d
same_by a b c d to from true is = is ∙ sym (le-leb c d (to (leb-true a b is)))
same_by a b c d to from false is = is ∙ sym (not_so (nat_le c d) refl)
  where
    not_so : (other : Bool) → nat_le c d ≡ other → nat_le c d ≡ false
    not_so true so = absurd (omega (arith, from (leb-true c d so), leb-false a b is))
    not_so false so = so

-- so many partitions for each engine are few enough where all together are
pub few_for_each : (engines turns parts : ℕ) → 0 < engines → engines * turns ≡ parts → nat_le turns (64 / engines) ≡ nat_le parts 64
few_for_each engines turns parts some product =
    same_by turns (64 / engines) parts 64
    (λ few. let all : turns * engines ≤ 64 = (le-div_iff_mul-le {k = engines} {x = turns} {y = 64} some).0 few in omega (arith, product, commuted))
    (λ few. (le-div_iff_mul-le {k = engines} {x = turns} {y = 64} some).1 (omega (arith, product, commuted)))
    (nat_le turns (64 / engines)) refl
  where
    commuted : turns * engines ≡ engines * turns
    commuted = grind arith
