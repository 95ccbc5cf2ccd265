-- Lemmas on truth values that are wanted in several crates.
use Rattle.std.proofs.Common.{◌≡◌, ◌∙◌, ◌&&◌, ◌||◌, Bool, true, false, true≢false, refl, sym}
use Rattle.std.proofs.lemmas.Bool.{and_parts}

pub true_is_not : (b : Bool) → b ≡ true → b ≡ false → ⊥
true_is_not b is_true is_false = true≢false (sym is_true ∙ is_false)

pub and_false : (a : Bool) → (a && false) ≡ false
and_false true = refl
and_false false = refl

pub or_true : (a : Bool) → (a || true) ≡ true
or_true true = refl
or_true false = refl

pub or_false : (a : Bool) → (a || false) ≡ a
or_false true = refl
or_false false = refl

-- three tests in a row
pub all_three : (a b c : Bool) → (a && b && c) ≡ true → (a ≡ true) × (b ≡ true) × (c ≡ true)
all_three a b c is =
    let outer = and_parts (a && b) c is in
    let inner = and_parts a b outer.0 in
    (inner.0, inner.1, outer.1)
