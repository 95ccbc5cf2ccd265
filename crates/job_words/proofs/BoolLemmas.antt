-- What tests on names and lists of names mean.
use Rattle.std.proofs.Common.{◌≡◌, ◌∙◌, Bool, true, false, refl, ap}
use Rattle.std.specs.Str.{bytes_eq}
use Rattle.std.proofs.lemmas.Slice.Eq.{bytes_eq-Decides}
use Rattle.std.proofs.lemmas.Bool.{false_from_ne_true}
use Rattle.graph_model.proofs.BoolLemmas.{true_is_not}
use Rattle.job_words.specs.Tables.{Text}

pub same_eq : (xs : Text) → bytes_eq xs xs ≡ true
same_eq xs = (bytes_eq-Decides xs xs).1 refl

pub same_of : (xs ys : Text) → bytes_eq xs ys ≡ true → xs ≡ ys
same_of xs ys e = (bytes_eq-Decides xs ys).0 e

-- a name that is not among others differs from one that is
pub differs : (p : Text → Bool) (name other : Text) → p name ≡ true → p other ≡ false → bytes_eq name other ≡ false
differs p name other among apart =
    false_from_ne_true (bytes_eq name other) (λ same. true_is_not (p name) among (ap p (same_of name other same) ∙ apart))
