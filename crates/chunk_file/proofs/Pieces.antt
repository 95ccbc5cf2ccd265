-- Records one behind another in bytes, with one more.
use Rattle.std.proofs.Common.{◌≡◌, ℕ, ◌+◌, ◌<◌, ◌≤◌, Bool, true, false, List, [], ◌∷◌, ◌++◌, length, take, drop, get_or, set, refl, sym, ◌∙◌, ap, subst, arith, append-nil, length-take, length-drop}
use Rattle.std.specs.List.{All, flat_map, list_all}
use Rattle.std.proofs.lemmas.List.{take_more_set}
use Rattle.std.proofs.lemmas.List.Elements.{All-append, All-cons, All-nil}
use Rattle.std.proofs.lemmas.List.Folds.{list_all-append}
use Rattle.std.proofs.lemmas.Grind.{flat_map-append}
use Rattle.std.proofs.Math.Seq.{take-add}
use Rattle.std.specs.Prelude.{◌&&◌}
use Rattle.chunk_model.specs.Layout.{Layout, IsLayout}
use Rattle.chunk_model.proofs.LayoutLaws.{bytes_of_part}

-- what one more record's bytes say
pub next_piece : {X : Type 0} (layout : Layout X) → IsLayout layout → (bytes : List ℕ) → ((i : ℕ) → get_or bytes i 0 < 256) → (start : ℕ) (r : X) →
    start + layout.width ≤ length bytes → r ≡ layout.read (take layout.width (drop start bytes)) →
    (layout.bytes r ≡ take layout.width (drop start bytes)) × (layout.holds r ≡ true)
next_piece layout laws bytes each start r within is =
    let long : length (take layout.width (drop start bytes)) ≡ layout.width =
    omega (arith, length-take layout.width (drop start bytes), length-drop start bytes) in
    let said = laws.spelled (take layout.width (drop start bytes)) (bytes_of_part start layout.width bytes each) long in
    (ap layout.bytes is ∙ said.0, ap layout.holds is ∙ said.1)

pub next_written : {X : Type 0} (layout : Layout X) (bytes : List ℕ) (start i : ℕ) (into : List X) (r : X) → i < length into →
    layout.bytes r ≡ take layout.width (drop start bytes) → flat_map layout.bytes (take i into) ≡ take start bytes →
    flat_map layout.bytes (take (i + 1) (set into i r)) ≡ take (start + layout.width) bytes
next_written {X} layout bytes start i into r within is so_far =
    ap (flat_map layout.bytes) (take_more_set into i r within)
    ∙ flat_map-append layout.bytes (take i into) (r ∷ [])
    ∙ ap (λ xs. flat_map layout.bytes (take i into) ++ xs) (append-nil (layout.bytes r) ∙ is)
    ∙ ap (λ xs. xs ++ take layout.width (drop start bytes)) so_far
    ∙ sym (take-add start layout.width bytes)

pub next_each : {X : Type 0} (P : X → Type 0) (i : ℕ) (into : List X) (r : X) → i < length into → P r → All P (take i into) → All P (take (i + 1) (set into i r))
next_each P i into r within here so_far =
    subst (All P) (sym (take_more_set into i r within)) (All-append P (take i into) (r ∷ []) so_far (All-cons P r [] here (All-nil P)))

pub next_test : {X : Type 0} (test : X → Bool) (i : ℕ) (into : List X) (r : X) → i < length into →
    list_all test (take (i + 1) (set into i r)) ≡ (list_all test (take i into) && test r)
next_test {X} test i into r within =
    ap (list_all test) (take_more_set into i r within)
    ∙ list_all-append test (take i into) (r ∷ [])
    ∙ ap (λ b. list_all test (take i into) && b) (and_true (test r))
  where
    and_true : (b : Bool) → (b && true) ≡ b
    and_true true = refl
    and_true false = refl
