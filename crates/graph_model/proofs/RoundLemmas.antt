-- What a loop over rounds needs: the values of one round from those of the round before, and which round is the last.
use Rattle.std.proofs.Common.{◌≡◌, ℕ, ◌+◌, ◌<◌, ◌≤◌, zero, suc, pred, List, [], ◌∷◌, ◌++◌, length, get_or, zero-add, true, false, ◌==◌, ◌&&◌, Option, Some, None, ◌⊎◌, inl, inr, refl, sym, ◌∙◌, ap, subst, le_antisymm, add-one, arith}
use Rattle.std.proofs.lemmas.Bool.{and_parts, and_from, both_ways, eqb-true, eq-eqb}
use Rattle.std.proofs.lemmas.List.FromFn.{fill_by_all, length-map-range_with_len, get_or-map-range_with_len, map-range_with_len_more}
use Rattle.graph_model.specs.declared.edge.Edge.{Edge}
use Rattle.graph_model.specs.declared.value.Value.{Value}
use Rattle.graph_model.specs.Programs.{Rules}
use Rattle.graph_model.specs.Rounds.{of_vertices, values, first_values, next_values, Repeats, IsLastRound, IsUnsettled}

-- One for each vertex.
pub length-of_vertices : {X : Type 0} (n : ℕ) (f : ℕ → X) → length (of_vertices n f) ≡ n
length-of_vertices n f = length-map-range_with_len f 0 n

pub get_or-of_vertices : {X : Type 0} (n : ℕ) (f : ℕ → X) (v : ℕ) (d : X) → v < n → get_or (of_vertices n f) v d ≡ f v
get_or-of_vertices n f v d below = get_or-map-range_with_len f 0 n v v d below (zero-add v)

-- a list that has f of each vertex at its place
pub of_vertices_is : {X : Type 0} (f : ℕ → X) (xs : List X) (n : ℕ) (d : X) → length xs ≡ n →
    ((v : ℕ) → v < n → get_or xs v d ≡ f v) → xs ≡ of_vertices n f
of_vertices_is f xs n d long each = fill_by_all f xs n d long each

-- two functions that agree at each vertex
pub of_vertices_same : {X : Type 0} (n : ℕ) (f g : ℕ → X) → ((v : ℕ) → v < n → f v ≡ g v) → of_vertices n f ≡ of_vertices n g
of_vertices_same zero f g each = refl
of_vertices_same (suc n) f g each =
    of_vertices_is g (of_vertices (suc n) f) (suc n) (f 0) (length-of_vertices (suc n) f)
    (λ v below. get_or-of_vertices (suc n) f v (f 0) below ∙ each v below)

-- one vertex more
pub of_vertices_more : {X : Type 0} (f : ℕ → X) (xs ys : List X) (n : ℕ) (x : X) → xs ≡ of_vertices n f → x ≡ f n →
    ys ≡ xs ++ x ∷ [] → ys ≡ of_vertices (n + 1) f
of_vertices_more f xs ys n x is_xs is_x is_ys =
    let more : of_vertices (n + 1) f ≡ of_vertices n f ++ f n ∷ [] = map-range_with_len_more f 0 n n (zero-add n) in
    cc

-- The test of two values.
pub same_value : (x y : Value) → ((x.main == y.main) && (x.side == y.side)) ≡ true → x ≡ y
same_value x y test =
    let parts : ((x.main == y.main) ≡ true) × ((x.side == y.side) ≡ true) = and_parts (x.main == y.main) (x.side == y.side) test in
    let mains : x.main ≡ y.main = eqb-true x.main y.main parts.0 in
    let sides : x.side ≡ y.side = eqb-true x.side y.side parts.1 in
    let with_main : ℕ → Value = λ main. record { main = main; side = x.side } in
    let with_side : ℕ → Value = λ side. record { main = y.main; side = side } in
    ap with_main mains ∙ ap with_side sides

pub other_value : (x y : Value) → ((x.main == y.main) && (x.side == y.side)) ≡ false → ¬ (x ≡ y)
other_value x y test same =
    let mains : (x.main == y.main) ≡ true = eq-eqb x.main y.main (ap (λ (v : Value). v.main) same) in
    let sides : (x.side == y.side) ≡ true = eq-eqb x.side y.side (ap (λ (v : Value). v.side) same) in
    both_ways ((x.main == y.main) && (x.side == y.side)) test (and_from (x.main == y.main) (x.side == y.side) mains sides)

-- One round more.
pub values-zero : (p : Rules) (vertices : ℕ) (edges : List Edge) → values p vertices edges 0 ≡ first_values p vertices edges
unfolding values
values-zero p vertices edges = refl

pub values-suc : (p : Rules) (vertices : ℕ) (edges : List Edge) (round : ℕ) →
    values p vertices edges (round + 1) ≡ next_values p vertices edges (values p vertices edges round)
unfolding values
values-suc p vertices edges round = rw add-one refl

-- a round has one value for each vertex
pub length-values : (p : Rules) (vertices : ℕ) (edges : List Edge) (round : ℕ) → length (values p vertices edges round) ≡ vertices
unfolding values
length-values p vertices edges zero = length-of_vertices vertices _
length-values p vertices edges (suc round) = length-of_vertices vertices _

-- the values after one round more, computed from those before it
pub values_step : (p : Rules) (vertices : ℕ) (edges : List Edge) (round : ℕ) (before after : List Value) →
    before ≡ values p vertices edges round → after ≡ next_values p vertices edges before →
    after ≡ values p vertices edges (round + 1)
values_step p vertices edges round before after is_before is_after =
    is_after ∙ ap (next_values p vertices edges) is_before ∙ sym (values-suc p vertices edges round)

-- Rounds that repeat.
-- round + 1 repeats where its values are those of round, and only there
pub repeats_next : (p : Rules) (vertices : ℕ) (edges : List Edge) (round : ℕ) (before after : List Value) →
    before ≡ values p vertices edges round → after ≡ values p vertices edges (round + 1) →
    after ≡ before → Repeats p vertices edges (round + 1)
repeats_next p vertices edges round before after is_before is_after same =
    (omega arith, rw (← is_after) (rw add-one (same ∙ is_before)))

pub repeats_same : (p : Rules) (vertices : ℕ) (edges : List Edge) (round : ℕ) (before after : List Value) →
    before ≡ values p vertices edges round → after ≡ values p vertices edges (round + 1) →
    Repeats p vertices edges (round + 1) → after ≡ before
repeats_same p vertices edges round before after is_before is_after repeats =
    let same : values p vertices edges (round + 1) ≡ values p vertices edges round
    = repeats.1 ∙ ap (λ r. values p vertices edges (pred r)) (add-one round) in
    is_after ∙ same ∙ sym is_before

-- round 0 does not repeat
pub none_at_first : (p : Rules) (vertices : ℕ) (edges : List Edge) (k : ℕ) → k ≤ 0 → ¬ (Repeats p vertices edges k)
none_at_first p vertices edges k below repeats = omega (arith, repeats.0)

-- no round up to round + 1 repeats where none up to round does, and it does not either
pub none_more : (p : Rules) (vertices : ℕ) (edges : List Edge) (round : ℕ) →
    ((k : ℕ) → k ≤ round → ¬ (Repeats p vertices edges k)) → ¬ (Repeats p vertices edges (round + 1)) →
    (k : ℕ) → k ≤ round + 1 → ¬ (Repeats p vertices edges k)
none_more p vertices edges round none_below not_next k below = elim (le_cases k round below) [
  | inl earlier ↦ none_below k earlier
  | inr here ↦ subst (λ r. ¬ (Repeats p vertices edges r)) (sym here) not_next
]
  where
    le_cases : (k round : ℕ) → k ≤ round + 1 → (k ≤ round) ⊎ (k ≡ round + 1)
    le_cases k round below = grind arith

-- The last round.
-- there is one at most
pub last_is_one : (p : Rules) (vertices : ℕ) (edges : List Edge) (limit r s : ℕ) →
    IsLastRound p vertices edges limit r → IsLastRound p vertices edges limit s → r ≡ s
last_is_one p vertices edges limit r s is_r is_s = by_rounds p.rounds refl
  where
    not_below : (a b : ℕ) → ¬ (b < a) → a ≤ b
    not_below a b h = grind (arith, h)

    by_rounds : (rounds : Option ℕ) → p.rounds ≡ rounds → r ≡ s
    by_rounds (Some k) fixed = is_r.fixed k fixed ∙ sym (is_s.fixed k fixed)
    by_rounds None open_ended =
        le_antisymm
        (not_below r s (λ s_below. is_r.least open_ended s s_below (is_s.repeats open_ended).0))
        (not_below s r (λ r_below. is_s.least open_ended r r_below (is_r.repeats open_ended).0))

-- a job that is unsettled has no last round
pub unsettled_has_no_last : (p : Rules) (vertices : ℕ) (edges : List Edge) (limit round : ℕ) →
    IsUnsettled p vertices edges limit → ¬ (IsLastRound p vertices edges limit round)
unsettled_has_no_last p vertices edges limit round unsettled is_last =
    let last : Repeats p vertices edges round × (round ≤ limit) = is_last.repeats unsettled.open_ended in
    unsettled.never round last.1 last.0
