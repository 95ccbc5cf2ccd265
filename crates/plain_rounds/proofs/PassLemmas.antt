-- A pass over the vertices: one new value more.
use Rattle.std.proofs.Common.{◌≡◌, ◌≢◌, ℕ, ◌+◌, ◌<◌, ◌≤◌, List, length, get_or, set, replicate, Bool, true, false, ◌==◌, ◌&&◌, ◌||◌, not, MatchBool, refl, sym, ◌∙◌, ap, subst, arith, below_more}
use Rattle.std.proofs.lemmas.List.{get_or-set_same, get_or-set_other, set-get_or, get_or-replicate, length-replicate}
use Rattle.std.proofs.lemmas.Grind.{same_number_lists}
use Rattle.graph_model.specs.declared.value.Value.{Value}
use Rattle.graph_model.specs.Rounds.{value_at}
use Rattle.graph_model.proofs.RoundLemmas.{same_value, other_value}

-- what holds of each entry below i, and of what is written to place i, holds of each below i + 1
pub below_more_set : {X : Type 0} (xs : List X) (i : ℕ) (new d : X) (P : ℕ → X → Type 0) → i < length xs →
    ((v : ℕ) → v < i → P v (get_or xs v d)) → P i new → (v : ℕ) → v < i + 1 → P v (get_or (set xs i new) v d)
below_more_set xs i new d P within before here v below =
    below_more (λ k. P k (get_or (set xs i new) k d)) i
    (λ k earlier. let apart : k ≢ i = omega arith in subst (P k) (sym (get_or-set_other xs i k new d apart)) (before k earlier))
    (subst (P i) (sym (get_or-set_same xs i new d within)) here)
    v below

-- an entry behind the place that is written
pub above_set : {X : Type 0} (xs : List X) (i : ℕ) (new d : X) (v : ℕ) → i + 1 ≤ v → get_or (set xs i new) v d ≡ get_or xs v d
above_set xs i new d v above = let apart : v ≢ i = omega arith in get_or-set_other xs i v new d apart

-- a list of one number
pub one_number : (xs : List ℕ) (n x : ℕ) → length xs ≡ n → ((v : ℕ) → v < n → get_or xs v 0 ≡ x) → xs ≡ replicate n x
one_number xs n x long each =
    same_number_lists xs (replicate n x) (long ∙ sym (length-replicate n x))
    (λ v below. let within : v < n = omega arith in each v within ∙ sym (get_or-replicate n v x 0 within))

-- the old value is written over itself
kept : (now : List Value) (i : ℕ) (next : Value) → next ≡ value_at now i → set now i next ≡ now
kept now i next same = ap (set now i) same ∙ set-get_or now i (record { main = 0; side = 0 })

-- where the list is as of old after a write, the value was the old one
wrote_old : (old now : List Value) (i : ℕ) (next : Value) → i < length now → value_at now i ≡ value_at old i →
    set now i next ≡ old → next ≡ value_at now i
wrote_old old now i next below here same =
    sym (get_or-set_same now i next (record { main = 0; side = 0 }) below) ∙ ap (λ values. value_at values i) same ∙ sym here

-- whether a list differs from an old one, after one write more
pub changed_more : (old now : List Value) (i : ℕ) (next : Value) (changed differs : Bool) → i < length now → value_at now i ≡ value_at old i →
    differs ≡ not ((next.main == (value_at now i).main) && (next.side == (value_at now i).side)) →
    MatchBool changed (now ≢ old) (now ≡ old) →
    MatchBool (changed || differs) (set now i next ≢ old) (set now i next ≡ old)
changed_more old now i next true differs below here is_differs so_far =
    λ same. so_far (sym (kept now i next (wrote_old old now i next below here same)) ∙ same)
changed_more old now i next false differs below here is_differs so_far =
    by_test ((next.main == (value_at now i).main) && (next.side == (value_at now i).side)) differs refl is_differs
  where
    by_test : (equal other : Bool) → ((next.main == (value_at now i).main) && (next.side == (value_at now i).side)) ≡ equal →
        other ≡ not equal → MatchBool other (set now i next ≢ old) (set now i next ≡ old)
    by_test true true test is_other = absurd cc
    by_test true false test is_other = kept now i next (same_value next (value_at now i) test) ∙ so_far
    by_test false true test is_other = λ same. other_value next (value_at now i) test (wrote_old old now i next below here same)
    by_test false false test is_other = absurd cc
