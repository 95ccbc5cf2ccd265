-- A loop over rounds: one round more, and the last one.
use Rattle.std.proofs.Common.{◌≡◌, ℕ, ◌+◌, ◌<◌, ◌≤◌, List, length, Some, None, sym, ◌∙◌, ap, arith}
use Rattle.graph_model.specs.declared.edge.Edge.{Edge}
use Rattle.graph_model.specs.declared.value.Value.{Value}
use Rattle.graph_model.specs.Programs.{Rules}
use Rattle.graph_model.specs.Rounds.{values, next_values, Repeats, IsFinalValues, IsUnsettled}
use Rattle.graph_model.proofs.RoundLemmas.{values_step, unsettled_has_no_last}

-- a pass made the values of the next round
pub round_more : (p : Rules) (n : ℕ) (edges : List Edge) (round : ℕ) (before after : List Value) → length before ≡ n →
    before ≡ values p n edges round → after ≡ next_values p (length before) edges before → after ≡ values p n edges (round + 1)
round_more p n edges round before after long is_before is_after =
    values_step p n edges round before after is_before (is_after ∙ ap (λ k. next_values p k edges before) long)

-- the first round that repeats within the limit is the last
pub first_repeat : (p : Rules) (n : ℕ) (edges : List Edge) (limit round : ℕ) (found : List Value) → p.rounds ≡ None →
    ((k : ℕ) → k ≤ round → ¬ (Repeats p n edges k)) → Repeats p n edges (round + 1) → round < limit →
    found ≡ values p n edges (round + 1) → IsFinalValues p n edges limit found
first_repeat p n edges limit round found open_ended none repeats within is_found = record {
  round = round + 1;
  is_last = record {
    fixed = λ k fixed. absurd cc;
    repeats = λ _. (repeats, omega arith);
    least = λ _ k below. none k (omega arith);
  };
  are_values = is_found;
}

-- a fixed number of rounds
pub fixed_last : (p : Rules) (n : ℕ) (edges : List Edge) (limit rounds : ℕ) (found : List Value) → p.rounds ≡ Some rounds →
    found ≡ values p n edges rounds → IsFinalValues p n edges limit found
fixed_last p n edges limit rounds found fixed is_found = record {
  round = rounds;
  is_last = record {
    fixed = λ k is_k. let same : Some rounds ≡ Some k = sym fixed ∙ is_k in cc;
    repeats = λ open_ended. absurd cc;
    least = λ open_ended. absurd cc;
  };
  are_values = is_found;
}

-- final values say that the job is not unsettled
pub settled : (p : Rules) (n : ℕ) (edges : List Edge) (limit : ℕ) (found : List Value) → IsFinalValues p n edges limit found →
    ¬ (IsUnsettled p n edges limit)
settled p n edges limit found final unsettled = unsettled_has_no_last p n edges limit final.round unsettled final.is_last
