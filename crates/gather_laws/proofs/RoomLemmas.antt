-- Both numbers of each value have room in 64 bits.
use Rattle.std.proofs.Common.{⊎_elim, ℕ, zero, suc, ◌^◌, ◌<◌, ◌≤◌, List, subst, sym, arith}
use Rattle.std.proofs.lemmas.List.Elements.{All-from_get_or}
use Rattle.graph_model.specs.declared.edge.Edge.{Edge}
use Rattle.graph_model.specs.declared.value.Value.{Value}
use Rattle.graph_model.specs.Programs.{Rules}
use Rattle.graph_model.specs.Rounds.{IsWithinGraph, merged, out_degree, sent_to, value_at, values}
use Rattle.graph_model.proofs.RoundLemmas.{get_or-of_vertices, length-values}
use Rattle.gather_laws.specs.Laws.{GatherLaws, HaveRoom, IsCappedOrNone}
use Rattle.gather_laws.proofs.AbsorbLemmas.{values-sums}

sum_fits : (s : ℕ) → IsCappedOrNone s → s < 2 ^ 64
sum_fits s is = ⊎_elim (λ capped. omega (arith, capped)) (λ none. omega (arith, none)) is

module _ (p : Rules) (IsSum : ℕ → Type 0) (laws : GatherLaws p IsSum) where
  side_fits : (n : ℕ) (edges : List Edge) → n ≤ 2 ^ 32 → (round v : ℕ) → v < n → (value_at (values p n edges round) v).side < 2 ^ 64
  unfolding values
  side_fits n edges few zero v below =
      subst (λ (value : Value). value.side < 2 ^ 64) (sym (get_or-of_vertices n (λ k. p.start k (out_degree edges k)) v (record { main = 0; side = 0 }) below))
      (laws.start_fits v (out_degree edges v) (omega arith) (omega arith))
  side_fits n edges few (suc round) v below =
      let now : List Value = values p n edges round in
      subst (λ (value : Value). value.side < 2 ^ 64)
      (sym (get_or-of_vertices n (λ k. p.next (value_at now k) (merged p (sent_to p edges now k))) v (record { main = 0; side = 0 }) below))
      (laws.next_fits (value_at now v) (merged p (sent_to p edges now v)) (side_fits n edges few round v below))

  pub values_fit : (n : ℕ) (edges : List Edge) → n ≤ 2 ^ 32 → IsWithinGraph n edges → (round : ℕ) → HaveRoom (values p n edges round)
  values_fit n edges few within round = All-from_get_or (λ (x : Value). (x.main < 2 ^ 64) × (x.side < 2 ^ 64)) (values p n edges round) (record { main = 0; side = 0 })
      (λ v below.
      let here : v < n = omega (arith, below, length-values p n edges round) in
      (sum_fits (value_at (values p n edges round) v).main (laws.bounded (value_at (values p n edges round) v).main (values-sums p IsSum laws n edges few within round v here)), side_fits n edges few round v here))
