-- Edges counted at their sources.
use Rattle.std.proofs.Common.{◌≡◌, ℕ, ◌+◌, ◌≤◌, List, [], ◌∷◌, Bool, true, false, cond, map, filter, ◌==◌, min, refl, ap, ◌∙◌, arith}
use Rattle.std.specs.List.{fold, count_by}
use Rattle.std.proofs.lemmas.List.Sums.{sum_by-cons}
use Rattle.graph_model.specs.declared.edge.Edge.{Edge}
use Rattle.graph_model.specs.declared.value.Update.{Update}
use Rattle.graph_model.specs.Programs.{CAP, plus}
use Rattle.graph_model.specs.Rounds.{out_degree}
use Rattle.phase_model.specs.Sums.{values_to, sum_at, counts_of}

module _ (v : ℕ) where
  count : List Edge → ℕ
  count edges = count_by (λ (e : Edge). e.src == v) edges

  -- one edge more, before others
  taken_in : (sum : ℕ) (e : Edge) (edges : List Edge) (here : Bool) → (e.src == v) ≡ here → fold plus sum (values_to v (counts_of (e ∷ edges))) ≡ fold plus (cond here (plus sum 1) sum) (values_to v (counts_of edges))
  taken_in sum e edges true at =
      let u : Update = record { dst = e.src; value = 1 } in
      ap (λ here. fold plus sum (map (λ (x : Update). x.value) (cond here (u ∷ filter (λ (x : Update). x.dst == v) (counts_of edges)) (filter (λ (x : Update). x.dst == v) (counts_of edges))))) at
  taken_in sum e edges false apart =
      let u : Update = record { dst = e.src; value = 1 } in
      ap (λ here. fold plus sum (map (λ (x : Update). x.value) (cond here (u ∷ filter (λ (x : Update). x.dst == v) (counts_of edges)) (filter (λ (x : Update). x.dst == v) (counts_of edges))))) apart

  one_more : (e : Edge) (edges : List Edge) (here : Bool) → (e.src == v) ≡ here → count (e ∷ edges) ≡ cond here 1 0 + count edges
  unfolding count
  one_more e edges here at = sum_by-cons _ e edges ∙ ap (λ (here : Bool). cond here 1 0 + count edges) at

  counted_from : (sum : ℕ) (edges : List Edge) → sum ≤ CAP → fold plus sum (values_to v (counts_of edges)) ≡ min (sum + count edges) CAP
  unfolding count
  counted_from sum [] capped = omega arith
  counted_from sum (e ∷ edges) capped = by_test (e.src == v) refl (counted_from (plus sum 1) edges (omega arith)) (counted_from sum edges capped)
    where
      by_test : (here : Bool) → (e.src == v) ≡ here → fold plus (plus sum 1) (values_to v (counts_of edges)) ≡ min (plus sum 1 + count edges) CAP → fold plus sum (values_to v (counts_of edges)) ≡ min (sum + count edges) CAP →
          fold plus sum (values_to v (counts_of (e ∷ edges))) ≡ min (sum + count (e ∷ edges)) CAP
      by_test true at taken passed = taken_in sum e edges true at ∙ (taken ∙ omega (arith, one_more e edges true at))
      by_test false apart taken passed = taken_in sum e edges false apart ∙ (passed ∙ omega (arith, one_more e edges false apart))

  pub counted : (edges : List Edge) → sum_at plus 0 (counts_of edges) v ≡ out_degree edges v
  unfolding count
  counted edges = counted_from 0 edges (omega arith) ∙ omega arith
