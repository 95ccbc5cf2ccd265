-- The sums of a worker: each update that it took is folded into the sum of its destination.
use Rattle.std.specs.Prelude.{ℕ, List, map, filter, fold, ◌==◌}
use Rattle.std.specs.List.{range_with_len}
use Rattle.graph_model.specs.declared.edge.Edge.{Edge}
use Rattle.graph_model.specs.declared.value.Update.{Update}

-- the values of the updates to a vertex, in order
abbrev pub values_to : ℕ → List Update → List ℕ
values_to vertex updates = map (λ (u : Update). u.value) (filter (λ (u : Update). u.dst == vertex) updates)

-- the sum of a vertex over the updates
abbrev pub sum_at : (ℕ → ℕ → ℕ) → ℕ → List Update → ℕ → ℕ
sum_at add unit updates vertex = fold add unit (values_to vertex updates)

-- the sums of so many vertices from this one on
abbrev pub sums_over : (ℕ → ℕ) → (first len : ℕ) → List ℕ
sums_over sum first len = map sum (range_with_len first len)

-- what an edge counts for: 1 at its source
abbrev pub count_of : Edge → Update
count_of edge = record { dst = edge.src; value = 1 }

abbrev pub counts_of : List Edge → List Update
counts_of = map count_of
