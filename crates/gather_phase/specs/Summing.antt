-- Updates that are taken into sums.
use Rattle.std.specs.Prelude.{◌≡◌, ℕ, ◌+◌, ◌<◌, ◌≤◌, List, length, fold, slice_index}
use Rattle.std.specs.List.{All}
use Rattle.graph_model.specs.declared.edge.Edge.{Edge}
use Rattle.graph_model.specs.declared.value.Update.{Update}
use Rattle.phase_model.specs.Sums.{values_to}

-- each update is to one of so many vertices from this one on
abbrev pub AreWithin : (first len : ℕ) → List Update → Type 0
AreWithin first len updates = All (λ (u : Update). (first ≤ u.dst) × (u.dst < first + len)) updates

-- each edge comes from one of so many vertices from this one on
abbrev pub ComeFrom : (first len : ℕ) → List Edge → Type 0
ComeFrom first len edges = All (λ (e : Edge). (first ≤ e.src) × (e.src < first + len)) edges

-- each sum has taken in the updates to its vertex, in order; the first sum is that of the vertex `first`
pub record HasSummed (add : ℕ → ℕ → ℕ) (first : ℕ) (updates : List Update) (old new : List ℕ) : Type 0 where
  pub long : length new ≡ length old
  pub each : (v : ℕ) → v < length old → slice_index new v ≡ fold add (slice_index old v) (values_to (first + v) updates)
