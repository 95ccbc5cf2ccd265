-- The values of all vertices, round by round, and the last round.
use Rattle.std.specs.Prelude.{◌≡◌, ℕ, ◌≤◌, ◌<◌, zero, suc, pred, List, map, filter, count_by, Bool, not, ◌==◌, ◌&&◌, Some, None, min, fold, slice_index_or}
use Rattle.std.specs.List.{All, filter_map, range_with_len}
use Rattle.graph_model.specs.declared.edge.Edge.{Edge}
use Rattle.graph_model.specs.declared.value.Value.{Value}
use Rattle.graph_model.specs.Programs.{Rules, CAP}

-- both ends of each edge are vertices
abbrev pub IsWithinGraph : ℕ → List Edge → Type 0
IsWithinGraph vertices edges = All (λ (e : Edge). (e.src < vertices) × (e.dst < vertices)) edges

-- the merge of what was sent to one vertex
abbrev pub merged : Rules → List ℕ → ℕ
merged p sums = fold p.merge p.unit sums

-- the number of edges out of a vertex
abbrev pub out_degree : List Edge → ℕ → ℕ
out_degree edges v = min (count_by (λ (e : Edge). e.src == v) edges) CAP

-- the value of a vertex
abbrev pub value_at : List Value → ℕ → Value
value_at values v = slice_index_or values v (record { main = 0; side = 0 })

-- what is sent to a vertex in a round that begins with these values, in order of edges
abbrev pub sent_to : Rules → List Edge → List Value → ℕ → List ℕ
sent_to p edges values v =
    filter_map (λ (e : Edge). p.send (value_at values e.src) e.weight) (filter (λ (e : Edge). e.dst == v) edges)

-- one for each vertex
abbrev pub of_vertices : {X : Type 0} → ℕ → (ℕ → X) → List X
of_vertices vertices f = map f (range_with_len 0 vertices)

abbrev pub first_values : Rules → ℕ → List Edge → List Value
first_values p vertices edges = of_vertices vertices (λ v. p.start v (out_degree edges v))

abbrev pub next_values : Rules → ℕ → List Edge → List Value → List Value
next_values p vertices edges values =
    of_vertices vertices (λ v. p.next (value_at values v) (merged p (sent_to p edges values v)))

-- the values of a round
unfoldable pub values : Rules → ℕ → List Edge → ℕ → List Value
values p vertices edges zero = first_values p vertices edges
values p vertices edges (suc round) = next_values p vertices edges (values p vertices edges round)

-- Rounds in which only the vertices that changed send.
-- whether a vertex has another value than before
abbrev pub has_changed : List Value → List Value → ℕ → Bool
has_changed before now v =
    not ((value_at now v).main == (value_at before v).main && (value_at now v).side == (value_at before v).side)

-- what they send to one vertex, in order of edges
abbrev pub sent_by_changed : Rules → List Edge → List Value → List Value → ℕ → List ℕ
sent_by_changed p edges before now v = sent_to p (filter (λ (e : Edge). has_changed before now e.src) edges) now v

abbrev pub next_by_changed : Rules → ℕ → List Edge → List Value → List Value → List Value
next_by_changed p vertices edges before now =
    of_vertices vertices (λ v. p.next (value_at now v) (merged p (sent_by_changed p edges before now v)))

-- a round whose values are those of the round before it
abbrev pub Repeats : Rules → ℕ → List Edge → ℕ → Type 0
Repeats p vertices edges round = (1 ≤ round) × (values p vertices edges round ≡ values p vertices edges (pred round))

-- the last round: the fixed one, or else the first that repeats, within the limit
pub record IsLastRound (p : Rules) (vertices : ℕ) (edges : List Edge) (limit round : ℕ) : Type 0 where
  pub fixed : (k : ℕ) → p.rounds ≡ Some k → round ≡ k
  pub repeats : p.rounds ≡ None → Repeats p vertices edges round × (round ≤ limit)
  pub least : p.rounds ≡ None → (k : ℕ) → k < round → ¬ (Repeats p vertices edges k)

-- no round within the limit repeats
pub record IsUnsettled (p : Rules) (vertices : ℕ) (edges : List Edge) (limit : ℕ) : Type 0 where
  pub open_ended : p.rounds ≡ None
  pub never : (round : ℕ) → round ≤ limit → ¬ (Repeats p vertices edges round)

-- these are the values of the last round
pub record IsFinalValues (p : Rules) (vertices : ℕ) (edges : List Edge) (limit : ℕ) (found : List Value) : Type 0 where
  pub round : ℕ
  pub is_last : IsLastRound p vertices edges limit round
  pub are_values : found ≡ values p vertices edges round

-- the two values are not the same
abbrev pub differs : Value → Value → Bool
differs a b = not (a.main == b.main && a.side == b.side)
