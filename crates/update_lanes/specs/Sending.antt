-- What the edges of one partition send, under the values of its vertices.
use Rattle.std.specs.Prelude.{◌≡◌, ℕ, ◌-◌, ◌<◌, ◌≤◌, Bool, Some, None, List, length, slice_index_or}
use Rattle.graph_model.specs.declared.edge.Edge.{Edge}
use Rattle.graph_model.specs.declared.value.Value.{Value}
use Rattle.graph_model.specs.Programs.{Rules}
use Rattle.graph_model.specs.Rounds.{value_at, differs}
use Rattle.phase_model.specs.Sends.{Sending}

-- the value of a vertex, where the vertices from `first` on have these
abbrev pub value_from : ℕ → List Value → ℕ → Value
value_from first values vertex = value_at values (vertex - first)

-- the sending from a partition that begins at this vertex and has these values: of all its vertices
abbrev pub sending_all : Rules → (first : ℕ) → List Value → Sending
sending_all rules first now = record { send = rules.send; now = value_from first now; before = None }

-- and of those alone whose value is another one than in the round before
abbrev pub sending_changed : Rules → (first : ℕ) → (before now : List Value) → Sending
sending_changed rules first before now = record { send = rules.send; now = value_from first now; before = Some (value_from first before) }

-- an edge from one of so many vertices from `first` on, to one of all vertices
pub record IsFrom (first len vertices : ℕ) (edge : Edge) : Type 0 where
  pub not_before : first ≤ edge.src
  pub within : edge.src - first < len
  pub there : edge.dst < vertices

-- of each vertex, whether its value is another one than before
pub record AreChanges (before now : List Value) (changed : List Bool) : Type 0 where
  pub many : length changed ≡ length now
  pub each : (k : ℕ) (d : Bool) → k < length now → slice_index_or changed k d ≡ differs (value_at now k) (value_at before k)
