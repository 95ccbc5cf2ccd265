-- What edges send in a phase.
use Rattle.std.specs.Prelude.{ℕ, Bool, true, if◌then◌else◌, Option, Some, None, List, [], ◌∷◌}
use Rattle.std.specs.List.{flat_map}
use Rattle.graph_model.specs.declared.edge.Edge.{Edge}
use Rattle.graph_model.specs.declared.value.Value.{Value}
use Rattle.graph_model.specs.declared.value.Update.{Update}
use Rattle.graph_model.specs.Programs.{Rules}
use Rattle.graph_model.specs.Rounds.{value_at, differs}

-- By what a phase sends: the rule of the program, the values of all vertices, and, where only those send whose value is another one, the values of the round before
pub record Sending : Type 0 where
  pub send : Value → ℕ → Option ℕ
  pub now : ℕ → Value
  pub before : Option (ℕ → Value)

-- what a vertex of this value sends, if it sends, where before it had that value
abbrev pub is_sender_since : Option (ℕ → Value) → (ℕ → Value) → ℕ → Bool
is_sender_since None now vertex = true
is_sender_since (Some before) now vertex = differs (now vertex) (before vertex)

-- whether a vertex sends: each one, or only where its value differs from that of the round before
abbrev pub is_sender : Sending → ℕ → Bool
is_sender s vertex = is_sender_since s.before s.now vertex

-- an update, where a number is sent
abbrev pub update_to : ℕ → Option ℕ → List Update
update_to vertex None = []
update_to vertex (Some number) = record { dst = vertex; value = number } ∷ []

-- what an edge sends
abbrev pub sent_along : Sending → Edge → List Update
sent_along s edge = if is_sender s edge.src then update_to edge.dst (s.send (s.now edge.src) edge.weight) else []

-- what these edges send, in order
abbrev pub sent_by : Sending → List Edge → List Update
sent_by s = flat_map (sent_along s)

-- the sending of a program in a round that begins with these values
abbrev pub sending_of : Rules → Option (List Value) → List Value → Sending
sending_of p None now = record { send = p.send; now = value_at now; before = None }
sending_of p (Some before) now = record { send = p.send; now = value_at now; before = Some (value_at before) }
