-- A job over an edge text, and the text that answers it.
use Rattle.std.specs.Prelude.{◌≡◌, ℕ, List, [], ◌∷◌, ◌++◌, Bool, ◌==◌, if◌then◌else◌, Option, None, flat_map, decimal}
use Rattle.std.specs.List.{enumerate_from}
use Rattle.graph_model.specs.declared.edge.Edge.{Edge}
use Rattle.graph_model.specs.declared.edge.TextFault.{TextFault}
use Rattle.graph_model.specs.declared.value.Value.{Value}
use Rattle.graph_model.specs.declared.job.Job.{Job}
use Rattle.graph_model.specs.EdgeText.{edges_of_text, refusal, text_limit}
use Rattle.graph_model.specs.Programs.{NONE, rules_of, takes_both_directions, shows_side}
use Rattle.graph_model.specs.Rounds.{IsFinalValues, IsUnsettled}

-- The text of a job.
abbrev pub edges : Job → List ℕ → List Edge
edges job text = edges_of_text job.vertices (takes_both_directions job.program) text

abbrev pub refusal_of : Job → List ℕ → Option TextFault
refusal_of job text = refusal job.vertices (text_limit job.chunk) text

abbrev pub IsAccepted : Job → List ℕ → Type 0
IsAccepted job text = refusal_of job text ≡ None

-- The line of a vertex, and the lines of all vertices.
-- a number that was not reached is shown as `-`
abbrev pub shown : ℕ → List ℕ
shown number = if number == NONE then 45 ∷ [] else decimal number

abbrev pub line : Bool → ℕ → Value → List ℕ
line with_side v value = decimal v ++ 32 ∷ shown value.main ++ (if with_side then 32 ∷ shown value.side else []) ++ 10 ∷ []

abbrev pub text_of_values : Bool → List Value → List ℕ
text_of_values with_side values = flat_map (λ numbered. line with_side numbered.0 numbered.1) (enumerate_from 0 values)

-- the values of the job's last round
abbrev pub IsResult : Job → List Edge → List Value → Type 0
IsResult job graph values = IsFinalValues (rules_of job.program) job.vertices graph job.limit values

-- the job has no last round within its limit
abbrev pub NeverSettles : Job → List Edge → Type 0
NeverSettles job graph = IsUnsettled (rules_of job.program) job.vertices graph job.limit

-- **The answer of a job over a graph: the lines of the values of its last round.**
pub record IsAnswer (job : Job) (graph : List Edge) (text : List ℕ) : Type 0 where
  pub values : List Value
  pub is_result : IsResult job graph values
  pub is_text : text ≡ text_of_values (shows_side job.program) values
