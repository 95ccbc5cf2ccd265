-- Lines, and bytes that go through a buffer.
use Rattle.std.specs.Prelude.{◌≡◌, ℕ, List, ◌++◌, Option, Bool, flat_map}
use Rattle.std.specs.List.{enumerate_from}
use Rattle.graph_model.specs.declared.value.Value.{Value}
use Rattle.graph_model.specs.Answer.{line}
use Rattle.ports.specs.Sink.{Appends}
use Rattle.ports.specs.Told.{AsTold}

-- the lines of the values of consecutive vertices; from vertex 0 on, they are `text_of_values`
abbrev pub lines_from : Bool → (first : ℕ) → List Value → List ℕ
lines_from with_side first values = flat_map (λ numbered. line with_side numbered.0 numbered.1) (enumerate_from first values)

-- Bytes came behind those that wait, and a front of both was written; the rest waits.
pub record Passes (bytes waits waits' : List ℕ) (old new : Option (List ℕ)) : Type 0 where
  pub written : List ℕ
  pub parts : waits ++ bytes ≡ written ++ waits'
  pub told : AsTold (Appends written) old new
