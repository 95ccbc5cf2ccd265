-- The program's laws give the clause.
use Rattle.std.proofs.Common.{◌≡◌, ℕ, ◌+◌, ◌-◌, ◌≤◌, List, ◌∙◌, ap, arith}
use Rattle.graph_model.specs.declared.edge.Edge.{Edge}
use Rattle.graph_model.specs.Programs.{Rules}
use Rattle.graph_model.specs.Rounds.{values, next_by_changed}
use Rattle.gather_laws.proofs.AbsorbLemmas.{changed_are_enough}
use Rattle.gather_laws.proofs.laws.rounds_by_changed.Goals as goal

-- two rounds on
from_two : (p : Rules) (n : ℕ) (edges : List Edge) (round : ℕ) → 2 ≤ round →
    ((k : ℕ) → values p n edges (k + 2) ≡ next_by_changed p n edges (values p n edges k) (values p n edges (k + 1))) →
    values p n edges round ≡ next_by_changed p n edges (values p n edges (round - 2)) (values p n edges (round - 1))
from_two p n edges round late each =
    let two : round ≡ round - 2 + 2 = omega arith in
    let one : round - 2 + 1 ≡ round - 1 = omega arith in
    ap (values p n edges) two ∙ each (round - 2)
    ∙ ap (λ k. next_by_changed p n edges (values p n edges (round - 2)) (values p n edges k)) one

pub returns : goal.returns
returns g c vertices round edges absorbs few within late =
    let laws = (g.met.P.VertexProgram g.world.𝓛 g.world.𝓜 g.world.𝓡 ((λ s x. x), (λ x. x), (λ x. x), λ x. x)).laws c.args.program.now in
    from_two (g.P.VertexProgram.rules c.args.program.now) vertices edges round late
    (changed_are_enough _ _ laws absorbs vertices edges few within)
