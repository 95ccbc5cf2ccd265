-- The laws of gather give all three.
use Rattle.phase_core.proofs.Taking.{own_sums, merged_fresh}
use Rattle.phase_core.proofs.Drained.{merged_all}
use Rattle.phase_core.proofs.laws.merged_is_what_was_taken.Goals as goal

pub returns-clause-own : goal.returns-clause-own
returns-clause-own g c m events worker vertex = own_sums (g.P.VertexProgram.rules c.args.program.now) m events worker vertex

pub returns-clause-taken : goal.returns-clause-taken
returns-clause-taken g c split chunks events vertex sums =
    merged_fresh (g.P.VertexProgram.rules c.args.program.now) (g.P.VertexProgram.is_sum c.args.program.now)
    ((g.met.P.VertexProgram g.world.𝓛 g.world.𝓜 g.world.𝓡 ((λ s x. x), (λ x. x), (λ x. x), λ x. x)).laws c.args.program.now) split chunks events vertex sums

pub returns-clause-all : goal.returns-clause-all
returns-clause-all g c split chunks events vertex sums is of_split drained =
    merged_all (g.P.VertexProgram.rules c.args.program.now) (g.P.VertexProgram.is_sum c.args.program.now)
    ((g.met.P.VertexProgram g.world.𝓛 g.world.𝓜 g.world.𝓡 ((λ s x. x), (λ x. x), (λ x. x), λ x. x)).laws c.args.program.now) split is chunks events vertex sums of_split drained
