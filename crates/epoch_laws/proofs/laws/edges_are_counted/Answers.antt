-- Capped sums are merged in any order; the other programs take any number.
use Rattle.epoch_laws.proofs.Counts.{edges_counted}
use Rattle.epoch_laws.proofs.Rounds.{values_of_start}
use Rattle.epoch_laws.proofs.laws.edges_are_counted.Goals as goal

pub returns-clause-counts : goal.returns-clause-counts
returns-clause-counts g c job edges well within counts count opens once vertex =
    edges_counted (g.P.VertexProgram.rules c.args.program.now)
    ((g.met.P.VertexProgram g.world.𝓛 g.world.𝓜 g.world.𝓡 ((λ s x. x), (λ x. x), (λ x. x), λ x. x)).laws c.args.program.now).counting
    counts job edges well within count opens once vertex

pub returns-clause-start : goal.returns-clause-start
returns-clause-start g c vertices edges numbers counted =
    values_of_start (g.P.VertexProgram.rules c.args.program.now) (g.P.VertexProgram.is_sum c.args.program.now)
    ((g.met.P.VertexProgram g.world.𝓛 g.world.𝓜 g.world.𝓡 ((λ s x. x), (λ x. x), (λ x. x), λ x. x)).laws c.args.program.now) vertices edges numbers counted
