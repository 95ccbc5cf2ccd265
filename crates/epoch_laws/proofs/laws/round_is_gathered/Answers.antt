-- The program's laws give the sums, and these the next values.
use Rattle.epoch_laws.proofs.Rounds.{sums_of_round, values_of_round}
use Rattle.epoch_laws.proofs.laws.round_is_gathered.Goals as goal

pub returns-clause-sums : goal.returns-clause-sums
returns-clause-sums g c job edges well within round before t scatter gather opens once opens_updates once_updates vertex =
    sums_of_round (g.P.VertexProgram.rules c.args.program.now) (g.P.VertexProgram.is_sum c.args.program.now)
    ((g.met.P.VertexProgram g.world.𝓛 g.world.𝓜 g.world.𝓡 ((λ s x. x), (λ x. x), (λ x. x), λ x. x)).laws c.args.program.now)
    job edges well within round before t scatter gather opens once opens_updates once_updates vertex

pub returns-clause-next : goal.returns-clause-next
returns-clause-next g c job edges well within round before some may t scatter gather opens once opens_updates once_updates =
    let laws = (g.met.P.VertexProgram g.world.𝓛 g.world.𝓜 g.world.𝓡 ((λ s x. x), (λ x. x), (λ x. x), λ x. x)).laws c.args.program.now in
    values_of_round (g.P.VertexProgram.rules c.args.program.now) (g.P.VertexProgram.is_sum c.args.program.now) laws job edges well within round before some may _
    (sums_of_round (g.P.VertexProgram.rules c.args.program.now) (g.P.VertexProgram.is_sum c.args.program.now) laws job edges well within round before t scatter gather opens once opens_updates once_updates)
