-- The program's laws give those of the merge, and these the two clauses.
use Rattle.gather_laws.proofs.SplitLemmas.{merged-split, merged-taken}
use Rattle.gather_laws.proofs.laws.sums_of_pieces.Goals as goal

pub returns-clause-by_places : goal.returns-clause-by_places
returns-clause-by_places g c =
    let laws = (g.met.P.VertexProgram g.world.𝓛 g.world.𝓜 g.world.𝓡 ((λ s x. x), (λ x. x), (λ x. x), λ x. x)).laws c.args.program.now in
    merged-split _ _ _ laws.merging

pub returns-clause-by_takes : goal.returns-clause-by_takes
returns-clause-by_takes g c =
    let laws = (g.met.P.VertexProgram g.world.𝓛 g.world.𝓜 g.world.𝓡 ((λ s x. x), (λ x. x), (λ x. x), λ x. x)).laws c.args.program.now in
    merged-taken _ _ _ laws.merging
