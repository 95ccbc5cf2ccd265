-- The program's laws give the clause.
use Rattle.gather_laws.proofs.RoomLemmas.{values_fit}
use Rattle.gather_laws.proofs.laws.values_have_room.Goals as goal

pub returns : goal.returns
returns g c vertices round edges few within =
    let laws = (g.met.P.VertexProgram g.world.𝓛 g.world.𝓜 g.world.𝓡 ((λ s x. x), (λ x. x), (λ x. x), λ x. x)).laws c.args.program.now in
    values_fit _ _ laws vertices edges few within round
