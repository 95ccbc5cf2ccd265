use Rattle.rmat_source.proofs.MadeLines.{made_edges_are_drawn}
use Rattle.rmat_source.proofs.laws.made_text_has_the_edges_drawn.Goals as goal

pub returns : goal.returns
returns c vertices scale edges rng both fits small = made_edges_are_drawn vertices scale edges rng both fits small
