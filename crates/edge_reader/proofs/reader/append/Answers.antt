use Rattle.std.proofs.Common.{[], ◌∷◌, refl, arith}
use Rattle.std.proofs.lemmas.Grind.{common_steps}
use Rattle.edge_reader.proofs.reader.append.Goals as goal

pub returns-in_err-map_err-2-clause-front : goal.returns-in_err-map_err-2-clause-front
returns-in_err-map_err-2-clause-front c = (
  c.args.edge ∷ [],
  record { src = c.args.edge.dst; dst = c.args.edge.src; weight = c.args.edge.weight } ∷ [],
  grind (arith, common_steps),
  rw c.if-both.true refl,
)
