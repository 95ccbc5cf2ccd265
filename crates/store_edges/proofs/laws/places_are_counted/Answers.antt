use Rattle.store_edges.proofs.Counted.{engine_counted}
use Rattle.store_edges.proofs.laws.places_are_counted.Goals as goal

pub returns : goal.returns
returns c = engine_counted
