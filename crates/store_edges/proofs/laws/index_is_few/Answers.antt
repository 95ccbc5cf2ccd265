use Rattle.store_edges.proofs.Few.{few_of_index}
use Rattle.store_edges.proofs.laws.index_is_few.Goals as goal

pub returns : goal.returns
returns c = few_of_index
