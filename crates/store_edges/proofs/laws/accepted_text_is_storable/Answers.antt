use Rattle.store_edges.proofs.Accepted.{edges_within, storable_text}
use Rattle.store_edges.proofs.laws.accepted_text_is_storable.Goals as goal

pub returns-clause-storable : goal.returns-clause-storable
returns-clause-storable c = storable_text

pub returns-clause-within : goal.returns-clause-within
returns-clause-within c = edges_within
