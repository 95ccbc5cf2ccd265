use Rattle.chunk_model.proofs.Counted.{chunks_each, chunks_count}
use Rattle.chunk_model.proofs.Made.{chunks_hold}
use Rattle.chunk_model.proofs.laws.chunks_hold_items.Goals as goal

pub returns-clause-each : goal.returns-clause-each
returns-clause-each g c = chunks_each

pub returns-clause-held : goal.returns-clause-held
returns-clause-held g c = chunks_hold

pub returns-clause-few : goal.returns-clause-few
returns-clause-few g c = chunks_count
