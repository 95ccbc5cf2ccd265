use Rattle.chunk_object.proofs.Order.{split_order, join_order}
use Rattle.chunk_object.proofs.laws.lists_keep_order.Goals as goal

pub returns-clause-split : goal.returns-clause-split
returns-clause-split c h ordered before e behind cut serial worker other is = split_order h ordered before e behind cut serial worker other is

pub returns-clause-join : goal.returns-clause-join
returns-clause-join c h ordered before e behind cut serial worker other is = join_order h ordered before e behind cut serial worker other is
