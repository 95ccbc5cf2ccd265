use Rattle.std.proofs.Common.{◌≡◌, replicate}
use Rattle.storage_engine.specs.Waiting.{no_edges}
use Rattle.graph_model.proofs.VecLists.{items_of}
use Rattle.storage_engine.proofs.waiting.Buffers.new.Given as goal

abbrev pub invariant-lists : goal.invariant-lists
invariant-lists l = items_of l.lists.items ≡ replicate l.counter no_edges
