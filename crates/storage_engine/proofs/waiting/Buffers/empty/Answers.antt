use Rattle.std.proofs.Common.{◌∙◌, set, ap}
use Rattle.storage_engine.specs.Waiting.{no_edges}
use Rattle.graph_model.proofs.VecLists.{set_list}
use Rattle.storage_engine.proofs.waiting.Buffers.empty.Goals as goal

pub returns : goal.returns
returns c =
    set_list c.self.inside.lists.items c.args.partition c.clear.new.self no_edges c.clear.ensures.items
    ∙ ap (λ buffers. set buffers c.args.partition no_edges) c.self.view_is
