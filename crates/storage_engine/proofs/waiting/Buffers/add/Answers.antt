use Rattle.std.proofs.Common.{◌∙◌, ◌<◌, length, ap, arith}
use Rattle.std.specs.Prelude.{Vec}
use Rattle.std.specs.Global.{Global}
use Rattle.std.proofs.lemmas.List.{length-map}
use Rattle.graph_model.specs.declared.edge.Edge.{Edge}
use Rattle.storage_engine.specs.Waiting.{with_edge}
use Rattle.graph_model.proofs.VecLists.{same_lists, more_lists}
use Rattle.storage_engine.proofs.waiting.Buffers.add.Goals as goal

pub returns-in_err-push-clause-err : goal.returns-in_err-push-clause-err
returns-in_err-push-clause-err c =
    let within : c.args.partition < length c.self.inside.lists.items =
    omega (arith, c.requires, ap length c.self.view_is, length-map c.self.inside.lists.items (λ (v : Vec Edge Global). v.items)) in
    let same = same_lists c.self.inside.lists.items c.args.partition c.index_mut.result.now c.push.new.self c.index_mut.ensures.value within c.in_err-push.ensures.items ∙ c.self.view_is in
    grind (arith, same)

pub returns-clause-ok : goal.returns-clause-ok
returns-clause-ok c =
    let within : c.args.partition < length c.self.inside.lists.items =
    omega (arith, c.requires, ap length c.self.view_is, length-map c.self.inside.lists.items (λ (v : Vec Edge Global). v.items)) in
    more_lists c.self.inside.lists.items c.args.partition c.index_mut.result.now c.push.new.self c.args.edge c.index_mut.ensures.value within c.in_ok-push.ensures.items
    ∙ ap (λ buffers. with_edge buffers c.args.partition c.args.edge) c.self.view_is
