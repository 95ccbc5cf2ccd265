use Rattle.std.proofs.Common.{◌≡◌, get_or, ◌∷◌, [], ◌++◌, ◌+◌, refl, ap, ◌∙◌}
use Rattle.std.specs.Global.{Global}
use Rattle.graph_model.specs.declared.value.Update.{Update}
use Rattle.std.specs.Prelude.{Vec, vec_len, vec_capacity}
use Rattle.std.proofs.lemmas.List.{get_or_default}
use Rattle.update_lanes.proofs.outgoing.add.Goals as goal

pub returns : goal.returns
returns c =
    let old = c.args.buffers.now.items in
    let p = c.args.partition in
    let same : (d : Vec Update Global) → c.index_mut.result.now ≡ get_or old p d = λ d. c.index_mut.ensures.value ∙ get_or_default old p c.index_mut.result.now d c.requires.partition in
    record {
      buffer = c.push_reserved.new.self;
      is = refl;
      gained = λ d. c.push_reserved.ensures.items ∙ ap (λ v. v.items ++ c.args.update ∷ []) (same d);
      long = λ d. c.push_reserved.ensures.len ∙ ap (λ v. vec_len v + 1) (same d);
      room = λ d. c.push_reserved.ensures.capacity ∙ ap (λ v. vec_capacity v) (same d);
    }
