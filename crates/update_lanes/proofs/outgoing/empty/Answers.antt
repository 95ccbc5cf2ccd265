use Rattle.std.proofs.Common.{refl, ap, ◌∙◌}
use Rattle.std.specs.Prelude.{vec_capacity}
use Rattle.std.proofs.lemmas.List.{get_or_default}
use Rattle.update_lanes.proofs.outgoing.empty.Goals as goal

pub returns : goal.returns
returns c = record {
  buffer = c.clear.new.self;
  is = refl;
  none = c.clear.ensures.items;
  short = c.clear.ensures.len;
  room = λ d. c.clear.ensures.capacity ∙ ap (λ v. vec_capacity v) (c.index_mut.ensures.value ∙ get_or_default c.args.buffers.now.items c.args.partition c.index_mut.result.now d c.requires);
}
