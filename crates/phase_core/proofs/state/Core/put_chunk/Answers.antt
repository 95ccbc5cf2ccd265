-- The new chunk's updates go to vertices too.
use Rattle.std.proofs.Common.{◌<◌, sym, subst}
use Rattle.std.specs.List.{All}
use Rattle.std.specs.Result.{is_ok}
use Rattle.graph_model.specs.declared.value.Update.{Update}
use Rattle.phase_core.proofs.Chunked.{within_pushed}
use Rattle.phase_core.proofs.state.Core.put_chunk.Goals as goal

pub invariant_of-self-clause-within : goal.invariant_of-self-clause-within
invariant_of-self-clause-within c =
    let copied = c.in_ok-updates.ensures.items_if_clones_equal (λ x y same. same) in
    within_pushed c.args.self.now.split.vertices c.args.self.now.chunks.items c.push.new.self.items _ (is_ok c.push.result) c.push.ensures.items c.args.self.now.within
    (subst (All (λ (u : Update). u.dst < c.args.self.now.split.vertices)) (sym copied) (λ k d below. (c.requires.puts.home k d below).0))
