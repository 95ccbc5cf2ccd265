use Rattle.std.proofs.Common.{rules, refl, subst, slice_index_or}
use Rattle.phase_barrier.specs.Desks.{LeavesDesk}
use Rattle.phase_barrier.proofs.fork_all.Goals as goal

pub returns : goal.returns
returns g c i d below =
    let change = (c.for_each_mut.ensures i d below).1 in (
      refl,
      subst (λ after. LeavesDesk g.F.Fn c.args.work.now c.args.context.now (slice_index_or c.args.desks.now i d) after) change.left
          (subst (λ before. LeavesDesk g.F.Fn c.args.work.now c.args.context.now before change.after_call.now) change.argument_is
          (search (rules, change.call))),
    )
