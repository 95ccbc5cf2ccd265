use Rattle.std.proofs.Common.{rules, length, sym, ap, ◌∙◌, subst, slice_index_or, arith}
use Rattle.list_moves.proofs.Moving.{given_back}
use Rattle.gather_epoch.specs.Desks.{IsReady, HasWorkedAt}
use Rattle.gather_epoch.proofs.epoch.fork_gather.Goals as goal

pub fork_all-requires-after_bounds : goal.fork_all-requires-after_bounds
fork_all-requires-after_bounds g c _ _ i p below is shown argument unit now =
    let lent = c.as_mut_slice.ensures.value in (
      c.requires.serving,
      (
        subst (IsReady g.P.VertexProgram.rules g.D.Disk.state c.args.context.now) (sym (now ∙ (is ∙ ap (λ l. slice_index_or l i p) lent))) (c.requires.ready i p (omega (arith, below, ap (λ l. length l) lent))),
        (
          record { owned = search (rules, c.type_bounds.send-D.owned); leaving = λ k. search (rules, c.type_bounds.send-D.leaving k) },
          record { owned = search (rules, c.type_bounds.send-D-M.owned); leaving = λ k. search (rules, c.type_bounds.send-D-M.leaving k) },
          search (rules, c.type_bounds.sync-P),
          search (rules, c.type_bounds.sync-D),
          search (rules, c.type_bounds.sync-G),
        ),
      ),
    )

pub returns-clause-worked : goal.returns-clause-worked
returns-clause-worked g c w d below =
    let lent = c.as_mut_slice.ensures.value in
    let change = (c.fork_all.ensures w d (omega (arith, below, ap (λ l. length l) lent))).1 in
    subst (λ list. HasWorkedAt g.P.VertexProgram.rules g.D.Disk.state g.D.M.Meter.faults c.args.context.now (slice_index_or c.args.desks.now.items w d) (slice_index_or list w d)) (sym (given_back c.args.desks.now c.as_mut_slice.result.now c.fork_all.new.desks lent (omega (arith, c.fork_all.auto.desks))))
    (subst (λ new. HasWorkedAt g.P.VertexProgram.rules g.D.Disk.state g.D.M.Meter.faults c.args.context.now (slice_index_or c.args.desks.now.items w d) new) change.left
    (subst (λ old. HasWorkedAt g.P.VertexProgram.rules g.D.Disk.state g.D.M.Meter.faults c.args.context.now old change.after_call.now) (change.argument_is ∙ ap (λ l. slice_index_or l w d) lent)
    (search (rules, change.call))))
