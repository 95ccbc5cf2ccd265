use Rattle.std.proofs.Common.{◌∙◌, length, ap, rules, arith, sym, subst}
use Rattle.std.specs.List.{All}
use Rattle.std.proofs.lemmas.List.Elements.{All-nil}
use Rattle.mem_devices.specs.MemDisk.{disk_state}
use Rattle.store_tests.specs.Desks.{IsReady, HasEnded}
use Rattle.store_tests.proofs.Pairs.{all_pushed, all_popped, all_lent}
use Rattle.store_tests.proofs.fork_tests.gather_both.Goals as goal

pub gather_all-requires-clause-ready : goal.gather_all-requires-clause-ready
gather_all-requires-clause-ready g c κs within =
    let P = IsReady disk_state c.args.context.now.serving c.args.context.now.beat.now in
    subst (All P) (sym c.as_mut_slice.ensures.value)
    (all_pushed P c.push-2.result _ c.push.new.self.items c.push-2.new.self.items c.args.two c.expect-2.ensures c.push-2.ensures.items
    (all_pushed P c.push.result _ c.new-desks.result.items c.push.new.self.items c.args.one c.expect.ensures c.push.ensures.items
    (subst (All P) (sym c.new-desks.ensures.items) (All-nil P)) c.requires.ready.0) c.requires.ready.1)

pub returns-clause-two : goal.returns-clause-two
returns-clause-two g c =
    (all_popped (HasEnded disk_state c.args.context.now.serving.table.now c.args.context.now.serving.split.now) c.pop.result _ c.pop.new.self.items c.expect-two.result c.expect-two.ensures c.pop.ensures.items (all_lent (HasEnded disk_state c.args.context.now.serving.table.now c.args.context.now.serving.split.now) c.push-2.new.self.items c.gather_all.new.desks c.push-2.new.self.len (first_of (search rules, omega arith)) (c.gather_all.ensures.many ∙ ap length c.as_mut_slice.ensures.value) c.gather_all.ensures.ended)).1

pub returns-clause-one : goal.returns-clause-one
returns-clause-one g c =
    let P = HasEnded disk_state c.args.context.now.serving.table.now c.args.context.now.serving.split.now in
    (all_popped P c.pop-2.result _ c.pop-2.new.self.items c.expect-one.result c.expect-one.ensures c.pop-2.ensures.items
    (all_popped P c.pop.result _ c.pop.new.self.items c.expect-two.result c.expect-two.ensures c.pop.ensures.items (all_lent (HasEnded disk_state c.args.context.now.serving.table.now c.args.context.now.serving.split.now) c.push-2.new.self.items c.gather_all.new.desks c.push-2.new.self.len (first_of (search rules, omega arith)) (c.gather_all.ensures.many ∙ ap length c.as_mut_slice.ensures.value) c.gather_all.ensures.ended)).0).1
