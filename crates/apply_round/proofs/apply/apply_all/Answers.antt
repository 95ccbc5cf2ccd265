-- Desk by desk, and then over all vertices.
use Rattle.std.proofs.Common.{◌≡◌, sym, subst, arith}
use Rattle.std.specs.List.{All}
use Rattle.checkpoint.specs.Room.{IsRoomOf}
use Rattle.store_reader.specs.declared.store.Outcome.TheVariants.{Done}
use Rattle.apply_round.specs.Applying.{terms_in, AppliesToEach}
use Rattle.apply_round.proofs.Ends.{may_apply, causes_at, rooms_after, applies_to_each, stores_at}
use Rattle.apply_round.proofs.Rounds.{makes_round}
use Rattle.apply_round.proofs.apply.apply_all.Goals as goal

pub work_all-requires-clause-may : goal.work_all-requires-clause-may
work_all-requires-clause-may g c = λ κs outlives.
    may_apply g.D.Disk.state g.D.M.Meter.faults c.args.context.now.split.now c.args.context.now.beat.now c.args.values.now.items c.args.meters.now.items c.deal.new.desks.items c.deal.ensures.dealt
    (omega arith)
    (λ e d below. c.requires.sizes e d (omega (arith, below)))
    c.requires.beats

pub returns-clause-crew : goal.returns-clause-crew
returns-clause-crew g c =
    let olds = c.deal.new.desks.items in
    let news = c.work_all.new.desks.items in
    let t = terms_in g.D.Disk.state g.P.VertexProgram.rules c.args.context.now in
    record {
      many = omega arith;
      rooms = subst (All (IsRoomOf c.args.context.now.split.now)) (sym c.collect.ensures.rooms) (rooms_after g.D.Disk.state g.D.M.Meter.faults t olds news (omega arith) c.work_all.ensures.each);
      idle = omega arith;
      room = omega arith;
    }

pub returns-clause-cause : goal.returns-clause-cause
returns-clause-cause g c =
    let olds = c.deal.new.desks.items in
    let news = c.work_all.new.desks.items in
    let dealt = c.deal.ensures.dealt in
    let t = terms_in g.D.Disk.state g.P.VertexProgram.rules c.args.context.now in
    causes_at g.D.Disk.state g.D.M.Meter.faults t olds news (omega arith) c.work_all.ensures.each dealt.values_are dealt.meters_are c.collect.ensures.values c.collect.ensures.meters c.collect.ensures.outcome

pub returns-clause-applied : goal.returns-clause-applied
returns-clause-applied g c =
    let olds = c.deal.new.desks.items in
    let news = c.work_all.new.desks.items in
    let t = terms_in g.D.Disk.state g.P.VertexProgram.rules c.args.context.now in
    subst (AppliesToEach g.D.Disk.state t c.args.values.now.items) (sym c.collect.ensures.values)
    (applies_to_each g.D.Disk.state g.D.M.Meter.faults t c.args.context.now.split.now c.args.values.now.items c.args.meters.now.items olds news c.deal.ensures.dealt (omega arith) c.work_all.ensures.each)

pub returns-clause-stored : goal.returns-clause-stored
returns-clause-stored g c = λ done.
    let olds = c.deal.new.desks.items in
    let news = c.work_all.new.desks.items in
    let t = terms_in g.D.Disk.state g.P.VertexProgram.rules c.args.context.now in
    stores_at g.D.Disk.state g.D.M.Meter.faults t c.args.context.now.split.now c.args.values.now.items c.args.meters.now.items olds news c.deal.ensures.dealt (omega arith) c.work_all.ensures.each
    c.outcome_is_of_a_worker.ensures.done c.collect.ensures.outcome done c.collect.ensures.values c.collect.ensures.changed

pub returns-clause-round : goal.returns-clause-round
returns-clause-round g c = λ numbers before stands.
    let olds = c.deal.new.desks.items in
    let news = c.work_all.new.desks.items in
    let t = terms_in g.D.Disk.state g.P.VertexProgram.rules c.args.context.now in
    makes_round g.D.Disk.state t numbers before c.args.values.now.items c.collect.new.values.items c.requires.context.split (omega arith) stands
    (c.collect.result.outcome ≡ Done) c.collect.result.changed
    (subst (AppliesToEach g.D.Disk.state t c.args.values.now.items) (sym c.collect.ensures.values)
    (applies_to_each g.D.Disk.state g.D.M.Meter.faults t c.args.context.now.split.now c.args.values.now.items c.args.meters.now.items olds news c.deal.ensures.dealt (omega arith) c.work_all.ensures.each))
    (λ done. stores_at g.D.Disk.state g.D.M.Meter.faults t c.args.context.now.split.now c.args.values.now.items c.args.meters.now.items olds news c.deal.ensures.dealt (omega arith) c.work_all.ensures.each
    c.outcome_is_of_a_worker.ensures.done c.collect.ensures.outcome done c.collect.ensures.values c.collect.ensures.changed)
