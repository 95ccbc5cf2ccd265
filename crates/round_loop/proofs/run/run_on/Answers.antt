-- Round by round, from wherever the run began.
use Rattle.std.proofs.Common.{◌≡◌, ◌+◌, ◌<◌, sym, subst, ◌∙◌, arith}
use Rattle.ports.specs.Devices.{SameCounts}
use Rattle.round_steps.specs.Going.{IsStore}
use Rattle.round_loop.specs.Keeping.{Moment, moment}
use Rattle.round_loop.specs.Conditions.{MOST_ROUNDS}
use Rattle.round_loop.specs.Coming.{GoesOn, bound}
use Rattle.partitioner.proofs.Made.{split_is}
use Rattle.round_loop.proofs.Ending.{not_made, ends_at, ends_at_limit}
use Rattle.round_loop.proofs.Steps.{small_round, few_so_far, below_bound}
use Rattle.round_loop.proofs.run.run_on.Goals as goal

pub go_on-requires-clause-store : goal.go_on-requires-clause-store
go_on-requires-clause-store g c κs within =
    let at = c.rounds.invariant.at c.requires.at.0 c.requires.at.3 in
    subst (λ s. IsStore g.D.Disk.state s c.rounds.beat c.rounds.store) (sym (split_is c.args.run.now.job.now c.args.run.now.split.now c.requires.run.of_job)) at.come.store

pub go_on-requires-clause-meters : goal.go_on-requires-clause-meters
go_on-requires-clause-meters g c κs within =
    let at = c.rounds.invariant.at c.requires.at.0 c.requires.at.3 in
    omega (arith, at.come.meters.many, c.requires.at.2, c.rounds.meters.ok.0)

pub go_on-requires-clause-between : goal.go_on-requires-clause-between
go_on-requires-clause-between g c κs within = (c.rounds.invariant.at c.requires.at.0 c.requires.at.3).come.through.between

pub go_on-requires-clause-beat : goal.go_on-requires-clause-beat
go_on-requires-clause-beat g c κs within =
    let at = c.rounds.invariant.at c.requires.at.0 c.requires.at.3 in
    omega (arith, at.come.rises.1, c.requires.at.1)

pub go_on-requires-clause-few : goal.go_on-requires-clause-few
go_on-requires-clause-few g c κs within =
    let rules = g.P.VertexProgram.rules c.args.run.now.program.now in
    let job = c.args.run.now.job.now in
    let so_far = c.rounds.so_far in
    let from : Moment g.row.D.Denot g.row.D-M.Denot = c.requires.at.0 in
    let mid : Moment g.row.D.Denot g.row.D-M.Denot = moment c.rounds.store c.rounds.meters.items c.rounds.seat.view c.rounds.beat in
    let goes : GoesOn rules job.limit so_far.round so_far.changed = c.is_to_go_on.ensures.goes_on rules (sym c.rounds-rounds.ensures) c.rounds-test.true in
    let below : so_far.round < MOST_ROUNDS = small_round rules job.limit so_far.round so_far.changed goes c.requires.run.job.limit.1 c.requires.run.rounds in
    let few = few_so_far g.D.Disk.state g.D.M.Meter.faults rules job c.args.start c.args.run.now.index.now so_far from mid (c.rounds.invariant.at from c.requires.at.3) c.requires.run.job below in
    (below, omega (arith, few.0), few.1, few.2)

pub rounds-smaller : goal.rounds-smaller
rounds-smaller g c =
    let rules = g.P.VertexProgram.rules c.args.run.now.program.now in
    let job = c.args.run.now.job.now in
    let so_far = c.rounds.so_far in
    let goes : GoesOn rules job.limit so_far.round so_far.changed = c.is_to_go_on.ensures.goes_on rules (sym c.rounds-rounds.ensures) c.rounds-test.true in
    let below : so_far.round < bound c.rounds-rounds.result job.limit = below_bound rules c.rounds-rounds.result job.limit so_far.round so_far.changed (sym c.rounds-rounds.ensures) goes in
    let next : c.in-Ok.next.round ≡ so_far.round + 1 = (c.in-Ok.ensures.course c.requires.at.0 (c.rounds.invariant.at c.requires.at.0 c.requires.at.3)).0 in
    omega (arith, below, next)

pub rounds-preserved : goal.rounds-preserved
rounds-preserved g c = record {
  at = λ from at. (c.in-Ok.ensures.course from (c.rounds.invariant.at from at)).1;
  crews = c.in-Ok.ensures.crews;
  table = c.in-Ok.ensures.table ∙ c.rounds.invariant.table;
  room = omega (arith, c.in-Ok.ensures.room, c.rounds.invariant.room);
}

pub returns-in-Err-clause-run : goal.returns-in-Err-clause-run
returns-in-Err-clause-run g c = λ from small at. c.in-Err.ensures.course from (c.rounds.invariant.at from at)

pub returns-then-not-is_last-clause-run : goal.returns-then-not-is_last-clause-run
returns-then-not-is_last-clause-run g c = λ from small begun.
    let rules = g.P.VertexProgram.rules c.args.run.now.program.now in
    let so_far = c.rounds.so_far in
    let new : Moment g.row.D.Denot g.row.D-M.Denot = moment c.rounds.store c.rounds.meters.items c.rounds.seat.view c.rounds.beat in
    let at = c.rounds.invariant.at from begun in
    let limit = c.is_last.ensures.limit c.if-not-is_last.true in
    ends_at_limit g.D.Disk.state g.D.M.Meter.faults rules c.args.run.now.job.now c.args.start c.args.run.now.index.now (Unit {0}) so_far.round so_far.changed so_far.claims so_far.admitted from new at.epochs at.come tt
    (c.is_to_go_on.ensures.ends rules (sym c.rounds-rounds.ensures) c.rounds-test.false) (sym c.rounds-rounds.ensures ∙ limit.0) limit.1

pub returns-clause-run : goal.returns-clause-run
returns-clause-run g c = λ from small begun.
    let rules = g.P.VertexProgram.rules c.args.run.now.program.now in
    let so_far = c.rounds.so_far in
    let new : Moment g.row.D.Denot g.row.D-M.Denot = moment c.rounds.store c.rounds.meters.items c.rounds.seat.view c.rounds.beat in
    let at = c.rounds.invariant.at from begun in
    ends_at g.D.Disk.state g.D.M.Meter.faults rules c.args.run.now.job.now c.args.start c.args.run.now.index.now (Unit {0}) so_far.round so_far.changed so_far.claims so_far.admitted from new at.epochs at.come tt
    (c.is_to_go_on.ensures.ends rules (sym c.rounds-rounds.ensures) c.rounds-test.false) (λ open_ended. c.is_last.ensures.last c.if-not-is_last.false (c.rounds-rounds.ensures ∙ open_ended))

pub returns-in-Err-clause-calm : goal.returns-in-Err-clause-calm
returns-in-Err-clause-calm g c = λ from begun. not_made (SameCounts g.D.M.Meter.faults from.meters c.go_on.new.meters.items) c.in-Err.fault (λ is. c.in-Err.ensures.limit cc)

pub returns-then-not-is_last-clause-calm : goal.returns-then-not-is_last-clause-calm
returns-then-not-is_last-clause-calm g c = λ from begun. ((c.rounds.invariant.at from begun).come.calm tt).0

pub returns-clause-calm : goal.returns-clause-calm
returns-clause-calm g c = λ from begun. ((c.rounds.invariant.at from begun).come.calm tt).0
