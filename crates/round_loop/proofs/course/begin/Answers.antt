-- Round 0, by what `make_first` says of it.
use Rattle.std.proofs.Common.{◌≡◌, Bool, true, false, if◌then◌else◌, refl, sym, ap, ◌∙◌}
use Rattle.round_loop.specs.Keeping.{Moment, moment}
use Rattle.partitioner.proofs.Made.{split_is}
use Rattle.round_loop.proofs.Ending.{no_limit}
use Rattle.round_loop.proofs.Steps.{begins_at, begins_not}
use Rattle.round_loop.proofs.course.begin.Goals as goal

pub returns-then-counts-clause-course : goal.returns-then-counts-clause-course
returns-then-counts-clause-course g c =
    let disks = g.met.D.Disk g.world.𝓛 g.world.𝓜 g.world.𝓡 ((λ s x. x), (λ x. x), (λ x. x), λ x. x) in
    let run = c.args.run.now in
    let rules = g.P.VertexProgram.rules run.program.now in
    let end = c.make_first-end in
    let from : Moment g.row.D.Denot g.row.D-M.Denot = moment c.args.store.now c.args.meters.now.items c.args.seat.now.view c.args.beat.now in
    let new : Moment g.row.D.Denot g.row.D-M.Denot = moment end.new.store end.new.meters.items end.new.seat.view end.new.beat in
    let counts : rules.counts ≡ true = sym c.counts-counts.ensures ∙ c.if-counts.true in (
      refl,
      begins_at g.D.Disk.state g.D.M.Meter.faults rules run.job.now run.index.now disks.lawful run.split.now (split_is run.job.now run.split.now c.requires.run.of_job) from new c.requires.store
          end.result.outcome end.result.changed end.result.claims end.result.admitted
          (record { store = end.ensures.store; keeps = end.ensures.keeps; meters = end.ensures.meters; beat = end.ensures.beat; through = end.ensures.through; few = end.ensures.few; cause = end.ensures.cause; calm = end.ensures.calm; sound = end.ensures.sound; damaged = end.ensures.damaged; epochs = end.ensures.epochs; made = end.ensures.round })
          1 (ap (λ (b : Bool). if b then 1 else 0) (sym counts)) c.in-Ok.ensures.done,
    )

pub returns-else-counts-clause-course : goal.returns-else-counts-clause-course
returns-else-counts-clause-course g c =
    let disks = g.met.D.Disk g.world.𝓛 g.world.𝓜 g.world.𝓡 ((λ s x. x), (λ x. x), (λ x. x), λ x. x) in
    let run = c.args.run.now in
    let rules = g.P.VertexProgram.rules run.program.now in
    let end = c.make_first-end in
    let from : Moment g.row.D.Denot g.row.D-M.Denot = moment c.args.store.now c.args.meters.now.items c.args.seat.now.view c.args.beat.now in
    let new : Moment g.row.D.Denot g.row.D-M.Denot = moment end.new.store end.new.meters.items end.new.seat.view end.new.beat in
    let counts : rules.counts ≡ false = sym c.counts-counts.ensures ∙ c.if-counts.false in (
      refl,
      begins_at g.D.Disk.state g.D.M.Meter.faults rules run.job.now run.index.now disks.lawful run.split.now (split_is run.job.now run.split.now c.requires.run.of_job) from new c.requires.store
          end.result.outcome end.result.changed end.result.claims end.result.admitted
          (record { store = end.ensures.store; keeps = end.ensures.keeps; meters = end.ensures.meters; beat = end.ensures.beat; through = end.ensures.through; few = end.ensures.few; cause = end.ensures.cause; calm = end.ensures.calm; sound = end.ensures.sound; damaged = end.ensures.damaged; epochs = end.ensures.epochs; made = end.ensures.round })
          0 (ap (λ (b : Bool). if b then 1 else 0) (sym counts)) c.in-Ok.ensures.done,
    )

pub returns-in-Err-clause-course : goal.returns-in-Err-clause-course
returns-in-Err-clause-course g c =
    let disks = g.met.D.Disk g.world.𝓛 g.world.𝓜 g.world.𝓡 ((λ s x. x), (λ x. x), (λ x. x), λ x. x) in
    let run = c.args.run.now in
    let rules = g.P.VertexProgram.rules run.program.now in
    let end = c.make_first-end in
    let from : Moment g.row.D.Denot g.row.D-M.Denot = moment c.args.store.now c.args.meters.now.items c.args.seat.now.view c.args.beat.now in
    let new : Moment g.row.D.Denot g.row.D-M.Denot = moment end.new.store end.new.meters.items end.new.seat.view end.new.beat in
    begins_not g.D.Disk.state g.D.M.Meter.faults rules run.job.now run.index.now disks.lawful run.split.now (split_is run.job.now run.split.now c.requires.run.of_job) from new c.requires.store
    end.result.outcome end.result.changed end.result.claims end.result.admitted
    (record { store = end.ensures.store; keeps = end.ensures.keeps; meters = end.ensures.meters; beat = end.ensures.beat; through = end.ensures.through; few = end.ensures.few; cause = end.ensures.cause; calm = end.ensures.calm; sound = end.ensures.sound; damaged = end.ensures.damaged; epochs = end.ensures.epochs; made = end.ensures.round })
    c.in-Err.fault c.in-Err.ensures.fault

pub returns-in-Err-clause-limit : goal.returns-in-Err-clause-limit
returns-in-Err-clause-limit g c = λ is. no_limit c.make_first-end.result.outcome c.in-Err.fault c.in-Err.ensures.fault cc
