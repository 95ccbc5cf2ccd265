-- From round 0, or from the round that was found.
use Rattle.std.proofs.Common.{◌≡◌, length, [], refl, sym, subst, arith}
use Rattle.ports.specs.Devices.{SameCounts}
use Rattle.round_steps.specs.Going.{IsStore}
use Rattle.round_loop.specs.declared.run.Start.{Start}
use Rattle.partitioner.specs.Splits.{split_for}
use Rattle.round_loop.specs.Keeping.{Moment, moment}
use Rattle.round_loop.specs.Coming.{IsAt}
use Rattle.round_loop.specs.Run.{HasRun}
use Rattle.partitioner.proofs.Made.{split_is}
use Rattle.round_loop.proofs.Beginning.{found}
use Rattle.round_loop.proofs.Ending.{not_made}
use Rattle.round_loop.proofs.run.run_from.Goals as goal

pub run_on-requires-clause-at : goal.run_on-requires-clause-at
run_on-requires-clause-at g c κs within =
    let run = c.args.run.now in
    let from : Moment g.row.D.Denot g.row.D-M.Denot = moment c.args.store.now c.args.meters.now.items c.args.seat.now.view c.args.beat.now in
    let new : Moment g.row.D.Denot g.row.D-M.Denot = moment c.begin.new.store c.begin.new.meters.items c.begin.new.seat.view c.begin.new.beat in
    let many : length c.args.meters.now.items ≡ run.job.now.engines = omega (arith, c.requires.meters, c.args.meters.now.ok.0) in (
      from,
      c.requires.beat,
      many,
      subst (λ (s : Start). IsAt g.D.Disk.state g.D.M.Meter.faults (g.P.VertexProgram.rules run.program.now) run.job.now s run.index.now c.in-Ok.begun from new) (sym c.in-Fresh.is) c.in-Ok.ensures.course.1,
    )

pub run_on-requires-in-At-clause-at : goal.run_on-requires-in-At-clause-at
run_on-requires-in-At-clause-at g c κs within =
    let disks = g.met.D.Disk g.world.𝓛 g.world.𝓜 g.world.𝓡 ((λ s x. x), (λ x. x), (λ x. x), λ x. x) in
    let run = c.args.run.now in
    let from : Moment g.row.D.Denot g.row.D-M.Denot = moment c.args.store.now c.args.meters.now.items c.args.seat.now.view c.args.beat.now in
    let many : length c.args.meters.now.items ≡ run.job.now.engines = omega (arith, c.requires.meters, c.args.meters.now.ok.0) in
    let ready : IsStore g.D.Disk.state (split_for run.job.now) from.beat from.store
    = subst (λ s. IsStore g.D.Disk.state s c.args.beat.now c.args.store.now) (split_is run.job.now run.split.now c.requires.run.of_job) c.requires.store in (
      from,
      c.requires.beat,
      many,
      record {
        epochs = [];
        come = found g.D.Disk.state g.D.M.Meter.faults disks.lawful (g.P.VertexProgram.rules run.program.now) run.job.now run.index.now from ready c.in-At.round c.in-At.changed c.requires.between;
        epochs_are = refl;
      },
    )

pub returns-in-Ok-clause-run : goal.returns-in-Ok-clause-run
returns-in-Ok-clause-run g c =
    let run = c.args.run.now in
    let from : Moment g.row.D.Denot g.row.D-M.Denot = moment c.args.store.now c.args.meters.now.items c.args.seat.now.view c.args.beat.now in
    let new : Moment g.row.D.Denot g.row.D-M.Denot = moment c.begin.new.store c.begin.new.meters.items c.begin.new.seat.view c.begin.new.beat in
    c.run_on.ensures.run from c.requires.beat
    (subst (λ (s : Start). IsAt g.D.Disk.state g.D.M.Meter.faults (g.P.VertexProgram.rules run.program.now) run.job.now s run.index.now c.in-Ok.begun from new) (sym c.in-Fresh.is) c.in-Ok.ensures.course.1)

pub returns-in-At-clause-run : goal.returns-in-At-clause-run
returns-in-At-clause-run g c =
    let disks = g.met.D.Disk g.world.𝓛 g.world.𝓜 g.world.𝓡 ((λ s x. x), (λ x. x), (λ x. x), λ x. x) in
    let run = c.args.run.now in
    let from : Moment g.row.D.Denot g.row.D-M.Denot = moment c.args.store.now c.args.meters.now.items c.args.seat.now.view c.args.beat.now in
    let end : Moment g.row.D.Denot g.row.D-M.Denot = moment c.run_on-in-At.new.store c.run_on-in-At.new.meters.items c.run_on-in-At.new.seat.view c.run_on-in-At.new.beat in
    let ready : IsStore g.D.Disk.state (split_for run.job.now) from.beat from.store
    = subst (λ s. IsStore g.D.Disk.state s c.args.beat.now c.args.store.now) (split_is run.job.now run.split.now c.requires.run.of_job) c.requires.store in
    subst (λ (s : Start). HasRun g.D.Disk.state g.D.M.Meter.faults (g.P.VertexProgram.rules run.program.now) run.job.now s run.index.now from end c.run_on-in-At.result) (sym c.in-At.is)
    (c.run_on-in-At.ensures.run from c.requires.beat (record {
      epochs = [];
      come = found g.D.Disk.state g.D.M.Meter.faults disks.lawful (g.P.VertexProgram.rules run.program.now) run.job.now run.index.now from ready c.in-At.round c.in-At.changed c.requires.between;
      epochs_are = refl;
    }))

pub returns-in-Ok-clause-calm : goal.returns-in-Ok-clause-calm
returns-in-Ok-clause-calm g c =
    let run = c.args.run.now in
    let from : Moment g.row.D.Denot g.row.D-M.Denot = moment c.args.store.now c.args.meters.now.items c.args.seat.now.view c.args.beat.now in
    let new : Moment g.row.D.Denot g.row.D-M.Denot = moment c.begin.new.store c.begin.new.meters.items c.begin.new.seat.view c.begin.new.beat in
    c.run_on.ensures.calm from
    (subst (λ (s : Start). IsAt g.D.Disk.state g.D.M.Meter.faults (g.P.VertexProgram.rules run.program.now) run.job.now s run.index.now c.in-Ok.begun from new) (sym c.in-Fresh.is) c.in-Ok.ensures.course.1)

pub returns-in-At-clause-calm : goal.returns-in-At-clause-calm
returns-in-At-clause-calm g c =
    let disks = g.met.D.Disk g.world.𝓛 g.world.𝓜 g.world.𝓡 ((λ s x. x), (λ x. x), (λ x. x), λ x. x) in
    let run = c.args.run.now in
    let from : Moment g.row.D.Denot g.row.D-M.Denot = moment c.args.store.now c.args.meters.now.items c.args.seat.now.view c.args.beat.now in
    let ready : IsStore g.D.Disk.state (split_for run.job.now) from.beat from.store
    = subst (λ s. IsStore g.D.Disk.state s c.args.beat.now c.args.store.now) (split_is run.job.now run.split.now c.requires.run.of_job) c.requires.store in
    c.run_on-in-At.ensures.calm from (record {
      epochs = [];
      come = found g.D.Disk.state g.D.M.Meter.faults disks.lawful (g.P.VertexProgram.rules run.program.now) run.job.now run.index.now from ready c.in-At.round c.in-At.changed c.requires.between;
      epochs_are = refl;
    })

pub returns-in-Err-clause-calm : goal.returns-in-Err-clause-calm
returns-in-Err-clause-calm g c = not_made (SameCounts g.D.M.Meter.faults c.args.meters.now.items c.begin.new.meters.items) c.in-Err.fault (λ is. c.in-Err.ensures.limit cc)
