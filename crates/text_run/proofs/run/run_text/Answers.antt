-- All graph devices are open, one of them is not, or a read failed.
use Rattle.std.proofs.Common.{◌∙◌, ◌<◌, length, slice_set, ap, arith}
use Rattle.std.proofs.Math.Seq.{map-set_same}
use Rattle.job_run.proofs.Meters.{meter_rose}
use Rattle.run_model.proofs.Going.{meters_after}
use Rattle.text_run.proofs.Held.{held, unread}
use Rattle.text_run.proofs.run.run_text.Goals as goal

pub returns-in-Ok-true-clause-run : goal.returns-in-Ok-true-clause-run
returns-in-Ok-true-clause-run g c =
    let disks = g.met.D.Disk g.world.𝓛 g.world.𝓜 g.world.𝓡 ((λ s x. x), (λ x. x), (λ x. x), λ x. x) in
    let faults = g.D.M.Meter.faults in
    let meters = c.args.meters.now.items in
    let k = c.args.job.now.engines in
    let below : k < length meters = omega (arith, c.requires.ready.meters) in
    held g.D.Disk.state disks.lawful faults c.args.job.now (g.S.Source.left c.args.source.now) (g.K.Sink.written c.args.out.now) (g.S.Source.faults c.args.source.now) (g.K.Sink.faults c.args.out.now) c.args.store.now
    meters (slice_set meters k c.all_open.new.meter) c.args.seat.now.view c.args.beat.now c.requires.ready
    (meters_after faults meters k below c.index_mut.result.now c.all_open.new.meter c.index_mut.ensures.value c.in-Ok-true.ensures.cause.later)
    (c.in-Ok-true.ensures.open c.in-Ok-true.field-0-test)
    (map-set_same faults meters k c.all_open.new.meter c.index_mut.result.now (c.in-Ok-true.ensures.cause.calm ∙ ap faults c.index_mut.ensures.value))

pub returns-in-Ok-false-clause-run : goal.returns-in-Ok-false-clause-run
returns-in-Ok-false-clause-run g c =
    let meters = c.args.meters.now.items in
    let faults = g.D.M.Meter.faults in
    let k = c.args.job.now.engines in
    let below : k < length meters = omega (arith, c.requires.ready.meters) in
    c.run_anew.ensures.run meters
    (meters_after faults meters k below c.index_mut.result.now c.all_open.new.meter c.index_mut.ensures.value c.in-Ok-false.ensures.cause.later)
    (map-set_same faults meters k c.all_open.new.meter c.index_mut.result.now (c.in-Ok-false.ensures.cause.calm ∙ ap faults c.index_mut.ensures.value))

pub returns-in-Err-clause-run : goal.returns-in-Err-clause-run
returns-in-Err-clause-run g c =
    let disks = g.met.D.Disk g.world.𝓛 g.world.𝓜 g.world.𝓡 ((λ s x. x), (λ x. x), (λ x. x), λ x. x) in
    let faults = g.D.M.Meter.faults in
    let meters = c.args.meters.now.items in
    let k = c.args.job.now.engines in
    let below : k < length meters = omega (arith, c.requires.ready.meters) in
    unread g.D.Disk.state disks.lawful faults c.args.job.now (g.S.Source.left c.args.source.now) (g.K.Sink.written c.args.out.now) (g.S.Source.faults c.args.source.now) (g.K.Sink.faults c.args.out.now) c.args.store.now
    meters (slice_set meters k c.all_open.new.meter) c.args.seat.now.view c.args.beat.now c.requires.ready
    (meters_after faults meters k below c.index_mut.result.now c.all_open.new.meter c.index_mut.ensures.value c.in-Err.ensures.cause.later)
    (meter_rose faults meters k below c.index_mut.result.now c.all_open.new.meter c.index_mut.ensures.value c.in-Err.ensures.cause.failed)
