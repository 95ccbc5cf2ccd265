-- The count of the last meter rose, or none did.
use Rattle.std.proofs.Common.{◌<◌, length, ◌∙◌, ap, arith}
use Rattle.std.proofs.Math.Seq.{map-set_same}
use Rattle.ports.specs.Faults.{Rose}
use Rattle.job_run.proofs.Meters.{disk_rose, meter_rose}
use Rattle.job_run.proofs.answer.answer.Goals as goal

pub returns-in-Err-DiskFault-clause-cause : goal.returns-in-Err-DiskFault-clause-cause
returns-in-Err-DiskFault-clause-cause g c =
    let faults = g.D.M.Meter.faults in
    let meters = c.args.meters.now in
    let own = c.index_mut-meter.result.now in
    let read = c.print_answer.new.meter in
    let below : c.args.split.now.engines < length meters.items = omega (arith, c.requires.meters, meters.ok.0) in
    let rose : Rose (faults own) (faults read)
    = disk_rose (Rose (faults own) (faults read)) (Rose (g.K.Sink.faults c.args.out.now) (g.K.Sink.faults c.print_answer.new.out)) c.in-Err-DiskFault.field-0 c.in-Err-DiskFault.field-0-is c.in-Err-DiskFault.ensures.cause.failed in
    record { later = c.in-Err-DiskFault.ensures.cause.writes_later; caused = meter_rose faults meters.items c.args.split.now.engines below own read c.index_mut-meter.ensures.value rose }

pub returns-in-Ok-clause-cause : goal.returns-in-Ok-clause-cause
returns-in-Ok-clause-cause g c =
    let faults = g.D.M.Meter.faults in
    let meters = c.args.meters.now in
    let own = c.index_mut-meter.result.now in
    let read = c.print_answer.new.meter in
    let calm = c.in-Ok.ensures.cause.calm in
    record {
      later = c.in-Ok.ensures.cause.writes_later;
      caused = (map-set_same faults meters.items c.args.split.now.engines read own (calm.0 ∙ ap faults c.index_mut-meter.ensures.value), calm.1);
    }
