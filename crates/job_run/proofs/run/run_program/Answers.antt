-- The run, after which the last meter was read through.
use Rattle.std.proofs.Common.{Result, sym, subst}
use Rattle.round_loop.specs.declared.run.Done.{Done}
use Rattle.round_loop.specs.declared.fault.RoundFault.{RoundFault}
use Rattle.round_loop.specs.Keeping.{moment}
use Rattle.round_loop.specs.Run.{HasRun}
use Rattle.job_run.proofs.Meters.{cause_since}
use Rattle.job_run.proofs.Runs.{run_read}
use Rattle.job_run.proofs.run.run_program.Goals as goal

pub returns-in-Ok-clause-rounds : goal.returns-in-Ok-clause-rounds
returns-in-Ok-clause-rounds g c =
    let rules = g.P.VertexProgram.rules c.args.program.now in
    let from = moment c.args.store.now c.args.meters.now.items c.args.seat.now.view c.args.beat.now in
    let ran = c.run_rounds.new in
    let read = c.answer.new.meters.items in
    subst (λ (result : Result Done RoundFault). HasRun g.D.Disk.state g.D.M.Meter.faults rules c.args.job.now c.args.start c.args.index.now from (moment ran.store read ran.seat.view ran.beat) result) (sym c.answer.ensures.done)
    (run_read g.D.Disk.state g.D.M.Meter.faults rules c.args.job.now c.args.start c.args.index.now from ran.store ran.meters.items read ran.seat.view ran.beat c.in-Ok.done c.in-Ok.ensures.run c.answer.ensures.meters)

pub returns-in-Ok-clause-cause : goal.returns-in-Ok-clause-cause
returns-in-Ok-clause-cause g c =
    cause_since g.D.M.Meter.faults c.args.meters.now.items c.run_rounds.new.meters.items c.answer.new.meters.items c.in-Ok.ensures.run.meters c.in-Ok.ensures.calm
    (g.K.Sink.faults c.args.out.now) (g.K.Sink.faults c.answer.new.out) c.answer.result c.answer.ensures.cause
