-- By the command that was read.
use Rattle.job_words.specs.declared.command.Command.TheVariants.{Bench, Resume, Discard}
use Rattle.round_loop.specs.Keeping.{moment}
use Rattle.run_model.specs.Calls.{Call}
use Rattle.chaos_top.proofs.Outcomes.{outcome_read, ready_read}
use Rattle.chaos_top.proofs.serve.serve.Goals as goal

pub returns-in-Bench-clause-ready : goal.returns-in-Bench-clause-ready
returns-in-Bench-clause-ready g c =
    let read = c.in-Bench in
    let end = c.run_bench.new in
    ready_read g.D.Disk.state (moment end.store end.meters.items end.seat.view end.beat) c.args.command.now (Bench read.job read.scale read.edges read.rng) read.is
    (c.run_bench.ensures.bench (g.S.Source.left c.args.source.now) (g.S.Source.faults c.args.source.now)).run.back.ready

pub returns-in-Resume-clause-ready : goal.returns-in-Resume-clause-ready
returns-in-Resume-clause-ready g c =
    let read = c.in-Resume in
    let end = c.resume_store.new in
    ready_read g.D.Disk.state (moment end.store end.meters.items end.seat.view end.beat) c.args.command.now (Resume read.engines read.report) read.is
    (c.resume_store.ensures.resume (g.S.Source.left c.args.source.now) (g.S.Source.faults c.args.source.now)).back.ready

pub returns-in-Resume-clause-outcome : goal.returns-in-Resume-clause-outcome
returns-in-Resume-clause-outcome g c =
    let read = c.in-Resume in
    let end = c.resume_store.new in
    let call : Call g.row.D.Denot g.row.D-M.Denot = record {
      text = g.S.Source.left c.args.source.now;
      text_after = g.S.Source.left c.args.source.now;
      read_faults = g.S.Source.faults c.args.source.now;
      read_faults_after = g.S.Source.faults c.args.source.now;
      out = g.K.Sink.written c.args.out.now;
      out_after = g.K.Sink.written end.out;
      write_faults = g.K.Sink.faults c.args.out.now;
      write_faults_after = g.K.Sink.faults end.out;
      before = moment c.args.store.now c.args.meters.now.items c.args.seat.now.view c.args.beat.now;
      after = moment end.store end.meters.items end.seat.view end.beat;
    } in
    outcome_read g.D.Disk.state g.D.M.Meter.faults call c.resume_store.result c.args.command.now (Resume read.engines read.report) read.is
    (c.resume_store.ensures.resume (g.S.Source.left c.args.source.now) (g.S.Source.faults c.args.source.now))

pub returns-in-Discard-clause-ready : goal.returns-in-Discard-clause-ready
returns-in-Discard-clause-ready g c =
    let read = c.in-Discard in
    let end = c.give_up.new in
    ready_read g.D.Disk.state (moment end.store end.meters.items c.args.seat.now.view end.beat) c.args.command.now (Discard read.engines) read.is
    (c.give_up.ensures.drop (g.S.Source.left c.args.source.now) (g.S.Source.faults c.args.source.now) (g.K.Sink.written c.args.out.now) (g.K.Sink.faults c.args.out.now) c.args.seat.now.view c.requires.ready.between).back.ready

pub returns-in-Discard-clause-outcome : goal.returns-in-Discard-clause-outcome
returns-in-Discard-clause-outcome g c =
    let read = c.in-Discard in
    let end = c.give_up.new in
    let call : Call g.row.D.Denot g.row.D-M.Denot = record {
      text = g.S.Source.left c.args.source.now;
      text_after = g.S.Source.left c.args.source.now;
      read_faults = g.S.Source.faults c.args.source.now;
      read_faults_after = g.S.Source.faults c.args.source.now;
      out = g.K.Sink.written c.args.out.now;
      out_after = g.K.Sink.written c.args.out.now;
      write_faults = g.K.Sink.faults c.args.out.now;
      write_faults_after = g.K.Sink.faults c.args.out.now;
      before = moment c.args.store.now c.args.meters.now.items c.args.seat.now.view c.args.beat.now;
      after = moment end.store end.meters.items c.args.seat.now.view end.beat;
    } in
    outcome_read g.D.Disk.state g.D.M.Meter.faults call c.give_up.result c.args.command.now (Discard read.engines) read.is
    (c.give_up.ensures.drop (g.S.Source.left c.args.source.now) (g.S.Source.faults c.args.source.now) (g.K.Sink.written c.args.out.now) (g.K.Sink.faults c.args.out.now) c.args.seat.now.view c.requires.ready.between)
