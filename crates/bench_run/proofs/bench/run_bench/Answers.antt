-- The run has not answered, or its summary was written, or cut off.
use Rattle.std.proofs.Common.{◌∙◌, inl, inr, ℕ, List, refl, subst}
use Rattle.ports.specs.Sink.{AppendsFront}
use Rattle.ports.specs.Told.{AsTold}
use Rattle.graph_model.specs.EdgeText.{text_limit}
use Rattle.round_loop.specs.Keeping.{moment}
use Rattle.endings.specs.declared.ending.Ending.TheVariants.{Answered, WriteFault}
use Rattle.run_model.specs.Calls.{Call}
use Rattle.run_model.specs.Printing.{Prints}
use Rattle.run_model.proofs.Untouched.{prints_none}
use Rattle.bench_run.proofs.Summed.{is_bench, is_made, no_bad_line_of, passed_on}
use Rattle.bench_run.proofs.bench.run_bench.Goals as goal

pub returns-in_default : goal.returns-in_default
returns-in_default g c = record {
  table = c.run_text-ending.ensures.table;
  bench = λ text reads.
      let end = c.run_text-ending in
      let state = g.D.Disk.state in
      let faults = g.D.M.Meter.faults in
      let job = c.args.job.now in
      let out = g.K.Sink.written c.args.out.now in
      let call : Call g.row.D.Denot g.row.D-M.Denot = record {
        text = text;
        text_after = text;
        read_faults = reads;
        read_faults_after = reads;
        out = out;
        out_after = out;
        write_faults = g.K.Sink.faults c.args.out.now;
        write_faults_after = g.K.Sink.faults c.args.out.now;
        before = moment c.args.store.now c.args.meters.now.items c.args.seat.now.view c.args.beat.now;
        after = moment end.new.store end.new.meters.items end.new.seat.view end.new.beat;
      } in
      let made = is_made state faults job c.args.scale c.args.edges c.args.rng call end.new.source end.new.out c.new-text.result c.new-summary.result end.result c.new-text.ensures c.new-summary.ensures end.ensures.run in
      let told = passed_on state faults job c.args.scale c.args.edges c.args.rng call end.new.out end.result c.in_default.not-Answered (prints_none out out refl) refl in
      is_bench state faults job c.args.scale c.args.edges c.args.rng call end.new.source end.new.out end.result end.result made told
      (λ fits. no_bad_line_of state faults job c.args.scale c.args.edges c.args.rng call end.new.source end.new.out end.result end.result made told
      (λ line. c.made_text_is_well_formed.ensures job.vertices (text_limit job.chunk) c.args.scale c.args.edges c.args.rng line fits)) refl refl;
}

pub returns-in-Ok-clause-bench : goal.returns-in-Ok-clause-bench
returns-in-Ok-clause-bench g c text reads =
    let end = c.run_text-ending in
    let state = g.D.Disk.state in
    let faults = g.D.M.Meter.faults in
    let job = c.args.job.now in
    let out = g.K.Sink.written c.args.out.now in
    let out_after = g.K.Sink.written c.write_all.new.out in
    let answered = Answered c.in-Answered.report in
    let call : Call g.row.D.Denot g.row.D-M.Denot = record {
      text = text;
      text_after = text;
      read_faults = reads;
      read_faults_after = reads;
      out = out;
      out_after = out_after;
      write_faults = g.K.Sink.faults c.args.out.now;
      write_faults_after = g.K.Sink.faults c.write_all.new.out;
      before = moment c.args.store.now c.args.meters.now.items c.args.seat.now.view c.args.beat.now;
      after = moment end.new.store end.new.meters.items end.new.seat.view end.new.beat;
    } in
    is_bench state faults job c.args.scale c.args.edges c.args.rng call end.new.source end.new.out answered answered
    (is_made state faults job c.args.scale c.args.edges c.args.rng call end.new.source end.new.out c.new-text.result c.new-summary.result answered c.new-text.ensures c.new-summary.ensures c.in-Answered.ensures.run)
    (inl (record {
      answered = refl;
      prints = subst (λ (piece : List ℕ). Prints out out_after piece) (c.deref.ensures.0 ∙ c.summary_lines-lines.ensures) c.in-Ok.ensures.whole;
      calm = c.in-Ok.ensures.cause.calm;
    })) (λ fits line is. cc) refl refl

pub returns-in-Err-clause-bench : goal.returns-in-Err-clause-bench
returns-in-Err-clause-bench g c text reads =
    let end = c.run_text-ending in
    let state = g.D.Disk.state in
    let faults = g.D.M.Meter.faults in
    let job = c.args.job.now in
    let out = g.K.Sink.written c.args.out.now in
    let out_after = g.K.Sink.written c.write_all.new.out in
    let answered = Answered c.in-Answered.report in
    let call : Call g.row.D.Denot g.row.D-M.Denot = record {
      text = text;
      text_after = text;
      read_faults = reads;
      read_faults_after = reads;
      out = out;
      out_after = out_after;
      write_faults = g.K.Sink.faults c.args.out.now;
      write_faults_after = g.K.Sink.faults c.write_all.new.out;
      before = moment c.args.store.now c.args.meters.now.items c.args.seat.now.view c.args.beat.now;
      after = moment end.new.store end.new.meters.items end.new.seat.view end.new.beat;
    } in
    is_bench state faults job c.args.scale c.args.edges c.args.rng call end.new.source end.new.out answered WriteFault
    (is_made state faults job c.args.scale c.args.edges c.args.rng call end.new.source end.new.out c.new-text.result c.new-summary.result answered c.new-text.ensures c.new-summary.ensures c.in-Answered.ensures.run)
    (inr (record {
      told = refl;
      rose = c.in-Err.ensures.cause.failed;
      front = subst (λ (piece : List ℕ). AsTold (AppendsFront piece) out out_after) (c.deref.ensures.0 ∙ c.summary_lines-lines.ensures) c.in-Err.ensures.front;
    })) (λ fits line is. cc) refl refl
