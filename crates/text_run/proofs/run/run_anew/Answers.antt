-- There was no memory, the store was not made, or it was, and the job was run.
use Rattle.std.proofs.Common.{◌∙◌, ◌<◌, ◌≤◌, List, length, slice_set, sym, ap, subst, arith}
use Rattle.std.proofs.Math.Seq.{map-set_same}
use Rattle.ports.specs.Faults.{Rose}
use Rattle.ports.specs.Devices.{MetersGoOn, SameCounts}
use Rattle.storage_engine.specs.declared.fault.PrepareFault.TheVariants.{ReadFault}
use Rattle.round_steps.proofs.Kept.{meters_then}
use Rattle.round_loop.specs.Keeping.{moment}
use Rattle.run_model.specs.Calls.{Call}
use Rattle.text_run.specs.Refusals.{refusal}
use Rattle.run_model.proofs.Going.{meters_after}
use Rattle.text_run.proofs.Prepared.{not_refused, ready_with}
use Rattle.text_run.proofs.Held.{no_room}
use Rattle.text_run.proofs.Refused.{refused_as}
use Rattle.text_run.proofs.Made.{is_store}
use Rattle.text_run.proofs.Finished.{finished_as}
use Rattle.text_run.proofs.run.run_anew.Goals as goal

pub returns-in-Err-clause-run : goal.returns-in-Err-clause-run
returns-in-Err-clause-run g c earlier on still =
    let disks = g.met.D.Disk g.world.𝓛 g.world.𝓜 g.world.𝓡 ((λ s x. x), (λ x. x), (λ x. x), λ x. x) in
    let meters = c.args.meters.now.items in
    no_room g.D.Disk.state disks.lawful g.D.M.Meter.faults c.args.job.now (g.S.Source.left c.args.source.now) (g.K.Sink.written c.args.out.now) (g.S.Source.faults c.args.source.now) (g.K.Sink.faults c.args.out.now) c.args.store.now
    earlier meters c.args.seat.now.view c.args.beat.now
    (ready_with g.D.Disk.state c.args.job.now.engines c.args.store.now meters earlier c.args.seat.now.view c.args.beat.now (sym on.many) c.requires.ready) on

pub returns-in-Err-prepare-clause-run : goal.returns-in-Err-prepare-clause-run
returns-in-Err-prepare-clause-run g c earlier on still =
    let faults = g.D.M.Meter.faults in
    let meters = c.args.meters.now.items in
    let k = c.args.job.now.engines in
    let own = c.index_mut.result.now in
    let below : k < length meters = omega (arith, c.requires.ready.meters) in
    let later : faults own ≤ faults c.prepare.new.meter = subst (λ m. faults own ≤ faults m) (sym c.in-Err-prepare.ensures.rest.2) (omega arith) in
    let after : List g.row.D-M.Denot = slice_set meters k c.prepare.new.meter in
    let on_after : MetersGoOn faults earlier after = meters_then faults earlier meters after on (meters_after faults meters k below own c.prepare.new.meter c.index_mut.ensures.value later) in
    refused_as g.D.Disk.state faults c.args.job.now (g.S.Source.left c.args.source.now) (g.S.Source.left c.prepare.new.source) (g.K.Sink.written c.args.out.now)
    (g.S.Source.faults c.args.source.now) (g.S.Source.faults c.prepare.new.source) (g.K.Sink.faults c.args.out.now) c.args.store.now c.prepare.new.store earlier after c.args.seat.now.view c.args.beat.now c.prepare.new.beat
    c.in-Err-prepare.fault (ready_with g.D.Disk.state k c.args.store.now meters earlier c.args.seat.now.view c.args.beat.now (sym on.many) c.requires.ready) on_after c.requires.shut
    c.in-Err-prepare.ensures.prepares c.in-Err-prepare.ensures.rest.0 c.in-Err-prepare.ensures.rest.1
    (map-set_same faults meters k c.prepare.new.meter own (ap faults (c.in-Err-prepare.ensures.rest.2 ∙ c.index_mut.ensures.value)) ∙ still) c.in-Err-prepare.ensures.calm
    c.refusal.result (c.refusal.ensures ∙ ap (λ limit. refusal limit c.in-Err-prepare.fault) c.text_limit.ensures)

pub run_job-finish-requires-clause-store : goal.run_job-finish-requires-clause-store
run_job-finish-requires-clause-store g c κs within =
    is_store g.D.Disk.state c.args.job.now c.requires.job c.requires.format (g.S.Source.left c.args.source.now) (g.S.Source.left c.prepare.new.source) c.args.beat.now c.prepare.new.beat
    (Rose (g.S.Source.faults c.args.source.now) (g.S.Source.faults c.prepare.new.source)) c.args.store.now c.prepare.new.store c.in-Ok-prepare.index
    c.in-Ok-prepare.ensures.prepares c.in-Ok-prepare.ensures.rest.0 c.in-Ok-prepare.ensures.rest.1 c.args.meters.now.items c.args.seat.now.view c.requires.ready

pub returns-clause-run : goal.returns-clause-run
returns-clause-run g c earlier on still =
    let disks = g.met.D.Disk g.world.𝓛 g.world.𝓜 g.world.𝓡 ((λ s x. x), (λ x. x), (λ x. x), λ x. x) in
    let faults = g.D.M.Meter.faults in
    let meters = c.args.meters.now.items in
    let k = c.args.job.now.engines in
    let own = c.index_mut.result.now in
    let below : k < length meters = omega (arith, c.requires.ready.meters) in
    let later : faults own ≤ faults c.prepare.new.meter = subst (λ m. faults own ≤ faults m) (sym c.in-Ok-prepare.ensures.rest.2) (omega arith) in
    let after : List g.row.D-M.Denot = slice_set meters k c.prepare.new.meter in
    let on_after : MetersGoOn faults earlier after = meters_then faults earlier meters after on (meters_after faults meters k below own c.prepare.new.meter c.index_mut.ensures.value later) in
    let still_after : SameCounts faults earlier after = map-set_same faults meters k c.prepare.new.meter own (ap faults (c.in-Ok-prepare.ensures.rest.2 ∙ c.index_mut.ensures.value)) ∙ still in
    let end = c.run_job-finish in
    let call : Call g.row.D.Denot g.row.D-M.Denot = record {
      text = g.S.Source.left c.args.source.now;
      text_after = g.S.Source.left c.prepare.new.source;
      read_faults = g.S.Source.faults c.args.source.now;
      read_faults_after = g.S.Source.faults c.prepare.new.source;
      out = g.K.Sink.written c.args.out.now;
      out_after = g.K.Sink.written end.new.out;
      write_faults = g.K.Sink.faults c.args.out.now;
      write_faults_after = g.K.Sink.faults end.new.out;
      before = moment c.args.store.now earlier c.args.seat.now.view c.args.beat.now;
      after = moment end.new.store end.new.meters.items end.new.seat.view end.new.beat;
    } in
    finished_as g.D.Disk.state disks.lawful faults c.args.job.now c.requires.job c.requires.format call c.prepare.new.beat
    (Rose (g.S.Source.faults c.args.source.now) (g.S.Source.faults c.prepare.new.source)) c.prepare.new.store after c.in-Ok-prepare.index
    (ready_with g.D.Disk.state k c.args.store.now meters earlier c.args.seat.now.view c.args.beat.now (sym on.many) c.requires.ready) on_after c.requires.shut
    c.in-Ok-prepare.ensures.prepares c.in-Ok-prepare.ensures.rest.0 c.in-Ok-prepare.ensures.rest.1
    end.result end.ensures.rounds end.ensures.printed end.ensures.cause still_after (c.in-Ok-prepare.ensures.calm (not_refused c.in-Ok-prepare.index ReadFault)) c.ending_of.result c.ending_of.ensures
