-- The store was recovered, with a round or with none, or it was not.
use Rattle.std.proofs.Common.{◌∙◌, ℕ, ◌<◌, List, length, slice_set, refl, sym, ap, subst, arith}
use Rattle.std.proofs.Math.Seq.{map-set_same}
use Rattle.ports.specs.Faults.{Rose}
use Rattle.store_model.specs.Damage.{HasFault}
use Rattle.store_checks.specs.Causes.{Tell}
use Rattle.ports.specs.Devices.{OneCountRose}
use Rattle.round_loop.specs.Keeping.{moment}
use Rattle.endings.specs.declared.ending.Ending.{Ending}
use Rattle.run_model.specs.Calls.{Call}
use Rattle.graph_model.specs.declared.job.Job.{Job}
use Rattle.chunk_file.specs.declared.index.Place.{Place}
use Rattle.round_loop.specs.declared.run.Start.{Start}
use Rattle.store_resume.specs.Going.{GoesOn}
use Rattle.store_resume.specs.Resumes.{IsResume}
use Rattle.job_run.proofs.Meters.{meter_rose}
use Rattle.run_model.proofs.Going.{meters_after}
use Rattle.store_resume.proofs.Refused.{cause_among, refused_resume}
use Rattle.store_resume.proofs.Resumed.{resumed_as}
use Rattle.store_resume.proofs.resume.resume_store.Goals as goal

pub returns-in-Ok-clause-resume : goal.returns-in-Ok-clause-resume
returns-in-Ok-clause-resume g c text read_faults =
    let disks = g.met.D.Disk g.world.𝓛 g.world.𝓜 g.world.𝓡 ((λ s x. x), (λ x. x), (λ x. x), λ x. x) in
    let faults = g.D.M.Meter.faults in
    let meters = c.args.meters.now.items in
    let k = c.args.engines in
    let below : k < length meters = omega (arith, c.requires.ready.meters) in
    let read = c.in-Ok in
    let end = c.go_on in
    let call : Call g.row.D.Denot g.row.D-M.Denot = record {
      text = text;
      text_after = text;
      read_faults = read_faults;
      read_faults_after = read_faults;
      out = g.K.Sink.written c.args.out.now;
      out_after = g.K.Sink.written end.new.out;
      write_faults = g.K.Sink.faults c.args.out.now;
      write_faults_after = g.K.Sink.faults end.new.out;
      before = moment c.args.store.now meters c.args.seat.now.view c.args.beat.now;
      after = moment end.new.store end.new.meters.items end.new.seat.view end.new.beat;
    } in
    let goes_on =
    subst (λ (from : Job × List (List Place) × Start). GoesOn g.D.Disk.state faults from.0 from.2 from.1 (record call { before = moment c.args.store.now (slice_set meters k c.recover.new.meter) c.args.seat.now.view c.args.beat.now }) end.result)
    c.start_from-index.ensures (end.ensures.goes_on text read_faults) in
    resumed_as g.D.Disk.state disks.lawful faults call (slice_set meters k c.recover.new.meter) k read.found read.ensures.formed
    (read.ensures.engines ∙ c.requires.ready.graphs.all) c.requires.ready
    (meters_after faults meters k below c.index_mut.result.now c.recover.new.meter c.index_mut.ensures.value read.ensures.later)
    (map-set_same faults meters k c.recover.new.meter c.index_mut.result.now (read.ensures.calm (λ is. cc) ∙ ap faults c.index_mut.ensures.value))
    read.ensures.recovered refl refl read.ensures.of_job read.found refl end.result goes_on

pub returns-in-Err-clause-resume : goal.returns-in-Err-clause-resume
returns-in-Err-clause-resume g c text read_faults =
    let disks = g.met.D.Disk g.world.𝓛 g.world.𝓜 g.world.𝓡 ((λ s x. x), (λ x. x), (λ x. x), λ x. x) in
    let state = g.D.Disk.state in
    let faults = g.D.M.Meter.faults in
    let store = c.args.store.now in
    let meters = c.args.meters.now.items in
    let k = c.args.engines in
    let own = c.index_mut.result.now in
    let below : k < length meters = omega (arith, c.requires.ready.meters) in
    let after : List g.row.D-M.Denot = slice_set meters k c.recover.new.meter in
    let call : Call g.row.D.Denot g.row.D-M.Denot = record {
      text = text;
      text_after = text;
      read_faults = read_faults;
      read_faults_after = read_faults;
      out = g.K.Sink.written c.args.out.now;
      out_after = g.K.Sink.written c.args.out.now;
      write_faults = g.K.Sink.faults c.args.out.now;
      write_faults_after = g.K.Sink.faults c.args.out.now;
      before = moment store meters c.args.seat.now.view c.args.beat.now;
      after = moment store after c.args.seat.now.view c.args.beat.now;
    } in
    subst (λ (ending : Ending). IsResume state faults call k ending) (sym c.refusal.ensures)
    (refused_resume state disks.lawful faults call k c.requires.ready (meters_after faults meters k below own c.recover.new.meter c.index_mut.ensures.value c.in-Err.ensures.later) refl refl refl refl refl refl c.in-Err.fault
    (cause_among (Rose (faults own) (faults c.recover.new.meter)) (OneCountRose faults meters after)
    (λ fault. (graphs values : List (List ℕ)) → Tell state store.graphs.items graphs → Tell state store.values.items values → HasFault graphs values fault) c.in-Err.fault
    (meter_rose faults meters k below own c.recover.new.meter c.index_mut.ensures.value) c.in-Err.ensures.cause)
    (λ other. record {
      reads = refl;
      writes = refl;
      devices = (refl, (map-set_same faults meters k c.recover.new.meter own (c.in-Err.ensures.calm (λ is. other cc) ∙ ap faults c.index_mut.ensures.value), record { values = refl; lanes = refl; spills = refl }));
    })
    c.in-Err.ensures.cause_of_job)
