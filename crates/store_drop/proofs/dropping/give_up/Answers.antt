-- Every device is empty and no count rose, or one did.
use Rattle.std.proofs.Common.{◌∙◌, ◌<◌, length, slice_set, refl, ap, arith}
use Rattle.std.proofs.Math.Seq.{map-set_same}
use Rattle.ports.specs.Faults.{Rose}
use Rattle.round_loop.specs.Keeping.{moment}
use Rattle.run_model.specs.Calls.{Call, IsReady}
use Rattle.job_run.proofs.Meters.{meter_rose}
use Rattle.run_model.proofs.Going.{meters_after}
use Rattle.store_drop.proofs.GivenUp.{dropped, not_dropped}
use Rattle.store_drop.proofs.dropping.give_up.Goals as goal

pub returns-in-Ok : goal.returns-in-Ok
returns-in-Ok g c = record {
  drop = λ text read_faults out write_faults seat between.
      let faults = g.D.M.Meter.faults in
      let meters = c.args.meters.now.items in
      let k = c.args.engines in
      let own = c.index_mut.result.now in
      let below : k < length meters = omega (arith, c.requires.meters) in
      let end = c.in-Ok.ensures in
      let call : Call g.row.D.Denot g.row.D-M.Denot = record {
        text = text;
        text_after = text;
        read_faults = read_faults;
        read_faults_after = read_faults;
        out = out;
        out_after = out;
        write_faults = write_faults;
        write_faults_after = write_faults;
        before = moment c.args.store.now meters seat c.args.beat.now;
        after = moment c.drop_store.new.store (slice_set meters k c.drop_store.new.meter) seat c.drop_store.new.beat;
      } in
      let ready : IsReady g.D.Disk.state k (moment c.args.store.now meters seat c.args.beat.now) = record {
        graphs = c.requires.graphs;
        values = c.requires.values;
        lanes = c.requires.lanes;
        spills = c.requires.spills;
        meters = c.requires.meters;
        between = between;
      } in
      dropped g.D.Disk.state faults call k c.requires.engines.0 ready (meters_after faults meters k below own c.drop_store.new.meter c.index_mut.ensures.value end.later) refl refl refl refl refl
      end.beat end.back_graphs end.back_values end.back_lanes end.back_spills end.stops
      (record { graphs = end.empty_graphs; values = end.empty_values; lanes = end.empty_lanes; spills = end.empty_spills }) (
        end.calm_graphs,
        (map-set_same faults meters k c.drop_store.new.meter own (end.calm ∙ ap faults c.index_mut.ensures.value), record { values = end.calm_values; lanes = end.calm_lanes; spills = end.calm_spills }),
      );
}

pub returns-in-Err : goal.returns-in-Err
returns-in-Err g c = record {
  drop = λ text read_faults out write_faults seat between.
      let faults = g.D.M.Meter.faults in
      let meters = c.args.meters.now.items in
      let k = c.args.engines in
      let own = c.index_mut.result.now in
      let below : k < length meters = omega (arith, c.requires.meters) in
      let end = c.in-Err.ensures in
      let call : Call g.row.D.Denot g.row.D-M.Denot = record {
        text = text;
        text_after = text;
        read_faults = read_faults;
        read_faults_after = read_faults;
        out = out;
        out_after = out;
        write_faults = write_faults;
        write_faults_after = write_faults;
        before = moment c.args.store.now meters seat c.args.beat.now;
        after = moment c.drop_store.new.store (slice_set meters k c.drop_store.new.meter) seat c.drop_store.new.beat;
      } in
      let ready : IsReady g.D.Disk.state k (moment c.args.store.now meters seat c.args.beat.now) = record {
        graphs = c.requires.graphs;
        values = c.requires.values;
        lanes = c.requires.lanes;
        spills = c.requires.spills;
        meters = c.requires.meters;
        between = between;
      } in
      not_dropped g.D.Disk.state faults call k c.requires.engines.0 ready (meters_after faults meters k below own c.drop_store.new.meter c.index_mut.ensures.value end.later) refl refl refl refl refl
      end.beat end.back_graphs end.back_values end.back_lanes end.back_spills end.stops
      (Rose (faults own) (faults c.drop_store.new.meter)) (meter_rose faults meters k below own c.drop_store.new.meter c.index_mut.ensures.value) end.cause;
}
