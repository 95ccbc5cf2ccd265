use Rattle.std.proofs.Common.{take, inl, inr, refl, arith, subst}
use Rattle.phase_model.specs.Sends.{sent_by}
use Rattle.update_lanes.specs.Outgoing.{SendsOn}
use Rattle.scatter_phase.specs.Sending.{sending_in}
use Rattle.scatter_phase.proofs.Steps.{room_after, places_of_chunks, within_all, within_room, loaded_kept, sent_chunk, stopped_chunk}
use Rattle.scatter_phase.proofs.send.scatter_chunk.Goals as goal

pub returns-in-Err-clause-sent : goal.returns-in-Err-clause-sent
returns-in-Err-clause-sent g c = record {
  why = tt;
  within = c.requires.fit.within;
  few = λ chunks has. let few = places_of_chunks g.P.VertexProgram.rules g.D.Disk.state c.args.context.now c.args.desk.now chunks c.requires.serving.job.chunk.0 has in omega (arith, few);
}

pub returns-in-Ok-send_chunk-clause-goes_on : goal.returns-in-Ok-send_chunk-clause-goes_on
returns-in-Ok-send_chunk-clause-goes_on g c =
    let sends = c.in-Ok-send_chunk.ensures.sends in
    record {
      worker = refl;
      room = λ job is. room_after job c.load_values.new.room c.send_chunk.new.room c.send_chunk.ensures.kept sends.same sends.room (c.load_values.ensures.room job is);
      reads = c.load_values.ensures.cause.later;
      lanes = sends.go_on;
      caused = λ is. inl is;
      calm = λ is. (is, c.in-Ok.ensures.cause.calm, c.in-Ok-send_chunk.ensures.calm);
    }

pub returns-in-Ok-send_chunk-clause-sent : goal.returns-in-Ok-send_chunk-clause-sent
returns-in-Ok-send_chunk-clause-sent g c =
    let sends = c.in-Ok-send_chunk.ensures.sends in
    let mid = c.load_values.ensures.room c.args.context.now.serving.job.now c.requires.fit.room in
    record {
      fit = record {
        room = room_after c.args.context.now.serving.job.now c.load_values.new.room c.send_chunk.new.room c.send_chunk.ensures.kept sends.same sends.room mid;
        loaded = loaded_kept g.P.VertexProgram.rules g.D.Disk.state c.args.context.now c.load_values.new.room c.send_chunk.new.room c.send_chunk.ensures.kept c.load_values.ensures.loaded;
        none_full = sends.open_still;
        ready = sends.ready;
        within = within_all g.P.VertexProgram.rules g.D.Disk.state c.args.context.now c.load_values.new.room c.send_chunk.new.places.items c.requires.serving mid (sends.within (within_room g.P.VertexProgram.rules g.D.Disk.state c.args.context.now c.load_values.new.room c.args.desk.now.places.items c.requires.serving mid c.requires.fit.within));
        done = c.requires.fit.done;
      };
      has = sent_chunk g.P.VertexProgram.rules g.D.Disk.state c.args.context.now c.requires.serving c.args.partition c.args.desk.now _ c.load_values.new.room (take c.args.count c.args.desk.now.room.edges.items) refl c.load_values.ensures.same.0 mid c.load_values.ensures.loaded c.in-Ok.ensures.here c.requires.edges
          (subst (λ v. SendsOn g.D.Disk.state c.args.context.now.beat.now c.load_values.new.room.outgoing c.send_chunk.new.room.outgoing c.args.desk.now.lanes.items c.send_chunk.new.lanes.items c.args.desk.now.places.items c.send_chunk.new.places.items
          (sent_by (sending_in (g.P.VertexProgram.rules c.args.context.now.program.now) c.args.context.now.serving.split.now c.args.partition c.args.context.now.before c.load_values.new.room) (take c.args.count v.items))) c.load_values.ensures.same.1 sends);
    }

pub returns-in-Err-DiskFault-clause-goes_on : goal.returns-in-Err-DiskFault-clause-goes_on
returns-in-Err-DiskFault-clause-goes_on g c =
    let stops = c.in-Err-DiskFault.ensures.stops in
    record {
      worker = refl;
      room = λ job is. room_after job c.load_values.new.room c.send_chunk.new.room c.send_chunk.ensures.kept stops.same stops.room (c.load_values.ensures.room job is);
      reads = c.load_values.ensures.cause.later;
      lanes = stops.go_on;
      caused = λ is. inr (inr (c.in-Err-DiskFault.ensures.cause c.in-Err-DiskFault.field-0-is));
      calm = λ is. absurd cc;
    }

pub returns-in-Err-DiskFault-clause-sent : goal.returns-in-Err-DiskFault-clause-sent
returns-in-Err-DiskFault-clause-sent g c =
    let stops = c.in-Err-DiskFault.ensures.stops in
    let mid = c.load_values.ensures.room c.args.context.now.serving.job.now c.requires.fit.room in
    record {
      why = tt;
      within = within_all g.P.VertexProgram.rules g.D.Disk.state c.args.context.now c.load_values.new.room c.send_chunk.new.places.items c.requires.serving mid (stops.within (within_room g.P.VertexProgram.rules g.D.Disk.state c.args.context.now c.load_values.new.room c.args.desk.now.places.items c.requires.serving mid c.requires.fit.within));
      few = stopped_chunk g.P.VertexProgram.rules g.D.Disk.state c.args.context.now c.args.desk.now c.load_values.new.room c.send_chunk.new.room c.send_chunk.new.lanes.items c.send_chunk.new.places.items c.args.count c.requires.serving c.load_values.ensures.same.0 mid (omega (arith, c.requires.count, c.requires.fit.room.edges)) stops;
    }

pub returns-in-Err-Memory-clause-goes_on : goal.returns-in-Err-Memory-clause-goes_on
returns-in-Err-Memory-clause-goes_on g c =
    let stops = c.in-Err-Memory.ensures.stops in
    record {
      worker = refl;
      room = λ job is. room_after job c.load_values.new.room c.send_chunk.new.room c.send_chunk.ensures.kept stops.same stops.room (c.load_values.ensures.room job is);
      reads = c.load_values.ensures.cause.later;
      lanes = stops.go_on;
      caused = λ is. absurd cc;
      calm = λ is. absurd cc;
    }

pub returns-in-Err-Memory-clause-sent : goal.returns-in-Err-Memory-clause-sent
returns-in-Err-Memory-clause-sent g c =
    let stops = c.in-Err-Memory.ensures.stops in
    let mid = c.load_values.ensures.room c.args.context.now.serving.job.now c.requires.fit.room in
    record {
      why = tt;
      within = within_all g.P.VertexProgram.rules g.D.Disk.state c.args.context.now c.load_values.new.room c.send_chunk.new.places.items c.requires.serving mid (stops.within (within_room g.P.VertexProgram.rules g.D.Disk.state c.args.context.now c.load_values.new.room c.args.desk.now.places.items c.requires.serving mid c.requires.fit.within));
      few = stopped_chunk g.P.VertexProgram.rules g.D.Disk.state c.args.context.now c.args.desk.now c.load_values.new.room c.send_chunk.new.room c.send_chunk.new.lanes.items c.send_chunk.new.places.items c.args.count c.requires.serving c.load_values.ensures.same.0 mid (omega (arith, c.requires.count, c.requires.fit.room.edges)) stops;
    }
