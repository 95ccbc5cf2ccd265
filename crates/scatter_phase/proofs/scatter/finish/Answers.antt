use Rattle.std.proofs.Common.{length}
use Rattle.worker_duty.specs.Views.{taken_by_seat}
use Rattle.scatter_phase.proofs.Counts.{few_flushed}
use Rattle.scatter_phase.proofs.Steps.{places_of_chunks, within_all, within_room}
use Rattle.scatter_phase.proofs.scatter.finish.Goals as goal

pub returns-in-Ok-clause-few : goal.returns-in-Ok-clause-few
returns-in-Ok-clause-few g c = few_flushed c.args.desk.now.room.outgoing.split.engines c.args.desk.now.room.outgoing.split.parts (length (taken_by_seat c.args.desk.now.seat.view)) c.args.desk.now.claims c.args.desk.now.places.items c.flush_lanes.new.places.items c.flush_lanes.ensures.few (places_of_chunks g.P.VertexProgram.rules g.D.Disk.state c.args.context.now c.args.desk.now (taken_by_seat c.args.desk.now.seat.view) c.requires.serving.job.chunk.0 c.requires.holds.has) c.requires.claims

pub returns-in-Err-DiskFault-clause-within : goal.returns-in-Err-DiskFault-clause-within
returns-in-Err-DiskFault-clause-within g c = within_all g.P.VertexProgram.rules g.D.Disk.state c.args.context.now c.args.desk.now.room c.flush_lanes.new.places.items c.requires.serving c.requires.holds.fit.room (c.flush_lanes.ensures.few.within (within_room g.P.VertexProgram.rules g.D.Disk.state c.args.context.now c.args.desk.now.room c.args.desk.now.places.items c.requires.serving c.requires.holds.fit.room c.requires.holds.fit.within))

pub returns-in-Err-DiskFault-clause-few : goal.returns-in-Err-DiskFault-clause-few
returns-in-Err-DiskFault-clause-few g c = few_flushed c.args.desk.now.room.outgoing.split.engines c.args.desk.now.room.outgoing.split.parts (length (taken_by_seat c.args.desk.now.seat.view)) c.args.desk.now.claims c.args.desk.now.places.items c.flush_lanes.new.places.items c.flush_lanes.ensures.few (places_of_chunks g.P.VertexProgram.rules g.D.Disk.state c.args.context.now c.args.desk.now (taken_by_seat c.args.desk.now.seat.view) c.requires.serving.job.chunk.0 c.requires.holds.has) c.requires.claims

pub returns-in-Err-Memory-clause-within : goal.returns-in-Err-Memory-clause-within
returns-in-Err-Memory-clause-within g c = within_all g.P.VertexProgram.rules g.D.Disk.state c.args.context.now c.args.desk.now.room c.flush_lanes.new.places.items c.requires.serving c.requires.holds.fit.room (c.flush_lanes.ensures.few.within (within_room g.P.VertexProgram.rules g.D.Disk.state c.args.context.now c.args.desk.now.room c.args.desk.now.places.items c.requires.serving c.requires.holds.fit.room c.requires.holds.fit.within))

pub returns-in-Err-Memory-clause-few : goal.returns-in-Err-Memory-clause-few
returns-in-Err-Memory-clause-few g c = few_flushed c.args.desk.now.room.outgoing.split.engines c.args.desk.now.room.outgoing.split.parts (length (taken_by_seat c.args.desk.now.seat.view)) c.args.desk.now.claims c.args.desk.now.places.items c.flush_lanes.new.places.items c.flush_lanes.ensures.few (places_of_chunks g.P.VertexProgram.rules g.D.Disk.state c.args.context.now c.args.desk.now (taken_by_seat c.args.desk.now.seat.view) c.requires.serving.job.chunk.0 c.requires.holds.has) c.requires.claims

pub returns-in-Ok-clause-scattered : goal.returns-in-Ok-clause-scattered
returns-in-Ok-clause-scattered g c = λ done.
    let has = c.requires.holds.has in
    record {
      updates = has.updates;
      fit = has.sent.fit;
      written = c.in-Ok.ensures.written c.args.context.now.serving.job.now c.args.context.now.epoch c.args.desk.now.worker has.updates c.requires.holds.fit.room.of_job has.sent;
      are = has.are;
      found = c.requires.holds.found;
    }
