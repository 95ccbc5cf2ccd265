use Rattle.std.proofs.Common.{◌≡◌, ℕ, ◌^◌, ◌<◌, List, length, take, inl, inr, refl, ap, sym, ◌∙◌, subst, arith, [], ◌∷◌, length-append}
use Rattle.chunk_object.specs.Epochs.{cursor_of}
use Rattle.graph_model.specs.declared.edge.Edge.{Edge}
use Rattle.chunk_model.specs.Layout.{edge_layout}
use Rattle.chunk_model.proofs.LayoutLaws.{edge_layout_is}
use Rattle.store_reader.specs.Indexed.{lens_of, HasRecords}
use Rattle.store_reader.proofs.Taken.{reads_records, refuses_none, found_chunk, refused_chunk}
use Rattle.update_lanes.proofs.GoingOn.{stays}
use Rattle.worker_duty.specs.Views.{taken_by_seat}
use Rattle.worker_duty.proofs.Cursors.{taken_here-more, taken_here-none}
use Rattle.scatter_phase.specs.Phases.{DeskHolds, DeskStops}
use Rattle.scatter_phase.proofs.Steps.{goes_on_then, places_of_chunks, same_sent, sent_at, stopped_at, claimed_at, taken_of}
use Rattle.scatter_phase.proofs.acts.serve_chunk.Goals as goal

pub returns-in-Chunk : goal.returns-in-Chunk
returns-in-Chunk g c =
    let served = c.in-Chunk.ensures.served in
    let job = c.requires.serving.job in
    let below : c.args.partition < c.args.context.now.serving.split.now.parts = omega (arith, c.requires.may.partition_is, c.requires.serving.of_job.parts) in
    let tiny : c.args.partition < 2 ^ 32 = omega (arith, c.requires.may.partition_is, job.few_parts) in
    let few : c.args.context.now.serving.job.now.chunk < 2 ^ 32 = omega (arith, job.chunk.1) in
    let there = taken_of (lens_of c.args.context.now.serving.index.now) c.args.desk.now.seat.view (cursor_of c.args.engine c.args.partition) served.0 c.requires.may.ready served.1.given in
    let cursor = cursor_of c.args.engine c.args.partition in
    let long : length c.read_records-served.new.into.items ≡ c.args.context.now.serving.job.now.chunk = c.in-Chunk.ensures.rooms.1 ∙ c.requires.may.at.fit.room.edges in
    let seat = c.scatter_chunk.ensures.seat in
    let call = ap (λ s. s.view) seat ∙ served.1.call in
    let has = same_sent g.P.VertexProgram.rules g.D.Disk.state c.args.context.now c.args.desk.now _ _ refl refl refl refl c.requires.may.at.has in
    let edges : List Edge = take c.in-Chunk.count c.read_records-served.new.into.items in
    let grown = taken_here-more cursor served.0 c.args.desk.now.seat.view c.scatter_chunk.new.desk.seat.view call in
    let reads : (records : ℕ → ℕ → List Edge) → HasRecords g.D.Disk.state (edge_layout c.args.context.now.serving.job.now.format) c.args.context.now.serving records → records cursor served.0 ≡ edges =
    λ records describes. reads_records g.D.Disk.state c.args.context.now.serving c.args.engine c.args.partition served.0 c.requires.may.engine_is below there (edge_layout c.args.context.now.serving.job.now.format) (edge_layout_is c.args.context.now.serving.job.now.format) tiny few records c.in-Chunk.count c.read_records-served.new.into.items describes long served.2 in
    let found = found_chunk g.D.Disk.state c.args.context.now.serving c.args.engine c.args.partition served.0 c.requires.may.engine_is below there (edge_layout c.args.context.now.serving.job.now.format) c.in-Chunk.count c.read_records-served.new.into.items long served.2 in
    record {
      goes_on = goes_on_then g.D.Disk.state g.D.M.Meter.faults c.args.context.now.beat.now c.args.desk.now _ c.scatter_chunk.new.desk
          (record { worker = refl; room = λ job is. record { outgoing = is.outgoing; of_job = is.of_job; size = is.size; edges = c.in-Chunk.ensures.rooms.1 ∙ is.edges; bytes = c.in-Chunk.ensures.rooms.0 ∙ is.bytes; now = is.now; before = is.before; changed = is.changed }; reads = c.in-Chunk.ensures.later; lanes = stays g.D.Disk.state c.args.context.now.beat.now c.args.desk.now.lanes.items; caused = λ is. inl is; calm = λ is. (is, c.in-Chunk.ensures.calm, refl) })
          c.scatter_chunk.ensures.goes_on;
      table_is = ap (λ s. s.table) seat ∙ c.in-Chunk.ensures.table;
      call = claimed_at g.P.VertexProgram.rules g.D.Disk.state c.args.context.now _ c.scatter_chunk.new.desk edges _ cursor served.0 has c.requires.may.at.found found reads c.args.desk.now.seat.view c.scatter_chunk.new.desk.seat.view c.scatter_chunk.result c.scatter_chunk.ensures.sent (record { place = served.0; call = call; may = served.1.given });
      at = λ ne. subst (DeskHolds g.P.VertexProgram.rules g.D.Disk.state c.args.context.now c.scatter_chunk.new.desk) (sym grown) (sent_at g.P.VertexProgram.rules g.D.Disk.state c.args.context.now _ c.scatter_chunk.new.desk edges _ cursor served.0 has c.requires.may.at.found found reads c.scatter_chunk.result c.scatter_chunk.ensures.sent ne);
      stopped = λ is. subst (DeskStops g.P.VertexProgram.rules g.D.Disk.state c.args.context.now c.scatter_chunk.new.desk) (sym grown) (stopped_at g.P.VertexProgram.rules g.D.Disk.state c.args.context.now _ c.scatter_chunk.new.desk edges _ cursor served.0 has c.requires.may.at.found found reads c.scatter_chunk.result c.scatter_chunk.ensures.sent is);
    }

pub returns-in-Exhausted : goal.returns-in-Exhausted
returns-in-Exhausted g c =
    let at = c.requires.may.at in
    record {
      goes_on = record { worker = refl; room = λ job is. record { outgoing = is.outgoing; of_job = is.of_job; size = is.size; edges = c.in-Exhausted.ensures.rooms.1 ∙ is.edges; bytes = c.in-Exhausted.ensures.rooms.0 ∙ is.bytes; now = is.now; before = is.before; changed = is.changed }; reads = c.in-Exhausted.ensures.later; lanes = stays g.D.Disk.state c.args.context.now.beat.now c.args.desk.now.lanes.items; caused = λ is. inl is; calm = λ is. (is, c.in-Exhausted.ensures.calm, refl) };
      table_is = c.in-Exhausted.ensures.table;
      call = c.in-Exhausted.ensures.served.call;
      at = λ ne. subst (DeskHolds g.P.VertexProgram.rules g.D.Disk.state c.args.context.now _) (sym (taken_here-none (cursor_of c.args.engine c.args.partition) c.args.desk.now.seat.view c.read_records-served.new.seat.view c.in-Exhausted.ensures.served.call))
          (record {
            fit = record { room = record { outgoing = at.fit.room.outgoing; of_job = at.fit.room.of_job; size = at.fit.room.size; edges = c.in-Exhausted.ensures.rooms.1 ∙ at.fit.room.edges; bytes = c.in-Exhausted.ensures.rooms.0 ∙ at.fit.room.bytes; now = at.fit.room.now; before = at.fit.room.before; changed = at.fit.room.changed }; loaded = at.fit.loaded; none_full = at.fit.none_full; ready = at.fit.ready; within = at.fit.within; done = at.fit.done };
            has = same_sent g.P.VertexProgram.rules g.D.Disk.state c.args.context.now c.args.desk.now _ _ refl refl refl refl at.has;
            found = at.found;
          });
      stopped = λ e. cc;
    }

pub returns-in-DiskFault : goal.returns-in-DiskFault
returns-in-DiskFault g c =
    let served = c.in-DiskFault.ensures.served in
    let job = c.requires.serving.job in
    let below : c.args.partition < c.args.context.now.serving.split.now.parts = omega (arith, c.requires.may.partition_is, c.requires.serving.of_job.parts) in
    let tiny : c.args.partition < 2 ^ 32 = omega (arith, c.requires.may.partition_is, job.few_parts) in
    let few : c.args.context.now.serving.job.now.chunk < 2 ^ 32 = omega (arith, job.chunk.1) in
    let there = taken_of (lens_of c.args.context.now.serving.index.now) c.args.desk.now.seat.view (cursor_of c.args.engine c.args.partition) served.0 c.requires.may.ready served.1.given in
    let at = c.requires.may.at in
    record {
      goes_on = record { worker = refl; room = λ job is. record { outgoing = is.outgoing; of_job = is.of_job; size = is.size; edges = c.in-DiskFault.ensures.rooms.1 ∙ is.edges; bytes = c.in-DiskFault.ensures.rooms.0 ∙ is.bytes; now = is.now; before = is.before; changed = is.changed }; reads = c.in-DiskFault.ensures.later; lanes = stays g.D.Disk.state c.args.context.now.beat.now c.args.desk.now.lanes.items; caused = λ is. inr (inl served.2); calm = λ is. absurd cc };
      table_is = c.in-DiskFault.ensures.table;
      call = record { place = served.0; call = served.1.call; may = served.1.given };
      at = λ ne. absurd (ne refl);
      stopped = λ e. record {
        why = tt;
        within = at.fit.within;
        few =
            let most = places_of_chunks g.P.VertexProgram.rules g.D.Disk.state c.args.context.now c.args.desk.now _ job.chunk.0 at.has in
            let more = ap length (taken_here-more (cursor_of c.args.engine c.args.partition) served.0 c.args.desk.now.seat.view c.read_records-served.new.seat.view served.1.call) in
            let one = length-append (taken_by_seat c.args.desk.now.seat.view) ((cursor_of c.args.engine c.args.partition, served.0) ∷ []) in
            omega (arith, most, more, one);
      };
    }

pub returns-in-Damaged : goal.returns-in-Damaged
returns-in-Damaged g c =
    let served = c.in-Damaged.ensures.served in
    let job = c.requires.serving.job in
    let below : c.args.partition < c.args.context.now.serving.split.now.parts = omega (arith, c.requires.may.partition_is, c.requires.serving.of_job.parts) in
    let there = taken_of (lens_of c.args.context.now.serving.index.now) c.args.desk.now.seat.view (cursor_of c.args.engine c.args.partition) served.0 c.requires.may.ready served.1.given in
    let refused = refused_chunk g.D.Disk.state c.args.context.now.serving c.args.engine c.args.partition served.0 c.requires.may.engine_is below there (edge_layout c.args.context.now.serving.job.now.format) _ c.in-Damaged.place c.requires.may.at.fit.room.edges served.2 in
    let at = c.requires.may.at in
    record {
      goes_on = record { worker = refl; room = λ job is. record { outgoing = is.outgoing; of_job = is.of_job; size = is.size; edges = c.in-Damaged.ensures.rooms.1 ∙ is.edges; bytes = c.in-Damaged.ensures.rooms.0 ∙ is.bytes; now = is.now; before = is.before; changed = is.changed }; reads = c.in-Damaged.ensures.later; lanes = stays g.D.Disk.state c.args.context.now.beat.now c.args.desk.now.lanes.items; caused = λ is. absurd cc; calm = λ is. absurd cc };
      table_is = c.in-Damaged.ensures.table;
      call = record { place = served.0; call = served.1.call; may = served.1.given };
      at = λ ne. absurd (ne refl);
      stopped = λ e. record {
        why = ((refl, refused), λ records describes. refuses_none g.D.Disk.state c.args.context.now.serving c.args.engine c.args.partition served.0 c.requires.may.engine_is below there (edge_layout c.args.context.now.serving.job.now.format) records _ _ describes c.requires.may.at.fit.room.edges served.2);
        within = at.fit.within;
        few =
            let most = places_of_chunks g.P.VertexProgram.rules g.D.Disk.state c.args.context.now c.args.desk.now _ job.chunk.0 at.has in
            let more = ap length (taken_here-more (cursor_of c.args.engine c.args.partition) served.0 c.args.desk.now.seat.view c.read_records-served.new.seat.view served.1.call) in
            let one = length-append (taken_by_seat c.args.desk.now.seat.view) ((cursor_of c.args.engine c.args.partition, served.0) ∷ []) in
            omega (arith, most, more, one);
      };
    }
