use Rattle.std.proofs.Common.{◌≡◌, ◌^◌, ◌<◌, Bool, cond, length, take, inl, inr, refl, ap, sym, ◌∙◌, subst, arith}
use Rattle.graph_model.specs.Programs.{plus}
use Rattle.chunk_object.specs.Epochs.{cursor_of}
use Rattle.phase_model.specs.Sums.{counts_of}
use Rattle.replica_merge.specs.Accumulators.{sums_of, len_of}
use Rattle.chunk_model.specs.Layout.{edge_layout}
use Rattle.gather_phase.specs.Phases.{Takes, IsRefused, IsFound, part_of, adding_of}
use Rattle.store_reader.specs.Indexed.{lens_of}
use Rattle.store_reader.proofs.Taken.{found_chunk, refused_chunk}
use Rattle.gather_phase.proofs.Beginning.{found_still, found_more}
use Rattle.gather_phase.proofs.Reading.{edges_within, takes_edges, refuses_edges}
use Rattle.gather_phase.proofs.Serving.{met_none, come_begun, come_split, come_stays, met_more, taken_of, long_sums}
use Rattle.gather_phase.proofs.chunk.serve_edges.Goals as goal

pub add_edges-requires-clause-within : goal.add_edges-requires-clause-within
add_edges-requires-clause-within g c =
    let begun = come_begun _ _ _ _ _ _ _ _ _ _ _ _ _ c.requires.may.at.at c.come_to.ensures.come in
    let split = come_split _ _ _ _ _ _ _ _ _ _ _ _ _ c.requires.may.at.at c.come_to.ensures.come in
    edges_within c.args.context.now.serving.split.now c.args.context.now.serving.job.now.format c.args.partition c.range-first.result.0 (length (sums_of c.come_to.new.replicas)) (length c.read_records-served.new.into.items) (take c.in-Chunk.count c.read_records-served.new.into.items) c.requires.serving.split c.range-first.ensures.first
    (long_sums c.come_to.new.replicas c.args.partition begun ∙ ap (λ s. len_of s c.args.partition) split) c.in-Chunk.ensures.served.2.are

pub returns-in-Exhausted : goal.returns-in-Exhausted
returns-in-Exhausted g c = record {
  goes_on = record { worker = refl; split = refl; room = λ job is. record { updates = is.updates; edges = c.in-Exhausted.ensures.rooms.1 ∙ is.edges; bytes = c.in-Exhausted.ensures.rooms.0 ∙ is.bytes }; reads = c.in-Exhausted.ensures.later; writes = omega arith; told = λ bytes is. (bytes, is); caused = λ is. inl is; calm = λ is. (is, c.in-Exhausted.ensures.calm, refl) };
  table_is = c.in-Exhausted.ensures.table;
  call = c.in-Exhausted.ensures.served.call;
  at = λ ne. record {
    at = met_none _ _ _ _ _ _ _ _ _ _ _ (cursor_of c.args.engine c.args.partition) _ _ c.requires.may.at.at c.in-Exhausted.ensures.served.call;
    room = record { updates = c.requires.may.at.room.updates; edges = c.in-Exhausted.ensures.rooms.1 ∙ c.requires.may.at.room.edges; bytes = c.in-Exhausted.ensures.rooms.0 ∙ c.requires.may.at.room.bytes };
    found = found_still (IsFound g.D.Disk.state c.args.context.now.counting c.args.context.now.serving) (cursor_of c.args.engine c.args.partition) c.args.desk.now.seat.view _ c.in-Exhausted.ensures.served.call c.requires.may.at.found;
    done = c.requires.may.at.done;
  };
  stopped = λ e. cc;
}

pub returns-in-Chunk : goal.returns-in-Chunk
returns-in-Chunk g c =
    let served = c.in-Chunk.ensures.served in
    let job = c.requires.serving.job in
    let below : c.args.partition < c.args.context.now.serving.split.now.parts = omega (arith, c.requires.may.partition_is, c.requires.serving.of_job.parts) in
    let small : c.args.partition < 64 = omega (arith, c.requires.may.partition_is, job.few_parts) in
    let tiny : c.args.partition < 2 ^ 32 = omega arith in
    let few : c.args.context.now.serving.job.now.chunk < 2 ^ 32 = omega (arith, job.chunk.1) in
    let is_of = taken_of c.args.context.now.serving.job.now.engines c.args.context.now.serving.split.now.parts (lens_of c.args.context.now.serving.index.now) _ c.args.engine c.args.partition served.0 small c.requires.may.engine_is below c.requires.may.ready served.1.given in
    let long : length c.read_records-served.new.into.items ≡ c.args.context.now.serving.job.now.chunk = c.in-Chunk.ensures.rooms.1 ∙ c.requires.may.at.room.edges in
    record {
      goes_on = record { worker = refl; split = c.add_edges.ensures.same.split ∙ come_stays _ _ _ c.args.partition c.come_to.ensures.come; room = λ job is. record { updates = is.updates; edges = c.in-Chunk.ensures.rooms.1 ∙ is.edges; bytes = c.in-Chunk.ensures.rooms.0 ∙ is.bytes }; reads = c.in-Chunk.ensures.later; writes = omega arith; told = λ bytes is. (bytes, is); caused = λ is. inl is; calm = λ is. (is, c.in-Chunk.ensures.calm, refl) };
      table_is = c.in-Chunk.ensures.table;
      call = record { place = served.0; call = served.1.call; may = served.1.given };
      at = λ ne. record {
        at = met_more (adding_of g.P.VertexProgram.rules g.D.Disk.state c.args.context.now) c.args.context.now.serving.job.now.engines (lens_of c.args.context.now.serving.index.now) (Takes g.D.Disk.state c.args.context.now.counting c.args.context.now.serving) _ _ _ _ c.args.partition plus c.range-first.result.0 _ _ (cursor_of c.args.engine c.args.partition) served.0 _ _ _ _ _ (counts_of (take c.in-Chunk.count c.read_records-served.new.into.items))
            (ap (λ (b : Bool). cond b plus (g.P.VertexProgram.rules c.args.context.now.program.now).fold) (sym c.requires.kind)) c.range-first.ensures.first c.requires.may.at.at c.come_to.ensures.come c.come_to.ensures.begun c.add_edges.ensures.same c.add_edges.ensures.begun c.add_edges.ensures.summed (omega arith) is_of
            (λ items takes. takes_edges g.D.Disk.state c.args.context.now.serving c.args.engine c.args.partition served.0 tiny few c.requires.may.engine_is below (omega (arith, is_of.place)) c.args.context.now.counting c.requires.kind items takes c.in-Chunk.count c.read_records-served.new.into.items long served.2) served.1.call;
        room = record { updates = c.requires.may.at.room.updates; edges = long; bytes = c.in-Chunk.ensures.rooms.0 ∙ c.requires.may.at.room.bytes };
        found = found_more (IsFound g.D.Disk.state c.args.context.now.counting c.args.context.now.serving) (cursor_of c.args.engine c.args.partition) served.0 c.args.desk.now.seat.view _ served.1.call c.requires.may.at.found
            (subst (λ (b : Bool). IsFound g.D.Disk.state b c.args.context.now.serving (cursor_of c.args.engine c.args.partition, served.0)) (sym c.requires.kind)
            (found_chunk g.D.Disk.state c.args.context.now.serving c.args.engine c.args.partition served.0 c.requires.may.engine_is below (omega (arith, is_of.place)) (edge_layout c.args.context.now.serving.job.now.format) c.in-Chunk.count c.read_records-served.new.into.items long served.2));
        done = c.requires.may.at.done;
      };
      stopped = λ e. cc;
    }

pub returns-in-Damaged : goal.returns-in-Damaged
returns-in-Damaged g c =
    let served = c.in-Damaged.ensures.served in
    let job = c.requires.serving.job in
    let below : c.args.partition < c.args.context.now.serving.split.now.parts = omega (arith, c.requires.may.partition_is, c.requires.serving.of_job.parts) in
    let small : c.args.partition < 64 = omega (arith, c.requires.may.partition_is, job.few_parts) in
    let tiny : c.args.partition < 2 ^ 32 = omega arith in
    let few : c.args.context.now.serving.job.now.chunk < 2 ^ 32 = omega (arith, job.chunk.1) in
    let is_of = taken_of c.args.context.now.serving.job.now.engines c.args.context.now.serving.split.now.parts (lens_of c.args.context.now.serving.index.now) _ c.args.engine c.args.partition served.0 small c.requires.may.engine_is below c.requires.may.ready served.1.given in
    let refused = refused_chunk g.D.Disk.state c.args.context.now.serving c.args.engine c.args.partition served.0 c.requires.may.engine_is below (omega (arith, is_of.place)) (edge_layout c.args.context.now.serving.job.now.format) _ c.in-Damaged.place c.requires.may.at.room.edges served.2 in
    record {
      goes_on = record { worker = refl; split = refl; room = λ job is. record { updates = is.updates; edges = c.in-Damaged.ensures.rooms.1 ∙ is.edges; bytes = c.in-Damaged.ensures.rooms.0 ∙ is.bytes }; reads = c.in-Damaged.ensures.later; writes = omega arith; told = λ bytes is. (bytes, is); caused = λ is. absurd cc; calm = λ is. absurd cc };
      table_is = c.in-Damaged.ensures.table;
      call = record { place = served.0; call = served.1.call; may = served.1.given };
      at = λ ne. absurd (ne refl);
      stopped = λ e. record {
        why = ((ap part_of (sym c.requires.kind), subst (λ b. IsRefused g.D.Disk.state b c.args.context.now.serving c.args.engine c.in-Damaged.place) (sym c.requires.kind) refused), λ items takes. refuses_edges g.D.Disk.state c.args.context.now.serving c.args.engine c.args.partition served.0 tiny few c.requires.may.engine_is below (omega (arith, is_of.place)) c.args.context.now.counting c.requires.kind items takes _ _ c.requires.may.at.room.edges served.2);
        in_time = c.requires.may.at.at.in_time;
      };
    }

pub returns-in-DiskFault : goal.returns-in-DiskFault
returns-in-DiskFault g c =
    let served = c.in-DiskFault.ensures.served in
    record {
      goes_on = record { worker = refl; split = refl; room = λ job is. record { updates = is.updates; edges = c.in-DiskFault.ensures.rooms.1 ∙ is.edges; bytes = c.in-DiskFault.ensures.rooms.0 ∙ is.bytes }; reads = c.in-DiskFault.ensures.later; writes = omega arith; told = λ bytes is. (bytes, is); caused = λ is. inr (inl served.2); calm = λ is. absurd cc };
      table_is = c.in-DiskFault.ensures.table;
      call = record { place = served.0; call = served.1.call; may = served.1.given };
      at = λ ne. absurd (ne refl);
      stopped = λ e. record { why = tt; in_time = c.requires.may.at.at.in_time };
    }
