-- What the buffer of the update's partition is before, with the update, and after its chunk was written.
use Rattle.std.proofs.Common.{true, [], ◌∷◌, ◌++◌, ◌≡◌, ◌<◌, length, get_or, rules, sym, ◌∙◌, ap, subst, arith}
use Rattle.std.specs.Prelude.{vec_len}
use Rattle.std.specs.Vec.{with_items}
use Rattle.std.specs.List.{All}
use Rattle.std.proofs.lemmas.List.Elements.{All-push}
use Rattle.graph_model.specs.declared.value.Update.{Update}
use Rattle.chunk_model.specs.Layout.{holds_update}
use Rattle.chunk_model.proofs.LayoutLaws.{update_holds}
use Rattle.update_lanes.specs.Outgoing.{IsBuffer}
use Rattle.chunk_model.specs.Chunks.{full_chunks}
use Rattle.seeded_place.specs.Placing.{update_stream}
use Rattle.phase_model.specs.Lanes.{update_home}
use Rattle.update_lanes.specs.Lanes.{HasMade, IsWithin}
use Rattle.update_lanes.proofs.Sent.{home_of_update, gained_here, length-gains, gains_room, length-empties, empties_room, empties_open, sent_kept, sent_full}
use Rattle.update_lanes.proofs.outgoing.put.Goals as goal

pub add-requires-clause-room : goal.add-requires-clause-room
add-requires-clause-room g c = λ d.
    let within : c.partition_of-home.result < length c.args.out.now.buffers.items = search rules in
    let room : IsBuffer c.args.out.now.size (get_or c.args.out.now.buffers.items c.partition_of-home.result d) = c.requires.room.rooms c.partition_of-home.result d within in
    let short : vec_len (get_or c.args.out.now.buffers.items c.partition_of-home.result d) < c.args.out.now.size = c.requires.open c.partition_of-home.result d within in
    omega (arith, room.room, short)

pub returns-then-len-out-clause-room : goal.returns-then-len-out-clause-room
returns-then-len-out-clause-room g c = record {
  split = c.requires.room.split;
  size = c.requires.room.size;
  many = length-gains c.partition_of-home.result c.args.update c.args.out.now.buffers.items c.add.new.buffers.items c.add.ensures ∙ c.requires.room.many;
  rooms = gains_room c.args.out.now.size c.partition_of-home.result c.args.update c.args.out.now.buffers.items c.add.new.buffers.items (search rules) (update_holds c.args.update (search rules) (search rules)) c.requires.room.rooms c.add.ensures;
  bytes = c.requires.room.bytes;
  engines = c.requires.room.engines;
}

pub returns-then-len-out-clause-sent : goal.returns-then-len-out-clause-sent
returns-then-len-out-clause-sent g c =
    let home = c.partition_of-home.result in
    let within : home < length c.args.out.now.buffers.items = search rules in
    λ job epoch worker updates of_job size has.
    let here = gained_here home c.args.update c.args.out.now.buffers.items c.add.new.buffers.items within c.add.ensures c.index.result.now in
    let left : length c.add.ensures.buffer.items < job.chunk = omega (arith, ap vec_len here, ap vec_len c.index.ensures, c.add.ensures.buffer.ok.0, c.len.ensures, size, c.if-len-out.true) in
    sent_kept g.D.Disk.state job epoch worker updates c.args.update home c.args.out.now.buffers.items c.add.new.buffers.items c.args.out.now.placer c.args.lanes.now c.args.places.now.items
    (record { holds = update_holds c.args.update (search rules) (search rules); dst = omega (arith, of_job.vertices, c.requires.dst) })
    (home_of_update job c.args.out.now.split c.args.update home of_job c.partition_of-home.ensures) within c.add.ensures left has

pub write_chunk-requires-clause-few : goal.write_chunk-requires-clause-few
write_chunk-requires-clause-few g c =
    let home = c.partition_of-home.result in
    let within : home < length c.args.out.now.buffers.items = search rules in
    let here = gained_here home c.args.update c.args.out.now.buffers.items c.add.new.buffers.items within c.add.ensures c.index-2.result.now in
    let short : vec_len (get_or c.args.out.now.buffers.items home c.index-2.result.now) < c.args.out.now.size = c.requires.open home c.index-2.result.now within in
    omega (arith, ap length c.deref.ensures.value, ap vec_len here, ap vec_len c.index-2.ensures, c.index-2.result.now.ok.0, c.add.ensures.long c.index-2.result.now, short, c.requires.room.size.1)

pub write_chunk-requires-clause-held : goal.write_chunk-requires-clause-held
write_chunk-requires-clause-held g c = λ _ _.
    let home = c.partition_of-home.result in
    let within : home < length c.args.out.now.buffers.items = search rules in
    let gained = gains_room c.args.out.now.size home c.args.update c.args.out.now.buffers.items c.add.new.buffers.items within (update_holds c.args.update (search rules) (search rules)) c.requires.room.rooms c.add.ensures in
    let within_mid : home < length c.add.new.buffers.items = omega (arith, within, length-gains home c.args.update c.args.out.now.buffers.items c.add.new.buffers.items c.add.ensures) in
    let here : IsBuffer c.args.out.now.size (get_or c.add.new.buffers.items home c.index-2.result.now) = gained home c.index-2.result.now within_mid in
    subst (λ items. All (λ (u : Update). holds_update u ≡ true) items) (sym (c.deref.ensures.value ∙ ap (λ v. v.items) c.index-2.ensures)) here.held

pub write_chunk-requires-clause-room : goal.write_chunk-requires-clause-room
write_chunk-requires-clause-room g c = λ _ _.
    let home = c.partition_of-home.result in
    let within : home < length c.args.out.now.buffers.items = search rules in
    let here = gained_here home c.args.update c.args.out.now.buffers.items c.add.new.buffers.items within c.add.ensures c.index-2.result.now in
    let short : vec_len (get_or c.args.out.now.buffers.items home c.index-2.result.now) < c.args.out.now.size = c.requires.open home c.index-2.result.now within in
    omega (arith, ap length c.deref.ensures.value, ap vec_len here, ap vec_len c.index-2.ensures, c.index-2.result.now.ok.0, c.add.ensures.long c.index-2.result.now, short, c.requires.room.bytes, ap length c.deref_mut.ensures.value)

pub returns-in_err-write_chunk-clause-room : goal.returns-in_err-write_chunk-clause-room
returns-in_err-write_chunk-clause-room g c =
    let long : length (with_items c.args.out.now.bytes c.write_chunk.new.bytes).items ≡ length c.args.out.now.bytes.items = omega (arith, (with_items c.args.out.now.bytes c.write_chunk.new.bytes).ok.0, c.args.out.now.bytes.ok.0) in
    record {
      split = c.requires.room.split;
      size = c.requires.room.size;
      many = length-gains c.partition_of-home.result c.args.update c.args.out.now.buffers.items c.add.new.buffers.items c.add.ensures ∙ c.requires.room.many;
      rooms = gains_room c.args.out.now.size c.partition_of-home.result c.args.update c.args.out.now.buffers.items c.add.new.buffers.items (search rules) (update_holds c.args.update (search rules) (search rules)) c.requires.room.rooms c.add.ensures;
      bytes = omega (arith, c.requires.room.bytes, long);
      engines = search rules;
    }

pub returns-clause-room : goal.returns-clause-room
returns-clause-room g c =
    let home = c.partition_of-home.result in
    let within : home < length c.args.out.now.buffers.items = search rules in
    let gained = gains_room c.args.out.now.size home c.args.update c.args.out.now.buffers.items c.add.new.buffers.items within (update_holds c.args.update (search rules) (search rules)) c.requires.room.rooms c.add.ensures in
    let within_mid : home < length c.add.new.buffers.items = omega (arith, within, length-gains home c.args.update c.args.out.now.buffers.items c.add.new.buffers.items c.add.ensures) in
    let long : length (with_items c.args.out.now.bytes c.write_chunk.new.bytes).items ≡ length c.args.out.now.bytes.items = omega (arith, (with_items c.args.out.now.bytes c.write_chunk.new.bytes).ok.0, c.args.out.now.bytes.ok.0) in
    record {
      split = c.requires.room.split;
      size = c.requires.room.size;
      many = length-empties home c.add.new.buffers.items c.empty.new.buffers.items c.empty.ensures ∙ length-gains home c.args.update c.args.out.now.buffers.items c.add.new.buffers.items c.add.ensures ∙ c.requires.room.many;
      rooms = empties_room c.args.out.now.size home c.add.new.buffers.items c.empty.new.buffers.items within_mid gained c.empty.ensures;
      bytes = omega (arith, c.requires.room.bytes, long);
      engines = search rules;
    }

pub returns-clause-open : goal.returns-clause-open
returns-clause-open g c = empties_open c.args.out.now.size c.partition_of-home.result c.args.update c.args.out.now.buffers.items c.add.new.buffers.items c.empty.new.buffers.items (search rules) c.requires.room.size.0 c.requires.open c.add.ensures c.empty.ensures

pub returns-clause-sent : goal.returns-clause-sent
returns-clause-sent g c =
    let home = c.partition_of-home.result in
    let within : home < length c.args.out.now.buffers.items = search rules in
    λ job epoch worker updates of_job size has.
    let here = gained_here home c.args.update c.args.out.now.buffers.items c.add.new.buffers.items within c.add.ensures c.index-2.result.now in
    let short : vec_len (get_or c.args.out.now.buffers.items home c.index-2.result.now) < c.args.out.now.size = c.requires.open home c.index-2.result.now within in
    let first = gained_here home c.args.update c.args.out.now.buffers.items c.add.new.buffers.items within c.add.ensures c.index.result.now in
    let full : length c.add.ensures.buffer.items ≡ job.chunk = omega (arith, ap vec_len first, ap vec_len c.index.ensures, c.add.ensures.buffer.ok.0, c.len.ensures, size, c.if-len-out.false, c.add.ensures.long c.index-2.result.now, short) in
    let records : c.deref.result.now ≡ c.add.ensures.buffer.items = c.deref.ensures.value ∙ ap (λ v. v.items) (c.index-2.ensures ∙ here) in
    sent_full g.D.Disk.state job epoch worker updates c.args.update home c.args.out.now.buffers.items c.add.new.buffers.items c.empty.new.buffers.items c.args.out.now.placer c.write_chunk.new.placer c.args.lanes.now c.write_chunk.new.lanes c.args.places.now.items c.write_chunk.new.places.items
    (record { holds = update_holds c.args.update (search rules) (search rules); dst = omega (arith, of_job.vertices, c.requires.dst) })
    (home_of_update job c.args.out.now.split c.args.update home of_job c.partition_of-home.ensures) within c.add.ensures c.empty.ensures full has
    (λ made. subst (λ items. HasMade g.D.Disk.state job.seed (update_stream epoch worker) job.engines c.write_chunk.new.placer c.write_chunk.new.lanes c.write_chunk.new.places.items (full_chunks job.chunk (update_home job) [] updates ++ record { partition = home; items = items } ∷ [])) records
    (c.in_ok-write_chunk.ensures.made job.seed (update_stream epoch worker) job.engines (full_chunks job.chunk (update_home job) [] updates) made))

pub returns-clause-within : goal.returns-clause-within
returns-clause-within g c =
    let home = c.partition_of-home.result in
    let below : home < c.args.out.now.split.parts = search rules in
    λ all.
    let noted = c.in_ok-write_chunk.ensures.noted in
    let engine : noted.place.engine < c.args.out.now.split.engines = omega (arith, noted.engine_is, c.requires.room.engines) in
    let partition : noted.place.partition < c.args.out.now.split.parts = omega (arith, noted.partition_is, below) in
    subst (λ places. All (IsWithin c.args.out.now.split.engines c.args.out.now.split.parts) places) (sym noted.is)
    (All-push (IsWithin c.args.out.now.split.engines c.args.out.now.split.parts) c.args.places.now.items noted.place all (record { engine = engine; partition = partition }))
