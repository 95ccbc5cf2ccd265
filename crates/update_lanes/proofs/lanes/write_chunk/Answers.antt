-- The chunk is one more than those before, which are fewer than a placer has words.
use Rattle.std.proofs.Common.{subst, ◌≡◌, ◌<◌, ◌^◌, rules, arith, length, sym, ◌∙◌, ap}
use Rattle.std.proofs.lemmas.List.{get_or_default}
use Rattle.ports.specs.Told.{AsTold}
use Rattle.ports.specs.Sink.{Appends}
use Rattle.chunk_model.specs.Chunks.{Chunk}
use Rattle.chunk_model.specs.Layout.{update_layout}
use Rattle.chunk_model.specs.ChunkBytes.{chunk_bytes}
use Rattle.graph_model.specs.declared.value.Update.{Update}
use Rattle.seeded_place.specs.Placing.{placed}
use Rattle.update_lanes.proofs.GoingOn.{none_rose}
use Rattle.update_lanes.proofs.Written.{lane_goes_on, made_more, length-places_of, length-placed}
use Rattle.update_lanes.proofs.lanes.write_chunk.Goals as goal

pub returns-clause-made : goal.returns-clause-made
returns-clause-made g c = λ seed stream engines made has.
    let chunk : Chunk Update = record { partition = c.args.partition; items = c.args.records.now } in
    let count : length c.args.places.now.items ≡ length made = ap length has.written.places_are ∙ length-places_of 12 (λ engine. 0) (placed seed stream engines made) ∙ length-placed seed stream engines made in
    let few : length made < 2 ^ 64 = omega (arith, count, c.if-len-ge-MOST_PLACES.false, c.len.ensures) in
    let next = c.next-engine.ensures.placed seed stream engines (length made) has.placer_has few in
    let within : c.next-engine.result < length c.args.lanes.now = search rules in
    let lane = get_or_default c.args.lanes.now c.next-engine.result c.append_chunk.new.disk c.index-lanes-engine.result within in
    let told = subst (λ x. AsTold (Appends (chunk_bytes update_layout c.args.partition c.args.records.now)) (g.D.Disk.state x).bytes (g.D.Disk.state c.append_chunk.new.disk).bytes) (sym lane) c.in_ok-at.ensures.appended in
    made_more g.D.Disk.state seed stream engines c.args.placer.now c.next-engine.new.self c.args.lanes.now c.args.places.now.items c.push_reserved.new.self.items made chunk c.next-engine.result c.in_ok-at.at c.append_chunk.new.disk has next.0 next.1 (search rules) (search rules) (search rules) told (search rules)

pub returns-in_err-at-clause-lanes : goal.returns-in_err-at-clause-lanes
returns-in_err-at-clause-lanes g c =
    let within : c.next-engine.result < length c.args.lanes.now = search rules in
    let lane = get_or_default c.args.lanes.now c.next-engine.result c.append_chunk.new.disk c.index-lanes-engine.result within in
    lane_goes_on g.D.Disk.state c.args.beat.now _ _ c.args.lanes.now c.next-engine.result _ c.append_chunk.new.disk within lane c.in_err-at.ensures.writes

pub returns-clause-lanes : goal.returns-clause-lanes
returns-clause-lanes g c =
    let within : c.next-engine.result < length c.args.lanes.now = search rules in
    let lane = get_or_default c.args.lanes.now c.next-engine.result c.append_chunk.new.disk c.index-lanes-engine.result within in
    lane_goes_on g.D.Disk.state c.args.beat.now _ _ c.args.lanes.now c.next-engine.result _ c.append_chunk.new.disk within lane c.in_ok-at.ensures.writes

pub returns-clause-calm : goal.returns-clause-calm
returns-clause-calm g c =
    let within : c.next-engine.result < length c.args.lanes.now = search rules in
    let lane = get_or_default c.args.lanes.now c.next-engine.result c.append_chunk.new.disk c.index-lanes-engine.result within in
    none_rose g.D.Disk.state c.args.lanes.now c.next-engine.result _ c.append_chunk.new.disk lane c.in_ok-at.ensures.writes.cause.calm
