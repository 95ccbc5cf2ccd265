use Rattle.std.proofs.Common.{◌≡◌, ◌-◌, List, length, take, sym, ap, ◌∙◌, arith, refl}
use Rattle.std.specs.Vec.{with_items}
use Rattle.std.proofs.lemmas.List.{with_items_is}
use Rattle.graph_model.specs.declared.value.Value.{Value}
use Rattle.scatter_phase.proofs.Sets.{set_short}
use Rattle.scatter_phase.proofs.Sends.{lanes_long, sends_are, cause_is, calm_is, edges_in, all_in, changed_in, marked_in}
use Rattle.scatter_phase.proofs.send.send_chunk.Goals as goal

pub returns-in-None-clause-sends : goal.returns-in-None-clause-sends
returns-in-None-clause-sends g c =
    let lanes = c.args.lanes.now in
    let given = c.deref_mut.ensures.value in
    let sent = c.send_all.ensures in
    let long = lanes_long g.D.Disk.state c.args.context.now.beat.now c.args.room.now.outgoing c.send_all.new.out c.args.places.now.items c.send_all.new.places.items c.send_all.result _ _ _ _ sent.sends sent.stops in
    let lanes_are : (with_items lanes c.send_all.new.lanes).items ≡ c.send_all.new.lanes = with_items_is lanes c.send_all.new.lanes (omega (arith, long, ap length given, lanes.ok.0)) in
    sends_are g.D.Disk.state c.args.context.now.beat.now c.args.room.now.outgoing c.send_all.new.out c.args.places.now.items c.send_all.new.places.items c.send_all.result _ _ _ _ _ _ given (sym lanes_are)
    (all_in (g.P.VertexProgram.rules c.args.context.now.program.now) c.args.context.now.serving.split.now c.args.partition c.args.count c.range-first.result.0 c.range-first.result.1 c.args.context.now.before c.args.room.now c.deref.result.now c.deref-in-None.result.now
    c.in-None.is c.range-first.ensures.first c.range-first.ensures.end c.deref.ensures.value c.deref-in-None.ensures.value) sent.sends

pub returns-in-None-clause-cause : goal.returns-in-None-clause-cause
returns-in-None-clause-cause g c =
    let lanes = c.args.lanes.now in
    let given = c.deref_mut.ensures.value in
    let sent = c.send_all.ensures in
    let long = lanes_long g.D.Disk.state c.args.context.now.beat.now c.args.room.now.outgoing c.send_all.new.out c.args.places.now.items c.send_all.new.places.items c.send_all.result _ _ _ _ sent.sends sent.stops in
    let lanes_are : (with_items lanes c.send_all.new.lanes).items ≡ c.send_all.new.lanes = with_items_is lanes c.send_all.new.lanes (omega (arith, long, ap length given, lanes.ok.0)) in
    cause_is g.D.Disk.state c.send_all.result _ _ _ _ given (sym lanes_are) sent.cause

pub returns-in-None-clause-calm : goal.returns-in-None-clause-calm
returns-in-None-clause-calm g c =
    let lanes = c.args.lanes.now in
    let given = c.deref_mut.ensures.value in
    let sent = c.send_all.ensures in
    let long = lanes_long g.D.Disk.state c.args.context.now.beat.now c.args.room.now.outgoing c.send_all.new.out c.args.places.now.items c.send_all.new.places.items c.send_all.result _ _ _ _ sent.sends sent.stops in
    let lanes_are : (with_items lanes c.send_all.new.lanes).items ≡ c.send_all.new.lanes = with_items_is lanes c.send_all.new.lanes (omega (arith, long, ap length given, lanes.ok.0)) in
    calm_is g.D.Disk.state c.send_all.result _ _ _ _ given (sym lanes_are) sent.calm

pub returns-in-Some-clause-sends : goal.returns-in-Some-clause-sends
returns-in-Some-clause-sends g c =
    let lanes = c.args.lanes.now in
    let given = c.deref_mut-in-Some.ensures.value in
    let sent = c.send_changed.ensures in
    let split = c.args.context.now.serving.split.now in
    let before : List Value = take (c.range-first.result.1 - c.range-first.result.0) c.args.room.now.before.items in
    let sends = sent.sends before (marked_in split c.args.partition c.range-first.result.0 c.range-first.result.1 c.in-Some.field-0 c.args.context.now.before c.args.room.now c.deref-in-Some.result.now c.deref-in-Some-2.result.now
    c.in-Some.is c.range-first.ensures.first c.range-first.ensures.end c.deref-in-Some.ensures.value c.deref-in-Some-2.ensures.value c.requires.marked) in
    let long = lanes_long g.D.Disk.state c.args.context.now.beat.now c.args.room.now.outgoing c.send_changed.new.out c.args.places.now.items c.send_changed.new.places.items c.send_changed.result _ _ _ _ sends sent.stops in
    let lanes_are : (with_items lanes c.send_changed.new.lanes).items ≡ c.send_changed.new.lanes = with_items_is lanes c.send_changed.new.lanes (omega (arith, long, ap length given, lanes.ok.0)) in
    sends_are g.D.Disk.state c.args.context.now.beat.now c.args.room.now.outgoing c.send_changed.new.out c.args.places.now.items c.send_changed.new.places.items c.send_changed.result _ _ _ _ _ _ given (sym lanes_are)
    (changed_in (g.P.VertexProgram.rules c.args.context.now.program.now) c.args.context.now.serving.split.now c.args.partition c.args.count c.range-first.result.0 c.range-first.result.1 c.in-Some.field-0 c.args.context.now.before c.args.room.now c.deref.result.now c.args.room.now.before.items c.deref-in-Some.result.now
    c.in-Some.is c.range-first.ensures.first c.range-first.ensures.end c.deref.ensures.value refl c.deref-in-Some.ensures.value) sends

pub returns-in-Some-clause-cause : goal.returns-in-Some-clause-cause
returns-in-Some-clause-cause g c =
    let lanes = c.args.lanes.now in
    let given = c.deref_mut-in-Some.ensures.value in
    let sent = c.send_changed.ensures in
    let before : List Value = take (c.range-first.result.1 - c.range-first.result.0) c.args.room.now.before.items in
    let sends = sent.sends before (marked_in c.args.context.now.serving.split.now c.args.partition c.range-first.result.0 c.range-first.result.1 c.in-Some.field-0 c.args.context.now.before c.args.room.now c.deref-in-Some.result.now c.deref-in-Some-2.result.now
    c.in-Some.is c.range-first.ensures.first c.range-first.ensures.end c.deref-in-Some.ensures.value c.deref-in-Some-2.ensures.value c.requires.marked) in
    let long = lanes_long g.D.Disk.state c.args.context.now.beat.now c.args.room.now.outgoing c.send_changed.new.out c.args.places.now.items c.send_changed.new.places.items c.send_changed.result _ _ _ _ sends sent.stops in
    let lanes_are : (with_items lanes c.send_changed.new.lanes).items ≡ c.send_changed.new.lanes = with_items_is lanes c.send_changed.new.lanes (omega (arith, long, ap length given, lanes.ok.0)) in
    cause_is g.D.Disk.state c.send_changed.result _ _ _ _ given (sym lanes_are) sent.cause

pub returns-in-Some-clause-calm : goal.returns-in-Some-clause-calm
returns-in-Some-clause-calm g c =
    let lanes = c.args.lanes.now in
    let given = c.deref_mut-in-Some.ensures.value in
    let sent = c.send_changed.ensures in
    let before : List Value = take (c.range-first.result.1 - c.range-first.result.0) c.args.room.now.before.items in
    let sends = sent.sends before (marked_in c.args.context.now.serving.split.now c.args.partition c.range-first.result.0 c.range-first.result.1 c.in-Some.field-0 c.args.context.now.before c.args.room.now c.deref-in-Some.result.now c.deref-in-Some-2.result.now
    c.in-Some.is c.range-first.ensures.first c.range-first.ensures.end c.deref-in-Some.ensures.value c.deref-in-Some-2.ensures.value c.requires.marked) in
    let long = lanes_long g.D.Disk.state c.args.context.now.beat.now c.args.room.now.outgoing c.send_changed.new.out c.args.places.now.items c.send_changed.new.places.items c.send_changed.result _ _ _ _ sends sent.stops in
    let lanes_are : (with_items lanes c.send_changed.new.lanes).items ≡ c.send_changed.new.lanes = with_items_is lanes c.send_changed.new.lanes (omega (arith, long, ap length given, lanes.ok.0)) in
    calm_is g.D.Disk.state c.send_changed.result _ _ _ _ given (sym lanes_are) sent.calm

pub send_all-requires-clause-edges : goal.send_all-requires-clause-edges
send_all-requires-clause-edges g c κs within = edges_in c.args.context.now.serving.split.now c.args.context.now.serving.job.now.format c.args.context.now.serving.job.now.chunk c.args.partition c.range-first.result.0 c.range-first.result.1 _ c.args.room.now.outgoing.split.vertices c.args.count c.deref.result.now c.args.room.now.edges.items c.deref-in-None.result.now
    c.requires.serving.split c.requires.edges c.deref.ensures.value c.range-first.ensures.first c.range-first.ensures.end refl
    (let short = set_short c.args.context.now.serving.job.now c.args.context.now.serving.split.now c.args.partition c.requires.serving.split c.requires.serving.of_job in omega (arith, short, c.requires.room.now, ap length c.deref-in-None.ensures.value)) (c.requires.room.of_job.vertices ∙ sym c.requires.serving.of_job.vertices)

pub send_changed-requires-clause-edges : goal.send_changed-requires-clause-edges
send_changed-requires-clause-edges g c κs within = edges_in c.args.context.now.serving.split.now c.args.context.now.serving.job.now.format c.args.context.now.serving.job.now.chunk c.args.partition c.range-first.result.0 c.range-first.result.1 _ c.args.room.now.outgoing.split.vertices c.args.count c.deref.result.now c.args.room.now.edges.items c.deref-in-Some.result.now
    c.requires.serving.split c.requires.edges c.deref.ensures.value c.range-first.ensures.first c.range-first.ensures.end refl
    (let short = set_short c.args.context.now.serving.job.now c.args.context.now.serving.split.now c.args.partition c.requires.serving.split c.requires.serving.of_job in omega (arith, short, c.requires.room.now, ap length c.deref-in-Some.ensures.value)) (c.requires.room.of_job.vertices ∙ sym c.requires.serving.of_job.vertices)
