use Rattle.std.proofs.Common.{length, refl, sym, ◌∙◌, subst, arith}
use Rattle.std.specs.List.{All}
use Rattle.std.proofs.lemmas.List.Elements.{All-nil}
use Rattle.partitioner.specs.Splits.{IsSplitOf}
use Rattle.seeded_place.specs.Placing.{HasPlaced, update_stream}
use Rattle.update_lanes.specs.Lanes.{AreReady, IsWithin}
use Rattle.update_lanes.specs.Outgoing.{NoneFull}
use Rattle.update_lanes.proofs.Emptying.{sent_nothing}
use Rattle.scatter_phase.proofs.Steps.{nothing_loaded, holds_first}
use Rattle.scatter_phase.proofs.scatter.begin.Goals as goal

pub returns-clause-holds : goal.returns-clause-holds
returns-clause-holds g c =
    let job = c.args.context.now.serving.job.now in
    let of_job = subst (IsSplitOf job) (sym c.reset.ensures.same.0) c.requires.room.of_job in
    let size = c.reset.ensures.same.1 ∙ c.requires.room.size in
    let empty = c.in_ok-empty_lanes.ensures.empty in
    let go_on = c.empty_lanes.ensures.go_on in
    let none_full : NoneFull c.reset.new.out.size c.reset.new.out.buffers.items = λ p d below. omega (arith, (c.reset.ensures.none p d below).0, c.reset.ensures.room.size.0) in
    let ready : AreReady g.D.Disk.state c.reset.new.out.split.engines c.args.context.now.beat.now (length c.args.desk.now.places.items) c.empty_lanes.new.lanes.items =
    record {
      many = go_on.many ∙ (c.requires.lanes.all ∙ sym of_job.engines);
      beats = λ e d below. (go_on.each e d (omega (arith, go_on.many, below))).beat (c.requires.lanes.beats e d (omega (arith, go_on.many, c.requires.lanes.all, below)));
      sizes = λ e d below. omega (arith, (empty e d below).size_is);
    } in
    let within : All (IsWithin job.engines c.args.context.now.serving.split.now.parts) c.args.desk.now.places.items =
    subst (All (IsWithin job.engines c.args.context.now.serving.split.now.parts)) (sym c.requires.places) (All-nil (IsWithin job.engines c.args.context.now.serving.split.now.parts)) in
    holds_first g.P.VertexProgram.rules g.D.Disk.state c.args.context.now _ c.requires.story
    (record {
      room = record { outgoing = c.reset.ensures.room; of_job = of_job; size = size; edges = c.requires.room.edges; bytes = c.requires.room.bytes; now = c.requires.room.now; before = c.requires.room.before; changed = c.requires.room.changed };
      loaded = λ p is. absurd (nothing_loaded p is);
      none_full = none_full;
      ready = ready;
      within = within;
      done = refl;
    })
    (sent_nothing g.D.Disk.state job c.args.context.now.epoch c.args.desk.now.worker c.reset.new.out.buffers.items c.reset.new.out.placer c.empty_lanes.new.lanes.items c.args.desk.now.places.items (c.reset.ensures.room.many ∙ of_job.parts) c.reset.ensures.none
    (subst (λ n. HasPlaced job.seed (update_stream c.args.context.now.epoch c.args.desk.now.worker) n 0 c.reset.new.out.placer) c.requires.room.of_job.engines (subst (λ s. HasPlaced job.seed s c.args.desk.now.room.outgoing.split.engines 0 c.reset.new.out.placer) c.stream_of-stream.ensures c.reset.ensures.placer))
    c.requires.places empty)
