use Rattle.std.proofs.Common.{◌∙◌, refl, arith}
use Rattle.graph_model.specs.Programs.{takes_both_directions}
use Rattle.graph_model.specs.EdgeText.{text_limit}
use Rattle.ports.specs.Faults.{Rose}
use Rattle.ports.specs.Devices.{OneRose}
use Rattle.storage_engine.specs.Steps.{IsClosedFront}
use Rattle.storage_engine.proofs.Every.{each_same, each_then, one_rose_later}
use Rattle.storage_engine.proofs.Texts.{so_far, taken_none, taken_more, taken_all, piece_refused, end_refused, stopped_by, stopped_calm, given_further, sources_given, room_for_piece, room_for_end}
use Rattle.storage_engine.proofs.text.make_chunks.Goals as goal

pub pieces-init : goal.pieces-init
pieces-init g c =
    let disks = g.met.D.Disk g.world.𝓛 g.world.𝓜 g.world.𝓡 ((λ s x. x), (λ x. x), (λ x. x), λ x. x) in
    record {
      later = omega arith;
      calm = (refl, refl);
      job = refl;
      steps = each_same g.D.Disk.state IsClosedFront c.args.beat.now c.args.graphs.now disks.lawful;
      front = taken_none g.D.Disk.state c.args.maker.now.job (g.S.Source.left c.args.source.now) c.new-reader.result c.args.maker.now.buffers c.args.maker.now.placer c.args.maker.now.index c.args.graphs.now
          (rw (← c.text_limit-limit.ensures, ← c.takes_both_directions.ensures) c.new-reader.ensures) c.requires.making;
    }

pub returns-in-Err-clause-cause : goal.returns-in-Err-clause-cause
returns-in-Err-clause-cause g c =
    let state = g.D.Disk.state in
    let job = c.args.maker.now.job in
    let both = takes_both_directions job.program in
    let limit = text_limit job.chunk in
    let front = c.pieces.invariant.front in
    rw c.refused.ensures
    (piece_refused state job _ _ _ _ c.feed.new.self _ c.in-Ok.count c.read.new.into _ _ _ _ _ _ _ _ _ _ (grind arith) front c.in-Ok.ensures.moved
    (c.in-Err.ensures.read job.vertices both limit front.fed front.has_read))

pub add_all-requires-clause-sources : goal.add_all-requires-clause-sources
add_all-requires-clause-sources g c = λ _ _.
    let state = g.D.Disk.state in
    let job = c.args.maker.now.job in
    let both = takes_both_directions job.program in
    let limit = text_limit job.chunk in
    let front = c.pieces.invariant.front in
    sources_given job c.pieces.maker.job c.clear.new.self.items c.feed.new.into.items c.deref.result.now c.pieces.invariant.job c.clear.ensures.items c.deref.ensures.value
    (c.in_default-feed.ensures.read job.vertices both limit front.fed front.has_read).within

pub returns-in-Err-add_all-clause-steps : goal.returns-in-Err-add_all-clause-steps
returns-in-Err-add_all-clause-steps g c =
    let disks = g.met.D.Disk g.world.𝓛 g.world.𝓜 g.world.𝓡 ((λ s x. x), (λ x. x), (λ x. x), λ x. x) in
    each_then g.D.Disk.state IsClosedFront c.args.beat.now c.args.graphs.now c.pieces.graphs c.add_all.new.graphs disks.lawful c.pieces.invariant.steps c.add_all.ensures.steps

pub returns-in-Err-add_all-clause-cause : goal.returns-in-Err-add_all-clause-cause
returns-in-Err-add_all-clause-cause g c =
    rw c.stopped.ensures
    (stopped_by c.args.maker.now.job (g.S.Source.left c.args.source.now) (OneRose g.D.Disk.state c.args.graphs.now c.add_all.new.graphs) (Rose (g.S.Source.faults c.args.source.now) (g.S.Source.faults c.read.new.self)) c.in-Err-add_all.fault
    (λ is. one_rose_later g.D.Disk.state IsClosedFront c.args.beat.now c.args.graphs.now c.pieces.graphs c.add_all.new.graphs c.pieces.invariant.steps (c.in-Err-add_all.ensures.rose is)))

pub pieces-preserved : goal.pieces-preserved
pieces-preserved g c =
    let disks = g.met.D.Disk g.world.𝓛 g.world.𝓜 g.world.𝓡 ((λ s x. x), (λ x. x), (λ x. x), λ x. x) in
    let state = g.D.Disk.state in
    let job = c.args.maker.now.job in
    let both = takes_both_directions job.program in
    let limit = text_limit job.chunk in
    let front = c.pieces.invariant.front in
    let feeds = c.in_default-feed.ensures.read job.vertices both limit front.fed front.has_read in
    record {
      later = omega (arith, c.in-Ok.ensures.cause.later, c.pieces.invariant.later);
      calm = (c.in-Ok.ensures.cause.calm ∙ c.pieces.invariant.calm.0, c.in_default-add_all.ensures.calm (λ is. absurd cc) ∙ c.pieces.invariant.calm.1);
      job = c.add_all.ensures.job ∙ c.pieces.invariant.job;
      steps = each_then g.D.Disk.state IsClosedFront c.args.beat.now c.args.graphs.now c.pieces.graphs c.add_all.new.graphs disks.lawful c.pieces.invariant.steps c.add_all.ensures.steps;
      front = taken_more state job _ _ _ _ c.feed.new.self _ c.in-Ok.count c.read.new.into _ c.clear.new.self.items c.feed.new.into.items c.pieces.maker.buffers c.add_all.new.self.buffers c.pieces.maker.placer c.add_all.new.self.placer c.pieces.maker.index c.add_all.new.self.index c.pieces.graphs c.add_all.new.graphs
          (grind arith) c.in-Ok.ensures.within c.clear.ensures.items front c.in-Ok.ensures.moved feeds
          (given_further state job c.pieces.maker.job (so_far job front.fed) c.deref.result.now c.feed.new.into.items c.pieces.maker.buffers c.add_all.new.self.buffers c.pieces.maker.placer c.add_all.new.self.placer c.pieces.maker.index c.add_all.new.self.index c.pieces.graphs c.add_all.new.graphs
          c.pieces.invariant.job c.deref.ensures.value front.making (λ b now. c.in_default-add_all.ensures.making b now));
    }

pub returns-in-Err-finish-clause-cause : goal.returns-in-Err-finish-clause-cause
returns-in-Err-finish-clause-cause g c =
    let state = g.D.Disk.state in
    let job = c.args.maker.now.job in
    let both = takes_both_directions job.program in
    let limit = text_limit job.chunk in
    let front = c.pieces.invariant.front in
    rw c.refused-in-Err-finish.ensures
    (end_refused state job _ _ _ _ _ c.in-Ok.count c.read.new.into _ _ _ _ _ _ _ _ _ c.if-count-eq0.true (omega arith) front c.in-Ok.ensures.moved
    (c.in-Err-finish.ensures.read job.vertices both limit front.fed front.has_read))

pub add_all-requires-2-clause-sources : goal.add_all-requires-2-clause-sources
add_all-requires-2-clause-sources g c = λ _ _.
    let state = g.D.Disk.state in
    let job = c.args.maker.now.job in
    let both = takes_both_directions job.program in
    let limit = text_limit job.chunk in
    let front = c.pieces.invariant.front in
    sources_given job c.pieces.maker.job c.clear-2.new.self.items c.finish.new.into.items c.deref-2.result.now c.pieces.invariant.job c.clear-2.ensures.items c.deref-2.ensures.value
    (c.in_default-finish.ensures.read job.vertices both limit front.fed front.has_read).within

pub returns-in-Err-add_all-2-clause-steps : goal.returns-in-Err-add_all-2-clause-steps
returns-in-Err-add_all-2-clause-steps g c =
    let disks = g.met.D.Disk g.world.𝓛 g.world.𝓜 g.world.𝓡 ((λ s x. x), (λ x. x), (λ x. x), λ x. x) in
    each_then g.D.Disk.state IsClosedFront c.args.beat.now c.args.graphs.now c.pieces.graphs c.add_all-2.new.graphs disks.lawful c.pieces.invariant.steps c.add_all-2.ensures.steps

pub returns-in-Err-add_all-2-clause-cause : goal.returns-in-Err-add_all-2-clause-cause
returns-in-Err-add_all-2-clause-cause g c =
    rw c.stopped-in-Err-add_all-2.ensures
    (stopped_by c.args.maker.now.job (g.S.Source.left c.args.source.now) (OneRose g.D.Disk.state c.args.graphs.now c.add_all-2.new.graphs) (Rose (g.S.Source.faults c.args.source.now) (g.S.Source.faults c.read.new.self)) c.in-Err-add_all-2.fault
    (λ is. one_rose_later g.D.Disk.state IsClosedFront c.args.beat.now c.args.graphs.now c.pieces.graphs c.add_all-2.new.graphs c.pieces.invariant.steps (c.in-Err-add_all-2.ensures.rose is)))

pub returns-clause-steps : goal.returns-clause-steps
returns-clause-steps g c =
    let disks = g.met.D.Disk g.world.𝓛 g.world.𝓜 g.world.𝓡 ((λ s x. x), (λ x. x), (λ x. x), λ x. x) in
    each_then g.D.Disk.state IsClosedFront c.args.beat.now c.args.graphs.now c.pieces.graphs c.add_all-2.new.graphs disks.lawful c.pieces.invariant.steps c.add_all-2.ensures.steps

pub returns-clause-made : goal.returns-clause-made
returns-clause-made g c =
    let state = g.D.Disk.state in
    let job = c.args.maker.now.job in
    let both = takes_both_directions job.program in
    let limit = text_limit job.chunk in
    let front = c.pieces.invariant.front in
    let finishes = c.in_default-finish.ensures.read job.vertices both limit front.fed front.has_read in
    taken_all state job _ _ _ _ _ c.in-Ok.count c.read.new.into c.clear-2.new.self.items c.finish.new.into.items c.pieces.maker.buffers c.add_all-2.new.self.buffers c.pieces.maker.placer c.add_all-2.new.self.placer c.pieces.maker.index c.add_all-2.new.self.index c.pieces.graphs c.add_all-2.new.graphs
    c.if-count-eq0.true (omega arith) c.clear-2.ensures.items front c.in-Ok.ensures.moved finishes
    (given_further state job c.pieces.maker.job (so_far job front.fed) c.deref-2.result.now c.finish.new.into.items c.pieces.maker.buffers c.add_all-2.new.self.buffers c.pieces.maker.placer c.add_all-2.new.self.placer c.pieces.maker.index c.add_all-2.new.self.index c.pieces.graphs c.add_all-2.new.graphs
    c.pieces.invariant.job c.deref-2.ensures.value front.making (λ b now. c.in_default-add_all-2.ensures.making b now))

pub add_all-requires-clause-making : goal.add_all-requires-clause-making
add_all-requires-clause-making g c = λ _ _.
    let state = g.D.Disk.state in
    let job = c.args.maker.now.job in
    let both = takes_both_directions job.program in
    let limit = text_limit job.chunk in
    let front = c.pieces.invariant.front in
    room_for_piece state job c.pieces.maker.job _ _ _ c.feed.new.self _ _ c.clear.new.self.items c.feed.new.into.items c.deref.result.now c.pieces.maker.buffers c.pieces.maker.placer c.pieces.maker.index c.pieces.graphs
    c.pieces.invariant.job c.clear.ensures.items c.deref.ensures.value front (c.in_default-feed.ensures.read job.vertices both limit front.fed front.has_read)

pub add_all-requires-2-clause-making : goal.add_all-requires-2-clause-making
add_all-requires-2-clause-making g c = λ _ _.
    let state = g.D.Disk.state in
    let job = c.args.maker.now.job in
    let both = takes_both_directions job.program in
    let limit = text_limit job.chunk in
    let front = c.pieces.invariant.front in
    room_for_end state job c.pieces.maker.job _ _ _ _ c.clear-2.new.self.items c.finish.new.into.items c.deref-2.result.now c.pieces.maker.buffers c.pieces.maker.placer c.pieces.maker.index c.pieces.graphs
    c.pieces.invariant.job c.clear-2.ensures.items c.deref-2.ensures.value front (c.in_default-finish.ensures.read job.vertices both limit front.fed front.has_read)

pub returns-in-Err-add_all-clause-calm_devices : goal.returns-in-Err-add_all-clause-calm_devices
returns-in-Err-add_all-clause-calm_devices g c =
    rw c.stopped.ensures (stopped_calm c.in-Err-add_all.fault (λ no_fault. c.in-Err-add_all.ensures.calm no_fault ∙ c.pieces.invariant.calm.1))

pub returns-in-Err-add_all-2-clause-calm_devices : goal.returns-in-Err-add_all-2-clause-calm_devices
returns-in-Err-add_all-2-clause-calm_devices g c =
    rw c.stopped-in-Err-add_all-2.ensures (stopped_calm c.in-Err-add_all-2.fault (λ no_fault. c.in-Err-add_all-2.ensures.calm no_fault ∙ c.pieces.invariant.calm.1))

pub returns-clause-calm : goal.returns-clause-calm
returns-clause-calm g c = λ _. c.in-Ok.ensures.cause.calm ∙ c.pieces.invariant.calm.0

pub returns-clause-calm_devices : goal.returns-clause-calm_devices
returns-clause-calm_devices g c = λ _. c.in_default-add_all-2.ensures.calm (λ is. absurd cc) ∙ c.pieces.invariant.calm.1
