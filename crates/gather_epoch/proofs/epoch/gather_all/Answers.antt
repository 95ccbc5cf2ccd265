use Rattle.std.proofs.Common.{ap, sym, ◌∙◌, inr, subst, arith}
use Rattle.std.specs.List.{range_with_len}
use Rattle.phase_model.specs.JobTerms.{terms_of}
use Rattle.store_reader.specs.Indexed.{lens_of}
use Rattle.gather_phase.specs.Phases.{MayStopBy}
use Rattle.gather_epoch.proofs.Assembling.{ready, tables, are_seats, splits', beats', rooms_still, made, goes_on, rose_of, none_rose, stopped_by, have_gathered, emptied_steps, emptied_early, emptied_size, emptied_calm}
use Rattle.gather_epoch.proofs.epoch.gather_all.Goals as goal

pub fork_gather-requires-clause-ready : goal.fork_gather-requires-clause-ready
fork_gather-requires-clause-ready g c _ _ =
    let lent = c.deref_mut.ensures.value in
    ready g.P.VertexProgram.rules g.D.Disk.state g.D.M.Meter.faults c.args.context.now c.deal.new.crew.desks.items c.open_epoch.new.seats.items c.args.meters.now.items c.args.replicas.now.items _ c.args.crew.now.rooms.items c.deal.ensures.dealt
    (c.deal.ensures.numbers ∙ ap (range_with_len 0) c.requires.meters) c.args.seat.now.view.splits c.open_epoch.ensures.seats c.requires.replicas.1 c.requires.crew.rooms
    (emptied_size g.D.Disk.state c.args.context.now.beat.now c.args.spills.now c.deref_mut.result.now c.cut_all.new.disks lent c.cut_all.ensures.each c.in_default.ensures.empty)
    (emptied_early g.D.Disk.state c.args.context.now.beat.now c.args.spills.now c.deref_mut.result.now c.cut_all.new.disks lent c.cut_all.ensures.each c.requires.spills.1)

pub close_epoch-requires-clause-tables : goal.close_epoch-requires-clause-tables
close_epoch-requires-clause-tables g c =
    tables g.P.VertexProgram.rules g.D.Disk.state g.D.M.Meter.faults c.args.context.now c.deal.new.crew.desks.items c.open_epoch.new.seats.items c.args.meters.now.items c.args.replicas.now.items _ c.args.crew.now.rooms.items c.deal.ensures.dealt
    (c.deal.ensures.numbers ∙ ap (range_with_len 0) c.requires.meters) c.args.seat.now.view.splits c.open_epoch.ensures.seats c.fork_gather.new.desks.items (omega (arith, c.fork_gather.ensures.many.0, c.fork_gather.new.desks.ok.0, c.deal.new.crew.desks.ok.0)) c.fork_gather.ensures.worked
    _ _ _ _ _ c.collect-gathered.ensures.dealt

pub returns-clause-between : goal.returns-clause-between
returns-clause-between g c =
    (c.close_epoch.ensures.ended (terms_of c.args.context.now.serving.job.now) (lens_of c.args.context.now.serving.index.now) c.args.seat.now.view (omega arith) c.open_epoch.ensures.begun
    (are_seats g.P.VertexProgram.rules g.D.Disk.state g.D.M.Meter.faults c.args.context.now c.deal.new.crew.desks.items c.open_epoch.new.seats.items c.args.meters.now.items c.args.replicas.now.items _ c.args.crew.now.rooms.items c.deal.ensures.dealt
    (c.deal.ensures.numbers ∙ ap (range_with_len 0) c.requires.meters) c.args.seat.now.view.splits c.open_epoch.ensures.seats c.fork_gather.new.desks.items (omega (arith, c.fork_gather.ensures.many.0, c.fork_gather.new.desks.ok.0, c.deal.new.crew.desks.ok.0)) c.fork_gather.ensures.worked
    _ _ _ _ _ c.collect-gathered.ensures.dealt)).between

pub returns-clause-crew : goal.returns-clause-crew
returns-clause-crew g c =
    record {
      many = omega (arith, c.collect-gathered.ensures.many.4, c.fork_gather.ensures.many.0, c.deal.ensures.many, c.requires.meters);
      rooms = rooms_still g.P.VertexProgram.rules g.D.Disk.state g.D.M.Meter.faults c.args.context.now c.deal.new.crew.desks.items c.open_epoch.new.seats.items c.args.meters.now.items c.args.replicas.now.items _ c.args.crew.now.rooms.items c.deal.ensures.dealt
          (c.deal.ensures.numbers ∙ ap (range_with_len 0) c.requires.meters) c.args.seat.now.view.splits c.open_epoch.ensures.seats c.fork_gather.new.desks.items (omega (arith, c.fork_gather.ensures.many.0, c.fork_gather.new.desks.ok.0, c.deal.new.crew.desks.ok.0)) c.fork_gather.ensures.worked
          _ _ _ _ _ c.collect-gathered.ensures.dealt;
      desks = (c.collect-gathered.ensures.empty, omega (arith, c.collect-gathered.ensures.room.0, c.fork_gather.ensures.many.1, c.deal.ensures.room.0, c.requires.crew.desks.1));
      seats = (c.close_epoch.ensures.empty, omega (arith, c.close_epoch.ensures.room, c.collect-gathered.ensures.room.1, c.deal.ensures.room.1, c.open_epoch.ensures.room, c.requires.crew.seats.1));
    }

pub returns-clause-replicas : goal.returns-clause-replicas
returns-clause-replicas g c = (
  omega (arith, c.collect-gathered.ensures.many.2, c.fork_gather.ensures.many.0, c.deal.ensures.many, c.requires.meters, c.requires.replicas.0),
  splits' g.P.VertexProgram.rules g.D.Disk.state g.D.M.Meter.faults c.args.context.now c.deal.new.crew.desks.items c.open_epoch.new.seats.items c.args.meters.now.items c.args.replicas.now.items _ c.args.crew.now.rooms.items c.deal.ensures.dealt
      (c.deal.ensures.numbers ∙ ap (range_with_len 0) c.requires.meters) c.args.seat.now.view.splits c.open_epoch.ensures.seats c.fork_gather.new.desks.items (omega (arith, c.fork_gather.ensures.many.0, c.fork_gather.new.desks.ok.0, c.deal.new.crew.desks.ok.0)) c.fork_gather.ensures.worked
      _ _ _ _ _ c.collect-gathered.ensures.dealt,
)

pub returns-clause-spills : goal.returns-clause-spills
returns-clause-spills g c = (
  omega (arith, c.collect-gathered.ensures.many.3, c.fork_gather.ensures.many.0, c.deal.ensures.many, c.requires.meters, c.requires.spills.0),
  beats' g.P.VertexProgram.rules g.D.Disk.state g.D.M.Meter.faults c.args.context.now c.deal.new.crew.desks.items c.open_epoch.new.seats.items c.args.meters.now.items c.args.replicas.now.items _ c.args.crew.now.rooms.items c.deal.ensures.dealt
      (c.deal.ensures.numbers ∙ ap (range_with_len 0) c.requires.meters) c.args.seat.now.view.splits c.open_epoch.ensures.seats c.fork_gather.new.desks.items (omega (arith, c.fork_gather.ensures.many.0, c.fork_gather.new.desks.ok.0, c.deal.new.crew.desks.ok.0)) c.fork_gather.ensures.worked
      _ _ _ _ _ c.collect-gathered.ensures.dealt,
)

pub returns-clause-goes_on : goal.returns-clause-goes_on
returns-clause-goes_on g c w m d below =
    goes_on g.P.VertexProgram.rules g.D.Disk.state g.D.M.Meter.faults c.args.context.now c.deal.new.crew.desks.items c.open_epoch.new.seats.items c.args.meters.now.items c.args.replicas.now.items _ c.args.crew.now.rooms.items c.deal.ensures.dealt
    (c.deal.ensures.numbers ∙ ap (range_with_len 0) c.requires.meters) c.args.seat.now.view.splits c.open_epoch.ensures.seats c.fork_gather.new.desks.items (omega (arith, c.fork_gather.ensures.many.0, c.fork_gather.new.desks.ok.0, c.deal.new.crew.desks.ok.0)) c.fork_gather.ensures.worked
    _ _ _ _ _ c.collect-gathered.ensures.dealt c.args.spills.now.items
    (emptied_steps g.D.Disk.state c.args.context.now.beat.now c.args.spills.now c.deref_mut.result.now c.cut_all.new.disks c.deref_mut.ensures.value c.cut_all.ensures.each) (omega (arith, c.requires.spills.0, c.args.spills.now.ok.0)) w below m d

pub returns-clause-cause : goal.returns-clause-cause
returns-clause-cause g c fault =
    rose_of g.P.VertexProgram.rules g.D.Disk.state g.D.M.Meter.faults c.args.context.now c.deal.new.crew.desks.items c.open_epoch.new.seats.items c.args.meters.now.items c.args.replicas.now.items _ c.args.crew.now.rooms.items c.deal.ensures.dealt
    (c.deal.ensures.numbers ∙ ap (range_with_len 0) c.requires.meters) c.args.seat.now.view.splits c.open_epoch.ensures.seats c.fork_gather.new.desks.items (omega (arith, c.fork_gather.ensures.many.0, c.fork_gather.new.desks.ok.0, c.deal.new.crew.desks.ok.0)) c.fork_gather.ensures.worked
    _ _ _ _ _ c.collect-gathered.ensures.dealt c.args.spills.now.items
    (emptied_steps g.D.Disk.state c.args.context.now.beat.now c.args.spills.now c.deref_mut.result.now c.cut_all.new.disks c.deref_mut.ensures.value c.cut_all.ensures.each) (omega (arith, c.requires.spills.0, c.args.spills.now.ok.0))
    (sym c.collect-gathered.ensures.outcome ∙ fault)

pub returns-clause-calm : goal.returns-clause-calm
returns-clause-calm g c through =
    none_rose g.P.VertexProgram.rules g.D.Disk.state g.D.M.Meter.faults c.args.context.now c.deal.new.crew.desks.items c.open_epoch.new.seats.items c.args.meters.now.items c.args.replicas.now.items _ c.args.crew.now.rooms.items c.deal.ensures.dealt
    (c.deal.ensures.numbers ∙ ap (range_with_len 0) c.requires.meters) c.args.seat.now.view.splits c.open_epoch.ensures.seats c.fork_gather.new.desks.items (omega (arith, c.fork_gather.ensures.many.0, c.fork_gather.new.desks.ok.0, c.deal.new.crew.desks.ok.0)) c.fork_gather.ensures.worked
    _ _ _ _ _ c.collect-gathered.ensures.dealt c.args.spills.now.items
    (emptied_steps g.D.Disk.state c.args.context.now.beat.now c.args.spills.now c.deref_mut.result.now c.cut_all.new.disks c.deref_mut.ensures.value c.cut_all.ensures.each) (omega (arith, c.requires.spills.0, c.args.spills.now.ok.0))
    (sym c.collect-gathered.ensures.outcome ∙ through)
    (emptied_calm g.D.Disk.state c.args.context.now.beat.now c.args.spills.now c.deref_mut.result.now c.cut_all.new.disks c.deref_mut.ensures.value c.cut_all.ensures.each c.in_default.ensures.calm)

pub returns-clause-stopped : goal.returns-clause-stopped
returns-clause-stopped g c not =
    subst (MayStopBy g.P.VertexProgram.rules g.D.Disk.state c.args.context.now) (sym c.collect-gathered.ensures.outcome)
    (stopped_by g.P.VertexProgram.rules g.D.Disk.state g.D.M.Meter.faults c.args.context.now c.deal.new.crew.desks.items c.open_epoch.new.seats.items c.args.meters.now.items c.args.replicas.now.items _ c.args.crew.now.rooms.items c.deal.ensures.dealt
    (c.deal.ensures.numbers ∙ ap (range_with_len 0) c.requires.meters) c.args.seat.now.view.splits c.open_epoch.ensures.seats c.fork_gather.new.desks.items (omega (arith, c.fork_gather.ensures.many.0, c.fork_gather.new.desks.ok.0, c.deal.new.crew.desks.ok.0)) c.fork_gather.ensures.worked
    _ _ _ _ _ c.collect-gathered.ensures.dealt c.args.spills.now.items
    (emptied_steps g.D.Disk.state c.args.context.now.beat.now c.args.spills.now c.deref_mut.result.now c.cut_all.new.disks c.deref_mut.ensures.value c.cut_all.ensures.each) (omega (arith, c.requires.spills.0, c.args.spills.now.ok.0))
    (λ done. not (c.collect-gathered.ensures.outcome ∙ done)))

pub returns-clause-few : goal.returns-clause-few
returns-clause-few g c =
    let ended = (c.close_epoch.ensures.ended (terms_of c.args.context.now.serving.job.now) (lens_of c.args.context.now.serving.index.now) c.args.seat.now.view (omega arith) c.open_epoch.ensures.begun
    (are_seats g.P.VertexProgram.rules g.D.Disk.state g.D.M.Meter.faults c.args.context.now c.deal.new.crew.desks.items c.open_epoch.new.seats.items c.args.meters.now.items c.args.replicas.now.items _ c.args.crew.now.rooms.items c.deal.ensures.dealt
    (c.deal.ensures.numbers ∙ ap (range_with_len 0) c.requires.meters) c.args.seat.now.view.splits c.open_epoch.ensures.seats c.fork_gather.new.desks.items (omega (arith, c.fork_gather.ensures.many.0, c.fork_gather.new.desks.ok.0, c.deal.new.crew.desks.ok.0)) c.fork_gather.ensures.worked
    _ _ _ _ _ c.collect-gathered.ensures.dealt)) in
    (made g.P.VertexProgram.rules g.D.Disk.state g.D.M.Meter.faults c.args.context.now c.deal.new.crew.desks.items c.open_epoch.new.seats.items c.args.meters.now.items c.args.replicas.now.items _ c.args.crew.now.rooms.items c.deal.ensures.dealt
    (c.deal.ensures.numbers ∙ ap (range_with_len 0) c.requires.meters) c.args.seat.now.view.splits c.open_epoch.ensures.seats c.fork_gather.new.desks.items (omega (arith, c.fork_gather.ensures.many.0, c.fork_gather.new.desks.ok.0, c.deal.new.crew.desks.ok.0)) c.fork_gather.ensures.worked
    _ _ _ _ _ c.collect-gathered.ensures.dealt
    (omega arith) (omega (arith, c.requires.serving.job.few_parts)) c.requires.serving.few c.args.seat.now.view c.close_epoch.new.seat.view ended c.collect-gathered.result c.collect-gathered.ensures.outcome c.collect-gathered.ensures.claims c.collect-gathered.ensures.admitted).few

pub returns-clause-gathered : goal.returns-clause-gathered
returns-clause-gathered g c =
    let ended = (c.close_epoch.ensures.ended (terms_of c.args.context.now.serving.job.now) (lens_of c.args.context.now.serving.index.now) c.args.seat.now.view (omega arith) c.open_epoch.ensures.begun
    (are_seats g.P.VertexProgram.rules g.D.Disk.state g.D.M.Meter.faults c.args.context.now c.deal.new.crew.desks.items c.open_epoch.new.seats.items c.args.meters.now.items c.args.replicas.now.items _ c.args.crew.now.rooms.items c.deal.ensures.dealt
    (c.deal.ensures.numbers ∙ ap (range_with_len 0) c.requires.meters) c.args.seat.now.view.splits c.open_epoch.ensures.seats c.fork_gather.new.desks.items (omega (arith, c.fork_gather.ensures.many.0, c.fork_gather.new.desks.ok.0, c.deal.new.crew.desks.ok.0)) c.fork_gather.ensures.worked
    _ _ _ _ _ c.collect-gathered.ensures.dealt)) in
    inr (have_gathered g.P.VertexProgram.rules g.D.Disk.state g.D.M.Meter.faults c.args.context.now c.deal.new.crew.desks.items c.open_epoch.new.seats.items c.args.meters.now.items c.args.replicas.now.items _ c.args.crew.now.rooms.items c.deal.ensures.dealt
    (c.deal.ensures.numbers ∙ ap (range_with_len 0) c.requires.meters) c.args.seat.now.view.splits c.open_epoch.ensures.seats c.fork_gather.new.desks.items (omega (arith, c.fork_gather.ensures.many.0, c.fork_gather.new.desks.ok.0, c.deal.new.crew.desks.ok.0)) c.fork_gather.ensures.worked
    _ _ _ _ _ c.collect-gathered.ensures.dealt c.args.spills.now.items
    (emptied_steps g.D.Disk.state c.args.context.now.beat.now c.args.spills.now c.deref_mut.result.now c.cut_all.new.disks c.deref_mut.ensures.value c.cut_all.ensures.each) (omega (arith, c.requires.spills.0, c.args.spills.now.ok.0))
    c.args.seat.now.view c.close_epoch.new.seat.view c.collect-gathered.result c.collect-gathered.ensures.outcome
    (made g.P.VertexProgram.rules g.D.Disk.state g.D.M.Meter.faults c.args.context.now c.deal.new.crew.desks.items c.open_epoch.new.seats.items c.args.meters.now.items c.args.replicas.now.items _ c.args.crew.now.rooms.items c.deal.ensures.dealt
    (c.deal.ensures.numbers ∙ ap (range_with_len 0) c.requires.meters) c.args.seat.now.view.splits c.open_epoch.ensures.seats c.fork_gather.new.desks.items (omega (arith, c.fork_gather.ensures.many.0, c.fork_gather.new.desks.ok.0, c.deal.new.crew.desks.ok.0)) c.fork_gather.ensures.worked
    _ _ _ _ _ c.collect-gathered.ensures.dealt
    (omega arith) (omega (arith, c.requires.serving.job.few_parts)) c.requires.serving.few c.args.seat.now.view c.close_epoch.new.seat.view ended c.collect-gathered.result c.collect-gathered.ensures.outcome c.collect-gathered.ensures.claims c.collect-gathered.ensures.admitted))
