-- The parts of an epoch, put together.
use Rattle.std.proofs.Common.{◌≡◌, ◌⊎◌, List, map, ap, sym, ◌∙◌, inl, inr, subst, arith, ⊎_elim}
use Rattle.std.specs.List.{range_with_len}
use Rattle.std.specs.Prelude.{Vec}
use Rattle.std.specs.Global.{Global}
use Rattle.phase_model.specs.JobTerms.{terms_of}
use Rattle.phase_model.specs.declared.placed.Placed.{Placed}
use Rattle.store_reader.specs.declared.store.Outcome.{Outcome}
use Rattle.store_reader.specs.declared.store.Outcome.TheVariants.{Done, Memory}
use Rattle.store_reader.specs.Indexed.{lens_of}
use Rattle.scatter_epoch.specs.Joining.{IsIndexOf}
use Rattle.scatter_epoch.proofs.Assembling.{ready, tables, are_seats, rooms_still, number_still, made, counts_go_on, rows_go_on, within_places, each_scattered, wide, through, cause, calm, stopped, have_scattered}
use Rattle.scatter_epoch.proofs.Sending.{have_sent}
use Rattle.scatter_epoch.proofs.epoch.scatter_all.Goals as goal

ended_as_lowest : {all one result : Outcome} → one ≡ all → (result ≡ one) ⊎ ((one ≡ Done) × (result ≡ Memory)) → (result ≡ all) ⊎ ((all ≡ Done) × (result ≡ Memory))
ended_as_lowest is ended = ⊎_elim (λ same. inl (same ∙ is)) (λ both. inr (sym is ∙ both.0, both.1)) ended

pub fork_scatter-requires-clause-ready : goal.fork_scatter-requires-clause-ready
fork_scatter-requires-clause-ready g c _ _ =
    ready g.P.VertexProgram.rules g.D.Disk.state g.D.M.Meter.faults c.args.context.now c.deal.new.crew.desks.items c.open_epoch.new.seats.items c.args.meters.now.items c.args.lanes.now.items c.args.crew.now.rooms.items c.deal.ensures.dealt
    (c.deal.ensures.numbers ∙ ap (range_with_len 0) c.requires.meters) c.args.seat.now.view.splits c.open_epoch.ensures.seats
    c.requires.crew.rooms c.deal.ensures.places c.requires.lanes

pub close_epoch-requires-clause-tables : goal.close_epoch-requires-clause-tables
close_epoch-requires-clause-tables g c =
    tables g.P.VertexProgram.rules g.D.Disk.state g.D.M.Meter.faults c.args.context.now c.deal.new.crew.desks.items c.open_epoch.new.seats.items c.args.meters.now.items c.args.lanes.now.items c.args.crew.now.rooms.items c.deal.ensures.dealt
    (c.deal.ensures.numbers ∙ ap (range_with_len 0) c.requires.meters) c.args.seat.now.view.splits c.open_epoch.ensures.seats c.fork_scatter.new.desks.items (omega (arith, c.fork_scatter.ensures.many.0, c.fork_scatter.new.desks.ok.0, c.deal.new.crew.desks.ok.0)) c.fork_scatter.ensures.worked
    c.collect-scattered.new.crew.seats.items c.collect-scattered.new.meters.items c.collect-scattered.new.lanes.items c.collect-scattered.new.crew.rooms.items c.collect-scattered.ensures.dealt

pub index_where_done-requires-clause-within : goal.index_where_done-requires-clause-within
index_where_done-requires-clause-within g c =
    within_places g.P.VertexProgram.rules g.D.Disk.state g.D.M.Meter.faults c.args.context.now c.deal.new.crew.desks.items c.open_epoch.new.seats.items c.args.meters.now.items c.args.lanes.now.items c.args.crew.now.rooms.items c.deal.ensures.dealt
    (c.deal.ensures.numbers ∙ ap (range_with_len 0) c.requires.meters) c.args.seat.now.view.splits c.open_epoch.ensures.seats c.fork_scatter.new.desks.items (omega (arith, c.fork_scatter.ensures.many.0, c.fork_scatter.new.desks.ok.0, c.deal.new.crew.desks.ok.0)) c.fork_scatter.ensures.worked
    c.collect-scattered.new.crew.seats.items c.collect-scattered.new.meters.items c.collect-scattered.new.lanes.items c.collect-scattered.new.crew.rooms.items c.collect-scattered.ensures.dealt
    c.collect-scattered.new.crew.places.items (sym c.collect-scattered.ensures.places) (omega arith) (omega (arith, c.requires.context.serving.split.few))

pub returns-clause-between : goal.returns-clause-between
returns-clause-between g c =
    (c.close_epoch.ensures.ended (terms_of c.args.context.now.serving.job.now) (lens_of c.args.context.now.serving.index.now) c.args.seat.now.view (omega (arith, c.requires.context.serving.job.engines.0)) c.open_epoch.ensures.begun
    (are_seats g.P.VertexProgram.rules g.D.Disk.state g.D.M.Meter.faults c.args.context.now c.deal.new.crew.desks.items c.open_epoch.new.seats.items c.args.meters.now.items c.args.lanes.now.items c.args.crew.now.rooms.items c.deal.ensures.dealt
    (c.deal.ensures.numbers ∙ ap (range_with_len 0) c.requires.meters) c.args.seat.now.view.splits c.open_epoch.ensures.seats c.fork_scatter.new.desks.items (omega (arith, c.fork_scatter.ensures.many.0, c.fork_scatter.new.desks.ok.0, c.deal.new.crew.desks.ok.0)) c.fork_scatter.ensures.worked
    c.collect-scattered.new.crew.seats.items c.collect-scattered.new.meters.items c.collect-scattered.new.lanes.items c.collect-scattered.new.crew.rooms.items c.collect-scattered.ensures.dealt)).between

pub returns-clause-crew : goal.returns-clause-crew
returns-clause-crew g c =
    record {
      many = omega (arith, c.collect-scattered.ensures.many.4, c.fork_scatter.ensures.many.0, c.deal.ensures.many, c.requires.meters);
      rooms = rooms_still g.P.VertexProgram.rules g.D.Disk.state g.D.M.Meter.faults c.args.context.now c.deal.new.crew.desks.items c.open_epoch.new.seats.items c.args.meters.now.items c.args.lanes.now.items c.args.crew.now.rooms.items c.deal.ensures.dealt
          (c.deal.ensures.numbers ∙ ap (range_with_len 0) c.requires.meters) c.args.seat.now.view.splits c.open_epoch.ensures.seats c.fork_scatter.new.desks.items (omega (arith, c.fork_scatter.ensures.many.0, c.fork_scatter.new.desks.ok.0, c.deal.new.crew.desks.ok.0)) c.fork_scatter.ensures.worked
          c.collect-scattered.new.crew.seats.items c.collect-scattered.new.meters.items c.collect-scattered.new.lanes.items c.collect-scattered.new.crew.rooms.items c.collect-scattered.ensures.dealt;
      places = omega (arith, c.collect-scattered.ensures.many.3, c.fork_scatter.ensures.many.0, c.deal.ensures.many, c.requires.meters);
      desks = (c.collect-scattered.ensures.empty, omega (arith, c.collect-scattered.ensures.room.0, c.fork_scatter.ensures.many.1, c.deal.ensures.room.0, c.requires.crew.desks.1));
      seats = (c.close_epoch.ensures.empty, omega (arith, c.close_epoch.ensures.room, c.collect-scattered.ensures.room.1, c.deal.ensures.room.1, c.open_epoch.ensures.room, c.requires.crew.seats.1));
    }

pub returns-clause-meters : goal.returns-clause-meters
returns-clause-meters g c =
    counts_go_on g.P.VertexProgram.rules g.D.Disk.state g.D.M.Meter.faults c.args.context.now c.deal.new.crew.desks.items c.open_epoch.new.seats.items c.args.meters.now.items c.args.lanes.now.items c.args.crew.now.rooms.items c.deal.ensures.dealt
    (c.deal.ensures.numbers ∙ ap (range_with_len 0) c.requires.meters) c.args.seat.now.view.splits c.open_epoch.ensures.seats c.fork_scatter.new.desks.items (omega (arith, c.fork_scatter.ensures.many.0, c.fork_scatter.new.desks.ok.0, c.deal.new.crew.desks.ok.0)) c.fork_scatter.ensures.worked
    c.collect-scattered.new.crew.seats.items c.collect-scattered.new.meters.items c.collect-scattered.new.lanes.items c.collect-scattered.new.crew.rooms.items c.collect-scattered.ensures.dealt

pub returns-clause-lanes : goal.returns-clause-lanes
returns-clause-lanes g c =
    rows_go_on g.P.VertexProgram.rules g.D.Disk.state g.D.M.Meter.faults c.args.context.now c.deal.new.crew.desks.items c.open_epoch.new.seats.items c.args.meters.now.items c.args.lanes.now.items c.args.crew.now.rooms.items c.deal.ensures.dealt
    (c.deal.ensures.numbers ∙ ap (range_with_len 0) c.requires.meters) c.args.seat.now.view.splits c.open_epoch.ensures.seats c.fork_scatter.new.desks.items (omega (arith, c.fork_scatter.ensures.many.0, c.fork_scatter.new.desks.ok.0, c.deal.new.crew.desks.ok.0)) c.fork_scatter.ensures.worked
    c.collect-scattered.new.crew.seats.items c.collect-scattered.new.meters.items c.collect-scattered.new.lanes.items c.collect-scattered.new.crew.rooms.items c.collect-scattered.ensures.dealt

pub returns-clause-few : goal.returns-clause-few
returns-clause-few g c =
    let seats_are = are_seats g.P.VertexProgram.rules g.D.Disk.state g.D.M.Meter.faults c.args.context.now c.deal.new.crew.desks.items c.open_epoch.new.seats.items c.args.meters.now.items c.args.lanes.now.items c.args.crew.now.rooms.items c.deal.ensures.dealt
    (c.deal.ensures.numbers ∙ ap (range_with_len 0) c.requires.meters) c.args.seat.now.view.splits c.open_epoch.ensures.seats c.fork_scatter.new.desks.items (omega (arith, c.fork_scatter.ensures.many.0, c.fork_scatter.new.desks.ok.0, c.deal.new.crew.desks.ok.0)) c.fork_scatter.ensures.worked
    c.collect-scattered.new.crew.seats.items c.collect-scattered.new.meters.items c.collect-scattered.new.lanes.items c.collect-scattered.new.crew.rooms.items c.collect-scattered.ensures.dealt in
    let ended = c.close_epoch.ensures.ended (terms_of c.args.context.now.serving.job.now) (lens_of c.args.context.now.serving.index.now) c.args.seat.now.view (omega (arith, c.requires.context.serving.job.engines.0)) c.open_epoch.ensures.begun seats_are in
    (made g.P.VertexProgram.rules g.D.Disk.state g.D.M.Meter.faults c.args.context.now c.deal.new.crew.desks.items c.open_epoch.new.seats.items c.args.meters.now.items c.args.lanes.now.items c.args.crew.now.rooms.items c.deal.ensures.dealt
    (c.deal.ensures.numbers ∙ ap (range_with_len 0) c.requires.meters) c.args.seat.now.view.splits c.open_epoch.ensures.seats c.fork_scatter.new.desks.items (omega (arith, c.fork_scatter.ensures.many.0, c.fork_scatter.new.desks.ok.0, c.deal.new.crew.desks.ok.0)) c.fork_scatter.ensures.worked
    c.collect-scattered.new.crew.seats.items c.collect-scattered.new.meters.items c.collect-scattered.new.lanes.items c.collect-scattered.new.crew.rooms.items c.collect-scattered.ensures.dealt
    (omega (arith, c.requires.context.serving.job.engines.1)) (omega (arith, c.requires.context.serving.job.few_parts)) c.requires.context.serving.few c.args.seat.now.view c.close_epoch.new.seat.view ended
    c.collect-scattered.result.claims c.collect-scattered.result.admitted c.collect-scattered.ensures.claims c.collect-scattered.ensures.admitted).few

pub returns-clause-cause : goal.returns-clause-cause
returns-clause-cause g c fault =
    cause g.P.VertexProgram.rules g.D.Disk.state g.D.M.Meter.faults c.args.context.now c.deal.new.crew.desks.items c.open_epoch.new.seats.items c.args.meters.now.items c.args.lanes.now.items c.args.crew.now.rooms.items c.deal.ensures.dealt
    (c.deal.ensures.numbers ∙ ap (range_with_len 0) c.requires.meters) c.args.seat.now.view.splits c.open_epoch.ensures.seats c.fork_scatter.new.desks.items (omega (arith, c.fork_scatter.ensures.many.0, c.fork_scatter.new.desks.ok.0, c.deal.new.crew.desks.ok.0)) c.fork_scatter.ensures.worked
    c.collect-scattered.new.crew.seats.items c.collect-scattered.new.meters.items c.collect-scattered.new.lanes.items c.collect-scattered.new.crew.rooms.items c.collect-scattered.ensures.dealt
    (record { outcome = c.index_where_done.result; claims = c.collect-scattered.result.claims; admitted = c.collect-scattered.result.admitted }) c.index_where_done.new.updates (ended_as_lowest c.collect-scattered.ensures.outcome c.index_where_done.ensures.outcome) fault

pub returns-clause-calm : goal.returns-clause-calm
returns-clause-calm g c is =
    calm g.P.VertexProgram.rules g.D.Disk.state g.D.M.Meter.faults c.args.context.now c.deal.new.crew.desks.items c.open_epoch.new.seats.items c.args.meters.now.items c.args.lanes.now.items c.args.crew.now.rooms.items c.deal.ensures.dealt
    (c.deal.ensures.numbers ∙ ap (range_with_len 0) c.requires.meters) c.args.seat.now.view.splits c.open_epoch.ensures.seats c.fork_scatter.new.desks.items (omega (arith, c.fork_scatter.ensures.many.0, c.fork_scatter.new.desks.ok.0, c.deal.new.crew.desks.ok.0)) c.fork_scatter.ensures.worked
    c.collect-scattered.new.crew.seats.items c.collect-scattered.new.meters.items c.collect-scattered.new.lanes.items c.collect-scattered.new.crew.rooms.items c.collect-scattered.ensures.dealt
    (record { outcome = c.index_where_done.result; claims = c.collect-scattered.result.claims; admitted = c.collect-scattered.result.admitted }) c.index_where_done.new.updates (ended_as_lowest c.collect-scattered.ensures.outcome c.index_where_done.ensures.outcome) is

pub returns-clause-stopped : goal.returns-clause-stopped
returns-clause-stopped g c not =
    stopped g.P.VertexProgram.rules g.D.Disk.state g.D.M.Meter.faults c.args.context.now c.deal.new.crew.desks.items c.open_epoch.new.seats.items c.args.meters.now.items c.args.lanes.now.items c.args.crew.now.rooms.items c.deal.ensures.dealt
    (c.deal.ensures.numbers ∙ ap (range_with_len 0) c.requires.meters) c.args.seat.now.view.splits c.open_epoch.ensures.seats c.fork_scatter.new.desks.items (omega (arith, c.fork_scatter.ensures.many.0, c.fork_scatter.new.desks.ok.0, c.deal.new.crew.desks.ok.0)) c.fork_scatter.ensures.worked
    c.collect-scattered.new.crew.seats.items c.collect-scattered.new.meters.items c.collect-scattered.new.lanes.items c.collect-scattered.new.crew.rooms.items c.collect-scattered.ensures.dealt
    (record { outcome = c.index_where_done.result; claims = c.collect-scattered.result.claims; admitted = c.collect-scattered.result.admitted }) c.index_where_done.new.updates (ended_as_lowest c.collect-scattered.ensures.outcome c.index_where_done.ensures.outcome) not

pub returns-clause-scattered : goal.returns-clause-scattered
returns-clause-scattered g c =
    let seats_are = are_seats g.P.VertexProgram.rules g.D.Disk.state g.D.M.Meter.faults c.args.context.now c.deal.new.crew.desks.items c.open_epoch.new.seats.items c.args.meters.now.items c.args.lanes.now.items c.args.crew.now.rooms.items c.deal.ensures.dealt
    (c.deal.ensures.numbers ∙ ap (range_with_len 0) c.requires.meters) c.args.seat.now.view.splits c.open_epoch.ensures.seats c.fork_scatter.new.desks.items (omega (arith, c.fork_scatter.ensures.many.0, c.fork_scatter.new.desks.ok.0, c.deal.new.crew.desks.ok.0)) c.fork_scatter.ensures.worked
    c.collect-scattered.new.crew.seats.items c.collect-scattered.new.meters.items c.collect-scattered.new.lanes.items c.collect-scattered.new.crew.rooms.items c.collect-scattered.ensures.dealt in
    let ended = c.close_epoch.ensures.ended (terms_of c.args.context.now.serving.job.now) (lens_of c.args.context.now.serving.index.now) c.args.seat.now.view (omega (arith, c.requires.context.serving.job.engines.0)) c.open_epoch.ensures.begun seats_are in
    let is_made = made g.P.VertexProgram.rules g.D.Disk.state g.D.M.Meter.faults c.args.context.now c.deal.new.crew.desks.items c.open_epoch.new.seats.items c.args.meters.now.items c.args.lanes.now.items c.args.crew.now.rooms.items c.deal.ensures.dealt
    (c.deal.ensures.numbers ∙ ap (range_with_len 0) c.requires.meters) c.args.seat.now.view.splits c.open_epoch.ensures.seats c.fork_scatter.new.desks.items (omega (arith, c.fork_scatter.ensures.many.0, c.fork_scatter.new.desks.ok.0, c.deal.new.crew.desks.ok.0)) c.fork_scatter.ensures.worked
    c.collect-scattered.new.crew.seats.items c.collect-scattered.new.meters.items c.collect-scattered.new.lanes.items c.collect-scattered.new.crew.rooms.items c.collect-scattered.ensures.dealt
    (omega (arith, c.requires.context.serving.job.engines.1)) (omega (arith, c.requires.context.serving.job.few_parts)) c.requires.context.serving.few c.args.seat.now.view c.close_epoch.new.seat.view ended
    c.collect-scattered.result.claims c.collect-scattered.result.admitted c.collect-scattered.ensures.claims c.collect-scattered.ensures.admitted in
    have_scattered g.P.VertexProgram.rules g.D.Disk.state g.D.M.Meter.faults c.args.context.now c.deal.new.crew.desks.items c.open_epoch.new.seats.items c.args.meters.now.items c.args.lanes.now.items c.args.crew.now.rooms.items c.deal.ensures.dealt
    (c.deal.ensures.numbers ∙ ap (range_with_len 0) c.requires.meters) c.args.seat.now.view.splits c.open_epoch.ensures.seats c.fork_scatter.new.desks.items (omega (arith, c.fork_scatter.ensures.many.0, c.fork_scatter.new.desks.ok.0, c.deal.new.crew.desks.ok.0)) c.fork_scatter.ensures.worked
    c.collect-scattered.new.crew.seats.items c.collect-scattered.new.meters.items c.collect-scattered.new.lanes.items c.collect-scattered.new.crew.rooms.items c.collect-scattered.ensures.dealt
    (record { outcome = c.index_where_done.result; claims = c.collect-scattered.result.claims; admitted = c.collect-scattered.result.admitted }) c.index_where_done.new.updates (ended_as_lowest c.collect-scattered.ensures.outcome c.index_where_done.ensures.outcome)
    c.args.seat.now.view c.close_epoch.new.seat.view is_made
    (λ is. have_sent g.P.VertexProgram.rules g.D.Disk.state c.args.context.now c.requires.context c.fork_scatter.new.desks.items
    (each_scattered g.P.VertexProgram.rules g.D.Disk.state g.D.M.Meter.faults c.args.context.now c.deal.new.crew.desks.items c.open_epoch.new.seats.items c.args.meters.now.items c.args.lanes.now.items c.args.crew.now.rooms.items c.deal.ensures.dealt
    (c.deal.ensures.numbers ∙ ap (range_with_len 0) c.requires.meters) c.args.seat.now.view.splits c.open_epoch.ensures.seats c.fork_scatter.new.desks.items (omega (arith, c.fork_scatter.ensures.many.0, c.fork_scatter.new.desks.ok.0, c.deal.new.crew.desks.ok.0)) c.fork_scatter.ensures.worked
    c.collect-scattered.new.crew.seats.items c.collect-scattered.new.meters.items c.collect-scattered.new.lanes.items c.collect-scattered.new.crew.rooms.items c.collect-scattered.ensures.dealt
    (through g.P.VertexProgram.rules g.D.Disk.state g.D.M.Meter.faults c.args.context.now c.deal.new.crew.desks.items c.open_epoch.new.seats.items c.args.meters.now.items c.args.lanes.now.items c.args.crew.now.rooms.items c.deal.ensures.dealt
    (c.deal.ensures.numbers ∙ ap (range_with_len 0) c.requires.meters) c.args.seat.now.view.splits c.open_epoch.ensures.seats c.fork_scatter.new.desks.items (omega (arith, c.fork_scatter.ensures.many.0, c.fork_scatter.new.desks.ok.0, c.deal.new.crew.desks.ok.0)) c.fork_scatter.ensures.worked
    c.collect-scattered.new.crew.seats.items c.collect-scattered.new.meters.items c.collect-scattered.new.lanes.items c.collect-scattered.new.crew.rooms.items c.collect-scattered.ensures.dealt
    (record { outcome = c.index_where_done.result; claims = c.collect-scattered.result.claims; admitted = c.collect-scattered.result.admitted }) c.index_where_done.new.updates (ended_as_lowest c.collect-scattered.ensures.outcome c.index_where_done.ensures.outcome) is))
    (number_still g.P.VertexProgram.rules g.D.Disk.state g.D.M.Meter.faults c.args.context.now c.deal.new.crew.desks.items c.open_epoch.new.seats.items c.args.meters.now.items c.args.lanes.now.items c.args.crew.now.rooms.items c.deal.ensures.dealt
    (c.deal.ensures.numbers ∙ ap (range_with_len 0) c.requires.meters) c.args.seat.now.view.splits c.open_epoch.ensures.seats c.fork_scatter.new.desks.items (omega (arith, c.fork_scatter.ensures.many.0, c.fork_scatter.new.desks.ok.0, c.deal.new.crew.desks.ok.0)) c.fork_scatter.ensures.worked
    c.collect-scattered.new.crew.seats.items c.collect-scattered.new.meters.items c.collect-scattered.new.lanes.items c.collect-scattered.new.crew.rooms.items c.collect-scattered.ensures.dealt)
    (omega (arith, c.fork_scatter.ensures.many.0, c.fork_scatter.new.desks.ok.0, c.deal.ensures.many, c.requires.meters))
    c.collect-scattered.new.lanes.items c.collect-scattered.ensures.dealt.lanes_are
    (wide g.P.VertexProgram.rules g.D.Disk.state g.D.M.Meter.faults c.args.context.now c.deal.new.crew.desks.items c.open_epoch.new.seats.items c.args.meters.now.items c.args.lanes.now.items c.args.crew.now.rooms.items c.deal.ensures.dealt
    (c.deal.ensures.numbers ∙ ap (range_with_len 0) c.requires.meters) c.args.seat.now.view.splits c.open_epoch.ensures.seats c.fork_scatter.new.desks.items (omega (arith, c.fork_scatter.ensures.many.0, c.fork_scatter.new.desks.ok.0, c.deal.new.crew.desks.ok.0)) c.fork_scatter.ensures.worked
    c.collect-scattered.new.crew.seats.items c.collect-scattered.new.meters.items c.collect-scattered.new.lanes.items c.collect-scattered.new.crew.rooms.items c.collect-scattered.ensures.dealt
    c.requires.lanes)
    c.index_where_done.new.updates
    (subst (λ (places : List (Vec Placed Global)). IsIndexOf (map (λ (own : Vec Placed Global). own.items) places) c.index_where_done.new.updates) c.collect-scattered.ensures.places (c.index_where_done.ensures.index is))
    c.collect-scattered.new.crew.seats.items c.collect-scattered.ensures.dealt.seats_are)
