-- The clauses of `gather_all` on a context that counts, and what the law on counted edges makes of them.
use Rattle.std.proofs.Common.{refl, ◌∙◌, ap, arith}
use Rattle.epoch_laws.specs.Phases.{edge_shelf}
use Rattle.round_steps.proofs.Counts.{meters_go_on, spills_go_on, rose_of_one, bytes_of, tell_still}
use Rattle.round_steps.proofs.Damage.{counts_names}
use Rattle.round_steps.proofs.Begun.{counts_soundly, counts_epochs, is_begun}
use Rattle.round_steps.proofs.Gathered.{all_within, counts_merge}
use Rattle.round_steps.proofs.epochs.count_edges.Goals as goal

pub returns-clause-spills : goal.returns-clause-spills
returns-clause-spills g c =
    spills_go_on g.D.Disk.state g.D.M.Meter.faults c.args.run.now.job.now.engines c.args.meters.now.items c.gather_all.new.meters.items c.args.spills.now.items c.gather_all.new.spills.items c.args.beat.now
    (omega arith) (omega arith) (omega arith) c.gather_all.ensures.spills.1 c.gather_all.ensures.goes_on

pub returns-clause-meters : goal.returns-clause-meters
returns-clause-meters g c =
    meters_go_on g.D.Disk.state g.D.M.Meter.faults c.args.run.now.job.now.engines c.args.meters.now.items c.gather_all.new.meters.items c.args.spills.now.items c.gather_all.new.spills.items
    (omega arith) (omega arith) (omega arith) c.gather_all.ensures.goes_on

pub returns-clause-cause : goal.returns-clause-cause
returns-clause-cause g c = λ fault.
    rose_of_one g.D.Disk.state g.D.M.Meter.faults c.args.run.now.job.now.engines c.args.meters.now.items c.gather_all.new.meters.items c.args.spills.now.items c.gather_all.new.spills.items
    (omega arith) (omega arith) (omega arith) (omega arith) (c.gather_all.ensures.cause fault)

pub returns-clause-sound : goal.returns-clause-sound
returns-clause-sound g c = λ records stand.
    counts_soundly g.P.VertexProgram.rules g.D.Disk.state g.D.M.Meter.faults _ c.args.seat.now.view c.gather_all.new.seat.view c.args.meters.now.items c.gather_all.new.meters.items c.args.spills.now.items c.gather_all.new.spills.items c.gather_all.new.replicas.items
    c.gather_all.result c.gather_all.ensures.gathered c.gather_all.ensures.stopped refl records stand

pub returns-clause-damaged : goal.returns-clause-damaged
returns-clause-damaged g c =
    counts_names g.P.VertexProgram.rules g.D.Disk.state g.D.M.Meter.faults _ c.args.seat.now.view c.gather_all.new.seat.view c.args.meters.now.items c.gather_all.new.meters.items c.args.spills.now.items c.gather_all.new.spills.items c.gather_all.new.replicas.items
    c.gather_all.result c.gather_all.ensures.gathered c.gather_all.ensures.stopped refl c.args.graphs.now (λ engine lane. refl)

pub returns-clause-epochs : goal.returns-clause-epochs
returns-clause-epochs g c =
    counts_epochs g.P.VertexProgram.rules g.D.Disk.state g.D.M.Meter.faults _ c.args.seat.now.view c.gather_all.new.seat.view c.args.meters.now.items c.gather_all.new.meters.items c.args.spills.now.items c.gather_all.new.spills.items c.gather_all.new.replicas.items
    c.gather_all.result c.requires.between c.requires.few c.gather_all.ensures.gathered

pub returns-clause-within : goal.returns-clause-within
returns-clause-within g c = λ done.
    let have = is_begun g.P.VertexProgram.rules g.D.Disk.state g.D.M.Meter.faults _ c.args.seat.now.view c.gather_all.new.seat.view c.args.meters.now.items c.gather_all.new.meters.items c.args.spills.now.items c.gather_all.new.spills.items
    c.gather_all.new.replicas.items c.gather_all.result done c.gather_all.ensures.gathered in
    all_within g.P.VertexProgram.rules g.D.Disk.state g.D.M.Meter.faults _ c.args.seat.now.view c.gather_all.new.seat.view c.args.meters.now.items c.gather_all.new.meters.items c.args.spills.now.items c.gather_all.new.spills.items c.gather_all.new.replicas.items
    c.gather_all.result c.outcome_is_of_a_worker.ensures.done (omega arith) have done (omega arith)

pub returns-clause-counted : goal.returns-clause-counted
returns-clause-counted g c = λ done counts edges has tell.
    let have = is_begun g.P.VertexProgram.rules g.D.Disk.state g.D.M.Meter.faults _ c.args.seat.now.view c.gather_all.new.seat.view c.args.meters.now.items c.gather_all.new.meters.items c.args.spills.now.items c.gather_all.new.spills.items
    c.gather_all.new.replicas.items c.gather_all.result done c.gather_all.ensures.gathered in
    let goes_on =
    spills_go_on g.D.Disk.state g.D.M.Meter.faults c.args.run.now.job.now.engines c.args.meters.now.items c.gather_all.new.meters.items c.args.spills.now.items c.gather_all.new.spills.items c.args.beat.now (omega arith) (omega arith) (omega arith)
    c.gather_all.ensures.spills.1 c.gather_all.ensures.goes_on in
    counts_merge g.P.VertexProgram.rules g.D.Disk.state g.D.M.Meter.faults _ c.args.seat.now.view c.gather_all.new.seat.view c.args.meters.now.items c.gather_all.new.meters.items c.args.spills.now.items c.gather_all.new.spills.items c.gather_all.new.replicas.items
    c.gather_all.result c.outcome_is_of_a_worker.ensures.done (omega arith) have done (omega arith) (omega arith) refl edges (edge_shelf c.args.run.now.job.now edges) has.stand
    (bytes_of g.D.Disk.state c.gather_all.new.spills.items (tell_still g.D.Disk.state c.args.beat.now c.args.spills.now.items c.gather_all.new.spills.items goes_on tell))
    (c.edges_are_counted.ensures.counts c.args.run.now.job.now edges c.requires.job has.within counts have.epoch (λ cursor. ap (λ lens. lens cursor) have.made.lens_are ∙ has.lens cursor) (have.made.once done))
