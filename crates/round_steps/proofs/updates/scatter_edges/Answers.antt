-- The clauses of `scatter_all`, in words of the store and of the job.
use Rattle.std.proofs.Common.{ℕ, refl, subst, arith}
use Rattle.graph_model.specs.Rounds.{IsWithinGraph}
use Rattle.ports.specs.Devices.{AreRows}
use Rattle.round_steps.proofs.Damage.{scatters_names}
use Rattle.round_steps.proofs.Scattered.{row_rose, scatters_soundly, scatters}
use Rattle.round_steps.proofs.updates.scatter_edges.Goals as goal

pub scatter_all-requires-clause-lanes : goal.scatter_all-requires-clause-lanes
scatter_all-requires-clause-lanes g c = λ κs outlives. subst (λ (n : ℕ). AreRows g.D.Disk.state n c.args.beat.now c.args.lanes.now.items) (omega arith) c.requires.lanes

pub returns-clause-lanes : goal.returns-clause-lanes
returns-clause-lanes g c = c.scatter_all.ensures.lanes

pub returns-clause-cause : goal.returns-clause-cause
returns-clause-cause g c = λ fault.
    row_rose g.D.Disk.state g.D.M.Meter.faults c.args.run.now.job.now.engines c.args.meters.now.items c.scatter_all.new.meters.items c.args.lanes.now.items c.scatter_all.new.lanes.items
    (omega arith) (omega arith) (omega arith) (omega arith) (c.scatter_all.ensures.cause fault)

pub returns-clause-sound : goal.returns-clause-sound
returns-clause-sound g c = λ records stand.
    scatters_soundly g.P.VertexProgram.rules g.D.Disk.state g.D.M.Meter.faults _ c.args.seat.now.view c.scatter_all.new.seat.view c.args.meters.now.items c.scatter_all.new.meters.items c.args.lanes.now.items c.scatter_all.new.lanes.items c.scatter_all.new.updates
    c.scatter_all.result c.scatter_all.ensures.scattered c.scatter_all.ensures.stopped records stand

pub returns-clause-damaged : goal.returns-clause-damaged
returns-clause-damaged g c =
    scatters_names g.P.VertexProgram.rules g.D.Disk.state g.D.M.Meter.faults _ c.args.seat.now.view c.scatter_all.new.seat.view c.args.meters.now.items c.scatter_all.new.meters.items c.args.lanes.now.items c.scatter_all.new.lanes.items c.scatter_all.new.updates
    c.scatter_all.result c.scatter_all.ensures.scattered c.scatter_all.ensures.stopped c.args.graphs.now (λ engine lane. refl)

pub returns-clause-scattered : goal.returns-clause-scattered
returns-clause-scattered g c =
    scatters g.P.VertexProgram.rules g.D.Disk.state g.D.M.Meter.faults _ c.args.seat.now.view c.scatter_all.new.seat.view c.args.meters.now.items c.scatter_all.new.meters.items c.args.lanes.now.items c.scatter_all.new.lanes.items c.scatter_all.new.updates
    c.scatter_all.result c.scatter_all.ensures.scattered c.args.graphs.now c.args.round c.args.changed_only c.requires.round refl c.slot_before-before.ensures (omega arith) c.requires.values (omega arith)
    (λ edges has. has.stand)
    (λ edges has r. c.values_have_room.ensures c.args.run.now.split.now.vertices r edges (omega arith) (subst (λ (n : ℕ). IsWithinGraph n edges) (omega arith) has.within))
