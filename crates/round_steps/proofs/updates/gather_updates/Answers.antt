-- The clauses of `gather_all` on a context that gathers.
use Rattle.std.proofs.Common.{refl, arith}
use Rattle.round_steps.proofs.Counts.{meters_go_on, spills_go_on, rose_of_one}
use Rattle.round_steps.proofs.Damage.{gathers_names}
use Rattle.round_steps.proofs.Begun.{is_begun}
use Rattle.round_steps.proofs.Gathered.{all_within}
use Rattle.round_steps.proofs.Updated.{gathers, gathers_updates_soundly}
use Rattle.round_steps.proofs.updates.gather_updates.Goals as goal

pub gather_all-requires-clause-serving : goal.gather_all-requires-clause-serving
gather_all-requires-clause-serving g c = λ κs outlives. c.requires.served _ (record { lanes = c.args.lanes; shelf = refl; rows_are = refl; index_is = refl; job_is = refl; split_is = refl })

pub returns-clause-spills : goal.returns-clause-spills
returns-clause-spills g c =
    spills_go_on g.D.Disk.state g.D.M.Meter.faults c.args.run.now.job.now.engines c.args.meters.now.items c.gather_all.new.meters.items c.args.spills.now.items c.gather_all.new.spills.items c.args.beat.now
    (omega arith) (omega arith) (omega arith) c.gather_all.ensures.spills.1 c.gather_all.ensures.goes_on

pub returns-clause-meters : goal.returns-clause-meters
returns-clause-meters g c =
    meters_go_on g.D.Disk.state g.D.M.Meter.faults c.args.run.now.job.now.engines c.args.meters.now.items c.gather_all.new.meters.items c.args.spills.now.items c.gather_all.new.spills.items
    (omega arith) (omega arith) (omega arith) c.gather_all.ensures.goes_on

pub returns-clause-cause : goal.returns-clause-cause
returns-clause-cause g c = λ fault.
    rose_of_one g.D.Disk.state g.D.M.Meter.faults c.args.run.now.job.now.engines c.args.meters.now.items c.gather_all.new.meters.items c.args.spills.now.items c.gather_all.new.spills.items
    (omega arith) (omega arith) (omega arith) (omega arith) (c.gather_all.ensures.cause fault)

pub returns-clause-sound : goal.returns-clause-sound
returns-clause-sound g c = λ shelf stand.
    gathers_updates_soundly g.P.VertexProgram.rules g.D.Disk.state g.D.M.Meter.faults _ c.args.seat.now.view c.gather_all.new.seat.view c.args.meters.now.items c.gather_all.new.meters.items c.args.spills.now.items c.gather_all.new.spills.items
    c.gather_all.new.replicas.items c.gather_all.result c.gather_all.ensures.gathered c.gather_all.ensures.stopped refl c.args.lanes.now shelf stand
    (record { lanes = c.args.lanes; shelf = refl; rows_are = refl; index_is = refl; job_is = refl; split_is = refl })

pub returns-clause-damaged : goal.returns-clause-damaged
returns-clause-damaged g c =
    gathers_names g.P.VertexProgram.rules g.D.Disk.state g.D.M.Meter.faults _ c.args.seat.now.view c.gather_all.new.seat.view c.args.meters.now.items c.gather_all.new.meters.items c.args.spills.now.items c.gather_all.new.spills.items c.gather_all.new.replicas.items
    c.gather_all.result c.gather_all.ensures.gathered c.gather_all.ensures.stopped refl c.args.lanes.now
    (record { lanes = c.args.lanes; shelf = refl; rows_are = refl; index_is = refl; job_is = refl; split_is = refl })
    (c.requires.served _ (record { lanes = c.args.lanes; shelf = refl; rows_are = refl; index_is = refl; job_is = refl; split_is = refl }))

pub returns-clause-within : goal.returns-clause-within
returns-clause-within g c = λ done.
    let have = is_begun g.P.VertexProgram.rules g.D.Disk.state g.D.M.Meter.faults _ c.args.seat.now.view c.gather_all.new.seat.view c.args.meters.now.items c.gather_all.new.meters.items c.args.spills.now.items c.gather_all.new.spills.items
    c.gather_all.new.replicas.items c.gather_all.result done c.gather_all.ensures.gathered in
    all_within g.P.VertexProgram.rules g.D.Disk.state g.D.M.Meter.faults _ c.args.seat.now.view c.gather_all.new.seat.view c.args.meters.now.items c.gather_all.new.meters.items c.args.spills.now.items c.gather_all.new.spills.items c.gather_all.new.replicas.items
    c.gather_all.result c.outcome_is_of_a_worker.ensures.done (omega arith) have done (omega arith)

pub returns-clause-gathered : goal.returns-clause-gathered
returns-clause-gathered g c =
    gathers g.P.VertexProgram.rules g.D.Disk.state g.D.M.Meter.faults _ c.args.seat.now.view c.gather_all.new.seat.view c.args.meters.now.items c.gather_all.new.meters.items c.args.spills.now.items c.gather_all.new.spills.items c.gather_all.new.replicas.items
    c.gather_all.result c.gather_all.ensures.gathered c.outcome_is_of_a_worker.ensures.done c.args.beat.now c.args.lanes.now (omega arith) (omega arith) (omega arith) refl
    (spills_go_on g.D.Disk.state g.D.M.Meter.faults c.args.run.now.job.now.engines c.args.meters.now.items c.gather_all.new.meters.items c.args.spills.now.items c.gather_all.new.spills.items c.args.beat.now (omega arith) (omega arith) (omega arith)
    c.gather_all.ensures.spills.1 c.gather_all.ensures.goes_on)
    (record { lanes = c.args.lanes; shelf = refl; rows_are = refl; index_is = refl; job_is = refl; split_is = refl })
    (c.requires.served _ (record { lanes = c.args.lanes; shelf = refl; rows_are = refl; index_is = refl; job_is = refl; split_is = refl }))
