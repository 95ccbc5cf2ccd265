-- The main meter is taken out and put back in its place.
use Rattle.std.proofs.Common.{◌++◌, ◌∷◌, [], List, sym, subst}
use Rattle.ports.specs.Devices.{SameCounts}
use Rattle.round_steps.specs.Going.{IsStore}
use Rattle.round_loop.specs.Keeping.{moment}
use Rattle.round_loop.specs.Run.{HasRun, OnMade}
use Rattle.partitioner.proofs.Made.{split_is}
use Rattle.round_loop.proofs.Ending.{not_begun, run_with, calm_with}
use Rattle.round_loop.proofs.run.run_rounds.Goals as goal

pub returns-in-Err-clause-run : goal.returns-in-Err-clause-run
returns-in-Err-clause-run g c =
    let disks = g.met.D.Disk g.world.𝓛 g.world.𝓜 g.world.𝓡 ((λ s x. x), (λ x. x), (λ x. x), λ x. x) in
    not_begun g.D.Disk.state g.D.M.Meter.faults (g.P.VertexProgram.rules c.args.program.now) c.args.job.now c.args.start c.args.index.now disks.lawful
    (moment c.args.store.now c.args.meters.now.items c.args.seat.now.view c.args.beat.now) c.requires.store c.requires.between

pub run_from-result-requires-clause-store : goal.run_from-result-requires-clause-store
run_from-result-requires-clause-store g c κs within =
    subst (λ s. IsStore g.D.Disk.state s c.args.beat.now c.args.store.now) (sym (split_is c.args.job.now c.of_job-split.result c.of_job-split.ensures.of_job)) c.requires.store

pub returns-clause-run : goal.returns-clause-run
returns-clause-run g c =
    let end = c.run_from-result in
    let own = c.take_last-own.result in
    let olds : List g.row.D-M.Denot = c.take_last-own.new.list.items in
    let news : List g.row.D-M.Denot = end.new.meters.items in
    let run : HasRun g.D.Disk.state g.D.M.Meter.faults (g.P.VertexProgram.rules c.args.program.now) c.args.job.now c.args.start c.args.index.now (moment c.args.store.now (olds ++ own ∷ []) c.args.seat.now.view c.args.beat.now) (moment end.new.store (news ++ own ∷ []) end.new.seat.view end.new.beat) end.result
    = run_with g.D.Disk.state g.D.M.Meter.faults (g.P.VertexProgram.rules c.args.program.now) c.args.job.now c.args.start c.args.index.now c.args.store.now end.new.store olds news own c.args.seat.now.view end.new.seat.view c.args.beat.now end.new.beat end.result end.ensures.run in
    subst (λ (xs : List g.row.D-M.Denot). HasRun g.D.Disk.state g.D.M.Meter.faults (g.P.VertexProgram.rules c.args.program.now) c.args.job.now c.args.start c.args.index.now (moment c.args.store.now xs c.args.seat.now.view c.args.beat.now) (moment end.new.store c.put_last.new.list.items end.new.seat.view end.new.beat) end.result) (sym c.take_last-own.ensures.items)
    (subst (λ (xs : List g.row.D-M.Denot). HasRun g.D.Disk.state g.D.M.Meter.faults (g.P.VertexProgram.rules c.args.program.now) c.args.job.now c.args.start c.args.index.now (moment c.args.store.now (olds ++ own ∷ []) c.args.seat.now.view c.args.beat.now) (moment end.new.store xs end.new.seat.view end.new.beat) end.result) (sym c.put_last.ensures.items) run)

pub returns-clause-calm : goal.returns-clause-calm
returns-clause-calm g c =
    let end = c.run_from-result in
    let own = c.take_last-own.result in
    let olds : List g.row.D-M.Denot = c.take_last-own.new.list.items in
    let news : List g.row.D-M.Denot = end.new.meters.items in
    let calm : OnMade end.result (SameCounts g.D.M.Meter.faults (olds ++ own ∷ []) (news ++ own ∷ []))
    = calm_with g.D.Disk.state g.D.M.Meter.faults (g.P.VertexProgram.rules c.args.program.now) c.args.job.now c.args.start c.args.index.now c.args.store.now end.new.store olds news own c.args.seat.now.view end.new.seat.view c.args.beat.now end.new.beat end.result end.ensures.run end.ensures.calm in
    subst (λ (xs : List g.row.D-M.Denot). OnMade end.result (SameCounts g.D.M.Meter.faults xs c.put_last.new.list.items)) (sym c.take_last-own.ensures.items)
    (subst (λ (xs : List g.row.D-M.Denot). OnMade end.result (SameCounts g.D.M.Meter.faults (olds ++ own ∷ []) xs)) (sym c.put_last.ensures.items) calm)
