use Rattle.std.proofs.Common.{◌∙◌, Ok, Err, sym, subst, arith}
use Rattle.ports.specs.Faults.{Rose}
use Rattle.ports.specs.Devices.{Each}
use Rattle.store_model.proofs.Growing.{length-graph}
use Rattle.store_model.specs.Graphs.{edge_chunks}
use Rattle.storage_engine.specs.Preparing.{Prepares}
use Rattle.storage_engine.specs.Steps.{Opens}
use Rattle.storage_engine.specs.declared.fault.PrepareFault.TheVariants.{DiskFault}
use Rattle.storage_engine.proofs.Ends.{prepared_first, prepared_second, prepared_opening_failed}
use Rattle.storage_engine.proofs.preparing.prepare_devices.Goals as goal

pub returns-in-Err-clause-prepares : goal.returns-in-Err-clause-prepares
returns-in-Err-clause-prepares g c =
    prepared_first g.D.Disk.state c.args.job.now (g.S.Source.left c.args.source.now) (g.S.Source.left c.make_closed.new.source) c.args.beat.now (Rose (g.S.Source.faults c.args.source.now) (g.S.Source.faults c.make_closed.new.source)) c.args.graphs.now c.make_closed.new.graphs c.args.values.now c.make_closed.new.values c.in-Err.fault
    c.requires.graphs c.requires.values c.requires.graph_beats c.requires.value_beats c.make_closed.ensures.graphs c.make_closed.ensures.values c.in-Err.ensures.shut c.in-Err.ensures.cause c.in-Err.ensures.calm_devices

pub open_all-requires-clause-size : goal.open_all-requires-clause-size
open_all-requires-clause-size g c = λ _ _. λ k d below.
    let made = c.in-Ok.ensures.made in
    let has = made.2.devices k d below in
    omega (arith, has.size, length-graph 0 c.args.job.now k (edge_chunks c.args.job.now made.0))

pub returns-in-Ok-open_all-clause-prepares : goal.returns-in-Ok-open_all-clause-prepares
returns-in-Ok-open_all-clause-prepares g c =
    let disks = g.met.D.Disk g.world.𝓛 g.world.𝓜 g.world.𝓡 ((λ s x. x), (λ x. x), (λ x. x), λ x. x) in
    let made = c.in-Ok.ensures.made in
    let opens = subst (λ n. Each g.D.Disk.state (Opens n) c.make_closed.new.graphs c.open_all.new.disks) c.next.ensures c.open_all.ensures.opens in
    subst (λ n. Prepares g.D.Disk.state c.args.job.now (g.S.Source.left c.args.source.now) (g.S.Source.left c.make_closed.new.source) c.args.beat.now n (Rose (g.S.Source.faults c.args.source.now) (g.S.Source.faults c.make_closed.new.source)) c.args.graphs.now c.open_all.new.disks c.args.values.now c.make_closed.new.values (Ok c.in-Ok.index)) (sym c.next.ensures)
    (prepared_second g.D.Disk.state c.args.job.now (g.S.Source.left c.args.source.now) (g.S.Source.left c.make_closed.new.source) c.args.beat.now (Rose (g.S.Source.faults c.args.source.now) (g.S.Source.faults c.make_closed.new.source)) c.args.graphs.now c.make_closed.new.graphs c.open_all.new.disks c.args.values.now c.make_closed.new.values made.0 c.in-Ok.index disks.lawful
    c.requires.graphs c.requires.values c.requires.graph_beats c.requires.value_beats c.make_closed.ensures.graphs c.make_closed.ensures.values made.1 made.2 c.in-Ok.ensures.blank opens c.in-Ok-open_all.ensures.done
    (let made_calm = c.in-Ok.ensures.calm_devices (λ is. absurd cc) in (c.in-Ok-open_all.ensures.calm ∙ made_calm.0, made_calm.1)))

pub returns-in-Err-open_all-clause-prepares : goal.returns-in-Err-open_all-clause-prepares
returns-in-Err-open_all-clause-prepares g c =
    let disks = g.met.D.Disk g.world.𝓛 g.world.𝓜 g.world.𝓡 ((λ s x. x), (λ x. x), (λ x. x), λ x. x) in
    let made = c.in-Ok.ensures.made in
    let opens = subst (λ n. Each g.D.Disk.state (Opens n) c.make_closed.new.graphs c.open_all.new.disks) c.next.ensures c.open_all.ensures.opens in
    subst (λ n. Prepares g.D.Disk.state c.args.job.now (g.S.Source.left c.args.source.now) (g.S.Source.left c.make_closed.new.source) c.args.beat.now n (Rose (g.S.Source.faults c.args.source.now) (g.S.Source.faults c.make_closed.new.source)) c.args.graphs.now c.open_all.new.disks c.args.values.now c.make_closed.new.values (Err DiskFault)) (sym c.next.ensures)
    (prepared_opening_failed g.D.Disk.state c.args.job.now (g.S.Source.left c.args.source.now) (g.S.Source.left c.make_closed.new.source) c.args.beat.now (Rose (g.S.Source.faults c.args.source.now) (g.S.Source.faults c.make_closed.new.source)) c.args.graphs.now c.make_closed.new.graphs c.open_all.new.disks c.args.values.now c.make_closed.new.values made.0 c.in-Ok.index disks.lawful
    c.requires.graphs c.requires.values c.requires.graph_beats c.requires.value_beats c.make_closed.ensures.graphs c.make_closed.ensures.values made.1 made.2 c.in-Ok.ensures.blank opens c.in-Err-open_all.ensures.rose)
