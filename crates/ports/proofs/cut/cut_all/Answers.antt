use Rattle.std.proofs.Common.{◌≡◌, ◌<◌, length, get_or, arith}
use Rattle.ports.specs.Disk.{IsDisk}
use Rattle.ports.specs.Stops.{Empties}
use Rattle.ports.proofs.Going.{empties_cut}
use Rattle.ports.proofs.InTurn.{each_next, next_done}
use Rattle.ports.proofs.cut.cut_all.Goals as goal

pub returns-in_err-cut-clause-each : goal.returns-in_err-cut-clause-each
returns-in_err-cut-clause-each g c =
    let disks = g.met.D.Disk g.world.𝓛 g.world.𝓜 g.world.𝓡 ((λ s x. x), (λ x. x), (λ x. x), λ x. x) in
    let given = get_or c.loop-disk.disks c.loop-disk.disk-index c.disk-item.result in
    let law : IsDisk (g.D.Disk.state given) = disks.lawful given in
    let within : c.loop-disk.disk-index < length c.loop-disk.disks = omega arith in
    each_next g.D.Disk.state (Empties c.args.beat.now) (λ e old new. new.size ≡ 0) c.loop-disk.disk-index c.args.disks.now c.loop-disk.disks c.disk-item.result c.cut.new.self within c.loop-disk.invariant
    (empties_cut c.args.beat.now _ _ law c.cut.ensures.changes c.cut.ensures.no_longer c.cut.ensures.cause.later)

pub loop-disk-preserved : goal.loop-disk-preserved
loop-disk-preserved g c =
    let disks = g.met.D.Disk g.world.𝓛 g.world.𝓜 g.world.𝓡 ((λ s x. x), (λ x. x), (λ x. x), λ x. x) in
    let given = get_or c.loop-disk.disks c.loop-disk.disk-index c.disk-item.result in
    let law : IsDisk (g.D.Disk.state given) = disks.lawful given in
    let within : c.loop-disk.disk-index < length c.loop-disk.disks = omega arith in
    next_done g.D.Disk.state (Empties c.args.beat.now) (λ e old new. new.size ≡ 0) c.loop-disk.disk-index c.args.disks.now c.loop-disk.disks c.disk-item.result c.cut.new.self within c.loop-disk.invariant
    (empties_cut c.args.beat.now _ _ law c.cut.ensures.changes c.cut.ensures.no_longer c.cut.ensures.cause.later) c.in_ok-cut.ensures.cut c.in_ok-cut.ensures.cause.calm
