use Rattle.std.proofs.Common.{◌<◌, length, arith, rules}
use Rattle.std.proofs.lemmas.Grind.{common_steps}
use Rattle.storage_engine.specs.Steps.{Step, IsClosedFront, Synced}
use Rattle.ports.proofs.InTurn.{none_yet, each_next, next_done}
use Rattle.storage_engine.proofs.Every.{each_same}
use Rattle.storage_engine.proofs.each_device.sync_all.Goals as goal

pub loop-e-init : goal.loop-e-init
loop-e-init g c =
    let disks = g.met.D.Disk g.world.𝓛 g.world.𝓜 g.world.𝓡 ((λ s x. x), (λ x. x), (λ x. x), λ x. x) in
    none_yet g.D.Disk.state (Step IsClosedFront c.args.beat.now) (λ e old new. Synced old new) c.args.disks.now
    (each_same g.D.Disk.state IsClosedFront c.args.beat.now c.args.disks.now disks.lawful)

pub returns-in_err-sync_closed-clause-steps : goal.returns-in_err-sync_closed-clause-steps
returns-in_err-sync_closed-clause-steps g c =
    let within : c.loop-e.e < length c.loop-e.disks = first_of (omega arith, search rules, grind (arith, common_steps)) in
    each_next g.D.Disk.state (Step IsClosedFront c.args.beat.now) (λ e old new. Synced old new) c.loop-e.e c.args.disks.now c.loop-e.disks c.index-disks-e.result c.sync_closed.new.disk within c.loop-e.invariant c.sync_closed.ensures.step

pub loop-e-preserved : goal.loop-e-preserved
loop-e-preserved g c =
    let within : c.loop-e.e < length c.loop-e.disks = first_of (omega arith, search rules, grind (arith, common_steps)) in
    next_done g.D.Disk.state (Step IsClosedFront c.args.beat.now) (λ e old new. Synced old new) c.loop-e.e c.args.disks.now c.loop-e.disks c.index-disks-e.result c.sync_closed.new.disk within c.loop-e.invariant c.sync_closed.ensures.step
    c.in_ok-sync_closed.ensures.synced
    c.in_ok-sync_closed.ensures.cause.calm
