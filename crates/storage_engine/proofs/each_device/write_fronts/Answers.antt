use Rattle.std.proofs.Common.{◌<◌, length, arith, rules, subst}
use Rattle.std.proofs.lemmas.Grind.{common_steps}
use Rattle.store_model.specs.Heads.{IsShutGraph, front}
use Rattle.storage_engine.specs.Steps.{Step, HoldsExactly}
use Rattle.ports.proofs.InTurn.{none_yet, each_next, next_done}
use Rattle.storage_engine.proofs.Every.{each_same}
use Rattle.storage_engine.proofs.each_device.write_fronts.Goals as goal

pub loop-e-init : goal.loop-e-init
loop-e-init g c =
    let disks = g.met.D.Disk g.world.𝓛 g.world.𝓜 g.world.𝓡 ((λ s x. x), (λ x. x), (λ x. x), λ x. x) in
    none_yet g.D.Disk.state (Step IsShutGraph c.args.beat.now) (λ e old new. HoldsExactly (front 0 c.args.job.now e) new) c.args.disks.now
    (each_same g.D.Disk.state IsShutGraph c.args.beat.now c.args.disks.now disks.lawful)

pub returns-in_err-write_front-clause-steps : goal.returns-in_err-write_front-clause-steps
returns-in_err-write_front-clause-steps g c =
    let within : c.loop-e.e < length c.loop-e.disks = first_of (omega arith, search rules, grind (arith, common_steps)) in
    each_next g.D.Disk.state (Step IsShutGraph c.args.beat.now) (λ e old new. HoldsExactly (front 0 c.args.job.now e) new) c.loop-e.e c.args.disks.now c.loop-e.disks c.index-disks-e.result c.write_front.new.disk within c.loop-e.invariant c.write_front.ensures.step

pub loop-e-preserved : goal.loop-e-preserved
loop-e-preserved g c =
    let within : c.loop-e.e < length c.loop-e.disks = first_of (omega arith, search rules, grind (arith, common_steps)) in
    next_done g.D.Disk.state (Step IsShutGraph c.args.beat.now) (λ e old new. HoldsExactly (front 0 c.args.job.now e) new) c.loop-e.e c.args.disks.now c.loop-e.disks c.index-disks-e.result c.write_front.new.disk within c.loop-e.invariant c.write_front.ensures.step
    (subst (λ bytes. HoldsExactly bytes (g.D.Disk.state c.write_front.new.disk)) c.front_of.ensures c.in_ok-write_front.ensures.written)
    c.in_ok-write_front.ensures.cause.calm
