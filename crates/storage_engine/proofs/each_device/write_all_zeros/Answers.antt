use Rattle.std.proofs.Common.{◌<◌, length, replicate, arith, rules, subst, ap, ◌∙◌}
use Rattle.std.proofs.lemmas.Grind.{common_steps}
use Rattle.store_model.specs.Slots
use Rattle.store_reader.specs.Reading.{own_in}
use Rattle.storage_engine.specs.Steps.{Anything, Step, HoldsExactly}
use Rattle.ports.proofs.InTurn.{none_yet, each_next, next_done}
use Rattle.storage_engine.proofs.Every.{each_same}
use Rattle.storage_engine.proofs.each_device.write_all_zeros.Goals as goal

pub loop-e-init : goal.loop-e-init
loop-e-init g c =
    let disks = g.met.D.Disk g.world.𝓛 g.world.𝓜 g.world.𝓡 ((λ s x. x), (λ x. x), (λ x. x), λ x. x) in
    none_yet g.D.Disk.state (Step Anything c.args.beat.now) (λ e old new. HoldsExactly (replicate (Slots.device_size (own_in c.args.split.now e)) 0) new) c.args.disks.now
    (each_same g.D.Disk.state Anything c.args.beat.now c.args.disks.now disks.lawful)

pub returns-in_err-write_zeros-clause-steps : goal.returns-in_err-write_zeros-clause-steps
returns-in_err-write_zeros-clause-steps g c =
    let within : c.loop-e.e < length c.loop-e.disks = first_of (omega arith, search rules, grind (arith, common_steps)) in
    each_next g.D.Disk.state (Step Anything c.args.beat.now) (λ e old new. HoldsExactly (replicate (Slots.device_size (own_in c.args.split.now e)) 0) new) c.loop-e.e c.args.disks.now c.loop-e.disks c.index-disks-e.result c.write_zeros.new.disk within c.loop-e.invariant c.write_zeros.ensures.step

pub loop-e-preserved : goal.loop-e-preserved
loop-e-preserved g c =
    let within : c.loop-e.e < length c.loop-e.disks = first_of (omega arith, search rules, grind (arith, common_steps)) in
    next_done g.D.Disk.state (Step Anything c.args.beat.now) (λ e old new. HoldsExactly (replicate (Slots.device_size (own_in c.args.split.now e)) 0) new) c.loop-e.e c.args.disks.now c.loop-e.disks c.index-disks-e.result c.write_zeros.new.disk within c.loop-e.invariant c.write_zeros.ensures.step
    (subst (λ n. HoldsExactly (replicate n 0) (g.D.Disk.state c.write_zeros.new.disk)) (c.device_size-size.ensures ∙ ap Slots.device_size c.own.ensures) c.in_ok-write_zeros.ensures.zeros)
    c.in_ok-write_zeros.ensures.cause.calm
