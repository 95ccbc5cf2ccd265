use Rattle.std.proofs.Common.{◌<◌, ◌≤◌, length, arith, rules, sym, subst}
use Rattle.std.proofs.lemmas.Grind.{common_steps}
use Rattle.ports.specs.Disk.{IsSettled, InEveryImage}
use Rattle.storage_engine.specs.Steps.{Opens, Opened, IsClosedFront}
use Rattle.ports.proofs.InTurn.{none_yet, each_next, next_done}
use Rattle.storage_engine.proofs.Every.{each_opens_same}
use Rattle.storage_engine.proofs.each_device.open_all.Goals as goal

pub loop-e-init : goal.loop-e-init
loop-e-init g c =
    let disks = g.met.D.Disk g.world.𝓛 g.world.𝓜 g.world.𝓡 ((λ s x. x), (λ x. x), (λ x. x), λ x. x) in
    none_yet g.D.Disk.state (Opens c.args.beat.now) (λ e old new. Opened old new) c.args.disks.now
    (each_opens_same g.D.Disk.state c.args.beat.now c.args.disks.now disks.lawful c.requires.closed)

pub open_gate-requires-clause-beat : goal.open_gate-requires-clause-beat
open_gate-requires-clause-beat g c = λ _ _.
    let within : c.loop-e.e < length c.loop-e.disks = first_of (omega arith, search rules, grind (arith, common_steps)) in
    let untouched = c.loop-e.invariant.below.rest c.loop-e.e c.index-disks-e.result (omega arith) in
    subst (λ (x : g.row.D.Denot). (g.D.Disk.state x).beat ≤ c.args.beat.now) (sym untouched) (c.requires.beats c.loop-e.e c.index-disks-e.result (omega (arith, within, c.loop-e.invariant.below.many)))

pub open_gate-requires-clause-size : goal.open_gate-requires-clause-size
open_gate-requires-clause-size g c = λ _ _.
    let within : c.loop-e.e < length c.loop-e.disks = first_of (omega arith, search rules, grind (arith, common_steps)) in
    let untouched = c.loop-e.invariant.below.rest c.loop-e.e c.index-disks-e.result (omega arith) in
    subst (λ (x : g.row.D.Denot). 0 < (g.D.Disk.state x).size) (sym untouched) (c.requires.size c.loop-e.e c.index-disks-e.result (omega (arith, within, c.loop-e.invariant.below.many)))

pub open_gate-requires-clause-settled : goal.open_gate-requires-clause-settled
open_gate-requires-clause-settled g c = λ _ _.
    let within : c.loop-e.e < length c.loop-e.disks = first_of (omega arith, search rules, grind (arith, common_steps)) in
    let untouched = c.loop-e.invariant.below.rest c.loop-e.e c.index-disks-e.result (omega arith) in
    subst (λ (x : g.row.D.Denot). IsSettled (g.D.Disk.state x)) (sym untouched) (c.requires.settled c.loop-e.e c.index-disks-e.result (omega (arith, within, c.loop-e.invariant.below.many)))

pub open_gate-requires-clause-closed : goal.open_gate-requires-clause-closed
open_gate-requires-clause-closed g c = λ _ _.
    let within : c.loop-e.e < length c.loop-e.disks = first_of (omega arith, search rules, grind (arith, common_steps)) in
    let untouched = c.loop-e.invariant.below.rest c.loop-e.e c.index-disks-e.result (omega arith) in
    subst (λ (x : g.row.D.Denot). InEveryImage (g.D.Disk.state x) IsClosedFront) (sym untouched) (c.requires.closed c.loop-e.e c.index-disks-e.result (omega (arith, within, c.loop-e.invariant.below.many)))

pub returns-in_err-open_gate-clause-opens : goal.returns-in_err-open_gate-clause-opens
returns-in_err-open_gate-clause-opens g c =
    let within : c.loop-e.e < length c.loop-e.disks = first_of (omega arith, search rules, grind (arith, common_steps)) in
    each_next g.D.Disk.state (Opens c.args.beat.now) (λ e old new. Opened old new) c.loop-e.e c.args.disks.now c.loop-e.disks c.index-disks-e.result c.open_gate.new.disk within c.loop-e.invariant c.open_gate.ensures.opens

pub loop-e-preserved : goal.loop-e-preserved
loop-e-preserved g c =
    let within : c.loop-e.e < length c.loop-e.disks = first_of (omega arith, search rules, grind (arith, common_steps)) in
    next_done g.D.Disk.state (Opens c.args.beat.now) (λ e old new. Opened old new) c.loop-e.e c.args.disks.now c.loop-e.disks c.index-disks-e.result c.open_gate.new.disk within c.loop-e.invariant c.open_gate.ensures.opens
    c.in_ok-open_gate.ensures.opened
    c.in_ok-open_gate.ensures.cause.calm
