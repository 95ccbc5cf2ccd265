-- The lanes are all of the vector's elements.
use Rattle.std.proofs.Common.{◌≡◌, length, sym, ap, subst, arith}
use Rattle.std.specs.Prelude.{IfErr, OnOk}
use Rattle.std.specs.Vec.{with_items}
use Rattle.std.proofs.lemmas.List.{with_items_is}
use Rattle.ports.specs.Devices.{OneRose, NoneRose}
use Rattle.update_lanes.specs.declared.lanes.LaneFault.TheVariants.{DiskFault}
use Rattle.update_lanes.proofs.outgoing.flush_lanes.Goals as goal

pub returns-clause-cause : goal.returns-clause-cause
returns-clause-cause g c =
    let lanes = c.args.lanes.now in
    let given : c.deref_mut.result.now ≡ lanes.items = c.deref_mut.ensures.value in
    let lanes_are : (with_items lanes c.flush_rest.new.lanes).items ≡ c.flush_rest.new.lanes = with_items_is lanes c.flush_rest.new.lanes (omega (arith, c.flush_rest.ensures.lanes.many, ap length given, lanes.ok.0)) in
    subst (λ ys. IfErr c.flush_rest.result (λ fault. fault ≡ DiskFault → OneRose g.D.Disk.state lanes.items ys)) (sym lanes_are)
    (subst (λ xs. IfErr c.flush_rest.result (λ fault. fault ≡ DiskFault → OneRose g.D.Disk.state xs c.flush_rest.new.lanes)) given c.flush_rest.ensures.cause)

pub returns-clause-calm : goal.returns-clause-calm
returns-clause-calm g c =
    let lanes = c.args.lanes.now in
    let given : c.deref_mut.result.now ≡ lanes.items = c.deref_mut.ensures.value in
    let lanes_are : (with_items lanes c.flush_rest.new.lanes).items ≡ c.flush_rest.new.lanes = with_items_is lanes c.flush_rest.new.lanes (omega (arith, c.flush_rest.ensures.lanes.many, ap length given, lanes.ok.0)) in
    subst (λ ys. OnOk c.flush_rest.result (NoneRose g.D.Disk.state lanes.items ys)) (sym lanes_are)
    (subst (λ xs. OnOk c.flush_rest.result (NoneRose g.D.Disk.state xs c.flush_rest.new.lanes)) given c.flush_rest.ensures.calm)
