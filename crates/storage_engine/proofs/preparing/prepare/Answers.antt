use Rattle.std.proofs.Common.{arith, rules}
use Rattle.storage_engine.proofs.Ends.{prepared_lent}
use Rattle.storage_engine.proofs.preparing.prepare.Goals as goal

pub returns-clause-prepares : goal.returns-clause-prepares
returns-clause-prepares g c =
    prepared_lent g.D.Disk.state c.args.job.now _ _ _ _ _ c.args.store.now.graphs.items c.deref_mut.result.now c.prepare_devices.new.graphs c.args.store.now.values.items c.deref_mut-2.result.now c.prepare_devices.new.values c.args.store.now.graphs.len c.args.store.now.values.len c.prepare_devices.result
    c.deref_mut.ensures.value c.deref_mut-2.ensures.value (first_of (search rules, omega arith)) (first_of (search rules, omega arith)) c.requires.graphs c.requires.values c.prepare_devices.ensures.prepares
