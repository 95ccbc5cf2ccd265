use Rattle.storage_engine.proofs.Keeping.{opens, told_any}
use Rattle.std.proofs.Common.{arith}
use Rattle.ports.specs.Bytes.{Torn}
use Rattle.ports.specs.Disk.{After}
use Rattle.ports.proofs.Stops.{weaker}
use Rattle.storage_engine.specs.Steps.{ShutOrOpened}
use Rattle.storage_engine.proofs.device_steps.open_gate.Goals as goal

pub returns-clause-opens : goal.returns-clause-opens
returns-clause-opens g c =
    let start = g.D.Disk.state c.args.disk.now in
    let new = g.D.Disk.state c.write_synced.new.disk in
    record {
      leaves = weaker c.args.beat.now start new (After (Torn 0 1) start) (ShutOrOpened start) c.write_synced.ensures.any_moment (opens start c.requires.settled c.requires.closed);
      faults = c.write_synced.ensures.cause.later;
      told = told_any (Torn 0 1) start new c.write_synced.ensures.bytes;
      beat = λ before. omega (arith, c.write_synced.ensures.beat);
    }
