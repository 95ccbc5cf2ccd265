use Rattle.storage_engine.specs.Steps.{Opens, Opened}
use Rattle.ports.proofs.InTurn.{CalmBelow}
use Rattle.storage_engine.proofs.each_device.open_all.Given as goal

abbrev pub invariant-loop-e : goal.invariant-loop-e
invariant-loop-e g l = CalmBelow g.D.Disk.state (Opens l.beat) (λ e old new. Opened old new) l.e l.fn.disks l.disks
