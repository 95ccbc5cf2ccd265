use Rattle.storage_engine.specs.Steps.{Step, IsClosedFront, Synced}
use Rattle.ports.proofs.InTurn.{CalmBelow}
use Rattle.storage_engine.proofs.each_device.sync_all.Given as goal

abbrev pub invariant-loop-e : goal.invariant-loop-e
invariant-loop-e g l = CalmBelow g.D.Disk.state (Step IsClosedFront l.beat) (λ e old new. Synced old new) l.e l.fn.disks l.disks
