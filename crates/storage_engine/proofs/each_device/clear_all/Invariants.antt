use Rattle.std.proofs.Common.{[]}
use Rattle.store_model.specs.Heads.{IsShutGraph}
use Rattle.storage_engine.specs.Steps.{Step, HoldsExactly}
use Rattle.ports.proofs.InTurn.{CalmBelow}
use Rattle.storage_engine.proofs.each_device.clear_all.Given as goal

abbrev pub invariant-loop-e : goal.invariant-loop-e
invariant-loop-e g l = CalmBelow g.D.Disk.state (Step IsShutGraph l.beat) (λ e old new. HoldsExactly [] new) l.e l.fn.disks l.disks
