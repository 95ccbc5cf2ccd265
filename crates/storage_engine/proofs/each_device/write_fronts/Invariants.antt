use Rattle.store_model.specs.Heads.{IsShutGraph, front}
use Rattle.storage_engine.specs.Steps.{Step, HoldsExactly}
use Rattle.ports.proofs.InTurn.{CalmBelow}
use Rattle.storage_engine.proofs.each_device.write_fronts.Given as goal

abbrev pub invariant-loop-e : goal.invariant-loop-e
invariant-loop-e g l = CalmBelow g.D.Disk.state (Step IsShutGraph l.beat) (λ e old new. HoldsExactly (front 0 l.job e) new) l.e l.fn.disks l.disks
