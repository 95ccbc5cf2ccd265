use Rattle.std.proofs.Common.{[], ◌∷◌}
use Rattle.store_model.specs.Heads
use Rattle.storage_engine.specs.Steps.{Step, IsClosedFront, Appended}
use Rattle.ports.proofs.InTurn.{CalmBelow}
use Rattle.storage_engine.proofs.each_device.write_marks.Given as goal

abbrev pub invariant-loop-e : goal.invariant-loop-e
invariant-loop-e g l = CalmBelow g.D.Disk.state (Step IsClosedFront l.beat) (λ e old new. Appended (Heads.MARK ∷ []) old new) l.e l.fn.disks l.disks
