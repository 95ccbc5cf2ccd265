use Rattle.std.proofs.Common.{replicate}
use Rattle.store_model.specs.Slots
use Rattle.store_reader.specs.Reading.{own_in}
use Rattle.storage_engine.specs.Steps.{Anything, Step, HoldsExactly}
use Rattle.ports.proofs.InTurn.{CalmBelow}
use Rattle.storage_engine.proofs.each_device.write_all_zeros.Given as goal

abbrev pub invariant-loop-e : goal.invariant-loop-e
invariant-loop-e g l = CalmBelow g.D.Disk.state (Step Anything l.beat) (λ e old new. HoldsExactly (replicate (Slots.device_size (own_in l.split e)) 0) new) l.e l.fn.disks l.disks
