use Rattle.std.proofs.Common.{◌≡◌}
use Rattle.ports.specs.Stops.{Empties}
use Rattle.ports.proofs.InTurn.{CalmBelow}
use Rattle.ports.proofs.cut.cut_all.Given as goal

abbrev pub invariant-loop-disk : goal.invariant-loop-disk
invariant-loop-disk g l = CalmBelow g.D.Disk.state (Empties l.beat) (λ e old new. new.size ≡ 0) l.disk-index l.fn.disks l.disks
