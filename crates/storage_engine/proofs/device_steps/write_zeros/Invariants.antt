use Rattle.std.proofs.Common.{◌≡◌, ◌-◌, ◌≤◌, IfSome, replicate}
use Rattle.storage_engine.specs.Steps.{Anything, Step}
use Rattle.storage_engine.proofs.device_steps.write_zeros.Given as goal

abbrev pub invariant-pieces : goal.invariant-pieces
invariant-pieces g l = record {
  step : Step Anything l.beat (g.D.Disk.state l.fn.disk) (g.D.Disk.state l.disk);
  calm : (g.D.Disk.state l.disk).faults ≡ (g.D.Disk.state l.fn.disk).faults;
  size : (g.D.Disk.state l.disk).size ≡ l.done;
  within : l.done ≤ l.size;
  read : IfSome (g.D.Disk.state l.disk).bytes (λ told. told ≡ replicate l.done 0);
}

abbrev pub decreases-pieces : goal.decreases-pieces
decreases-pieces g l = l.size - l.done
