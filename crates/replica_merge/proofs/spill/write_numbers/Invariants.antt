use Rattle.std.proofs.Common.{◌-◌, ◌≤◌, length, take, Ok}
use Rattle.ports.specs.declared.faults.Failed.{Failed}
use Rattle.replica_merge.specs.Appending.{HasAppended}
use Rattle.replica_merge.specs.Numbers.{bytes_of_numbers}
use Rattle.replica_merge.proofs.spill.write_numbers.Given as goal

abbrev pub invariant-loop-done : goal.invariant-loop-done
invariant-loop-done g l = record {
  within : l.done ≤ length l.numbers;
  so_far : HasAppended {T = Unit {0}} {E = Failed} l.beat (bytes_of_numbers (take l.done l.numbers)) (g.D.Disk.state l.fn.disk) (g.D.Disk.state l.disk) (Ok tt);
}

abbrev pub decreases-loop-done : goal.decreases-loop-done
decreases-loop-done g l = length l.numbers - l.done
