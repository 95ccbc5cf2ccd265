use Rattle.std.proofs.Common.{◌≡◌, ℕ, ◌-◌, ◌≤◌, List, Some, length}
use Rattle.replica_merge.proofs.MergeSteps.{HasMergedFront}
use Rattle.replica_merge.proofs.merge.merge_spilled.Given as goal

abbrev pub invariant-loop-done : goal.invariant-loop-done
invariant-loop-done g l = record {
  within : l.done ≤ length l.into;
  told : (device : List ℕ) → (g.D.Disk.state l.fn.disk).bytes ≡ Some device → HasMergedFront (g.P.VertexProgram.rules l.fn.program) l.at l.done device l.fn.into l.into;
  later : g.D.M.Meter.faults l.fn.meter ≤ g.D.M.Meter.faults l.meter;
  calm : g.D.M.Meter.faults l.meter ≡ g.D.M.Meter.faults l.fn.meter;
}

abbrev pub decreases-loop-done : goal.decreases-loop-done
decreases-loop-done g l = length l.into - l.done
