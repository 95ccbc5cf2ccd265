use Rattle.std.proofs.Common.{◌≡◌, ℕ, ◌<◌, ◌≤◌, List, Some, None, length, take, map, get_or}
use Rattle.graph_model.specs.Rounds.{merged}
use Rattle.std.specs.List.{All}
use Rattle.replica_merge.specs.declared.replicas.Replicas.{Replicas}
use Rattle.replica_merge.specs.Accumulators.{place_of}
use Rattle.replica_merge.specs.Merging.{sums_for}
use Rattle.replica_merge.proofs.merge.merge_replicas.Given as goal

-- each sum is the merge over the workers so far
abbrev pub invariant-loop-worker : goal.invariant-loop-worker
invariant-loop-worker g l = record {
  told : (devices : List (List ℕ)) → map (λ d. (g.D.Disk.state d).bytes) l.disks ≡ map (λ device. Some device) devices → (v : ℕ) → v < length l.into →
      get_or l.into v 0 ≡ merged (g.P.VertexProgram.rules l.fn.program) (sums_for (take l.worker l.replicas) (take l.worker devices) l.partition v);
  unread : All (λ (r : Replicas). place_of r l.partition ≡ None) l.replicas → l.meter ≡ l.fn.meter;
  later : g.D.M.Meter.faults l.fn.meter ≤ g.D.M.Meter.faults l.meter;
  calm : g.D.M.Meter.faults l.meter ≡ g.D.M.Meter.faults l.fn.meter;
}
