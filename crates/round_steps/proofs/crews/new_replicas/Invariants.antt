use Rattle.std.proofs.Common.{◌≡◌, ◌≤◌, vec_len, vec_capacity}
use Rattle.std.specs.List.{All}
use Rattle.replica_merge.specs.Accumulators.{split_of}
use Rattle.round_steps.proofs.crews.new_replicas.Given as goal

abbrev pub invariant-loop : goal.invariant-loop
invariant-loop l = (vec_len l.all ≡ l.counter) × (l.split.engines ≤ vec_capacity l.all) × (l.end ≡ l.split.engines) × All (λ r. split_of r ≡ l.split) l.all.items
