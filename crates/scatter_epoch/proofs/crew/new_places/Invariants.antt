use Rattle.std.proofs.Common.{◌≡◌, ◌≤◌, vec_len, vec_capacity}
use Rattle.scatter_epoch.proofs.crew.new_places.Given as goal

abbrev pub invariant-loop : goal.invariant-loop
invariant-loop l = record {
  many : vec_len l.lists ≡ l.counter;
  room : l.job.engines ≤ vec_capacity l.lists;
}
