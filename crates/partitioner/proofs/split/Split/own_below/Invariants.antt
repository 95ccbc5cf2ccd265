-- The count is that of the partitions passed, and none of their vertices is past the next partition's first.
use Rattle.std.proofs.Common.{◌≡◌, ◌≤◌}
use Rattle.graph_model.specs.Partitions.{first_vertex}
use Rattle.partitioner.specs.Splits.{own_below}
use Rattle.partitioner.proofs.split.Split.own_below.Given as goal

abbrev pub invariant-loop-lower : goal.invariant-loop-lower
invariant-loop-lower l = record {
  counted : l.count ≡ own_below l.self.vertices l.self.engines l.self.parts l.lower l.engine;
  small : l.count ≤ first_vertex l.self.vertices l.self.parts l.lower;
}
