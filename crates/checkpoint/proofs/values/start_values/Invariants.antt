use Rattle.std.proofs.Common.{◌≡◌, take}
use Rattle.std.specs.List.{range_with_len}
use Rattle.checkpoint.specs.Applied.{start_each}
use Rattle.checkpoint.proofs.values.start_values.Given as goal

abbrev pub invariant-loop-index : goal.invariant-loop-index
invariant-loop-index g l = take l.index l.into ≡ start_each (g.P.VertexProgram.rules l.fn.program) (range_with_len l.first l.index) (take l.index l.counts)
