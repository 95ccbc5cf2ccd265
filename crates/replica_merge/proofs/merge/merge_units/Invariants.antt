use Rattle.std.proofs.Common.{◌≡◌, ℕ, ◌<◌, ◌≤◌, get_or}
use Rattle.replica_merge.proofs.merge.merge_units.Given as goal

abbrev pub invariant-loop-sum : goal.invariant-loop-sum
invariant-loop-sum g l = record {
  here : (v : ℕ) → v < l.sum-index → get_or l.into v 0 ≡ (g.P.VertexProgram.rules l.fn.program).merge (get_or l.fn.into v 0) l.unit;
  elsewhere : (v : ℕ) → l.sum-index ≤ v → get_or l.into v 0 ≡ get_or l.fn.into v 0;
}
