use Rattle.std.proofs.Common.{◌≡◌, ◌≢◌, ℕ, ◌<◌, ◌≤◌, get_or, MatchBool}
use Rattle.graph_model.specs.Rounds.{value_at}
use Rattle.plain_rounds.proofs.pass.apply.Given as goal

-- The vertices so far have their next values and the unit as their sum, and the others are as they were.
abbrev pub invariant-loop-vertex : goal.invariant-loop-vertex
invariant-loop-vertex g l = record {
  next_values : (v : ℕ) → v < l.vertex → value_at l.values v ≡ (g.P.VertexProgram.rules l.fn.program).next (value_at l.fn.values v) (get_or l.fn.sums v 0);
  units : (v : ℕ) → v < l.vertex → get_or l.sums v 0 ≡ (g.P.VertexProgram.rules l.fn.program).unit;
  old_values : (v : ℕ) → l.vertex ≤ v → value_at l.values v ≡ value_at l.fn.values v;
  old_sums : (v : ℕ) → l.vertex ≤ v → get_or l.sums v 0 ≡ get_or l.fn.sums v 0;
  changed : MatchBool l.changed (l.values ≢ l.fn.values) (l.values ≡ l.fn.values);
}
