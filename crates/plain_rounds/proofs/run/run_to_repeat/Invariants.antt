use Rattle.std.proofs.Common.{◌≡◌, ℕ, ◌≤◌, length, replicate}
use Rattle.graph_model.specs.Rounds.{values, Repeats}
use Rattle.plain_rounds.proofs.run.run_to_repeat.Given as goal

-- the values of the round so far, and no round so far repeats
abbrev pub invariant-loop-round : goal.invariant-loop-round
invariant-loop-round g l = record {
  so_far : l.values ≡ values (g.P.VertexProgram.rules l.fn.program) (length l.fn.values) l.fn.edges l._round;
  units : l.sums ≡ replicate (length l.fn.values) (g.P.VertexProgram.rules l.fn.program).unit;
  none : (k : ℕ) → k ≤ l._round → ¬ (Repeats (g.P.VertexProgram.rules l.fn.program) (length l.fn.values) l.fn.edges k);
}
