use Rattle.std.proofs.Common.{◌≡◌, ℕ, ◌≤◌, ◌<◌, ◌^◌, take, get_or}
use Rattle.graph_model.specs.declared.value.Value.{Value}
use Rattle.checkpoint.specs.Applied.{next_each, changes}
use Rattle.checkpoint.proofs.values.next_values.Given as goal

abbrev pub invariant-loop-index : goal.invariant-loop-index
invariant-loop-index g l = record {
  front : take l.index l.values ≡ next_each (g.P.VertexProgram.rules l.fn.program) (take l.index l.fn.values) (take l.index l.sums);
  rest : (k : ℕ) (d : Value) → l.index ≤ k → get_or l.values k d ≡ get_or l.fn.values k d;
  counted : l.changed ≡ changes (take l.index l.fn.values) (take l.index l.values);
  few : l.changed ≤ l.index;
  fit : (k : ℕ) (d : Value) → k < l.index → ((get_or l.fn.values k d).main < 2 ^ 64) × ((get_or l.fn.values k d).side < 2 ^ 64);
}
