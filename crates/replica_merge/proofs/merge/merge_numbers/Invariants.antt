use Rattle.std.proofs.Common.{◌≡◌, ℕ, ◌+◌, ◌*◌, ◌<◌, ◌≤◌, ◌⊎◌, get_or}
use Rattle.std.specs.Int.{from_be_bytes, w64}
use Rattle.ports.specs.Bytes.{bytes_at}
use Rattle.replica_merge.proofs.merge.merge_numbers.Given as goal

abbrev pub invariant-loop-index : goal.invariant-loop-index
invariant-loop-index g l = record {
  here : (k : ℕ) → k < l.index → get_or l.into (l.done + k) 0
      ≡ (g.P.VertexProgram.rules l.fn.program).merge (get_or l.fn.into (l.done + k) 0) (from_be_bytes w64 (bytes_at (8 * k) 8 l.bytes));
  elsewhere : (v : ℕ) → (v < l.done) ⊎ (l.done + l.index ≤ v) → get_or l.into v 0 ≡ get_or l.fn.into v 0;
}
