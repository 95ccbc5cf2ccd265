use Rattle.std.proofs.Common.{◌≡◌, ◌+◌, ◌*◌, ◌≤◌, ◌++◌, take}
use Rattle.arrayvec.specs.ArrayVec.{array_vec_len}
use Rattle.endings.specs.Endings.{engine_lines}
use Rattle.endings.proofs.message.append_engines.Given as goal

abbrev pub invariant-loop-engine : goal.invariant-loop-engine
invariant-loop-engine l = record {
  so_far : l.line.items ≡ l.initial.line.items ++ engine_lines 0 (take l.engine l.chunks);
  few : array_vec_len l.line ≤ array_vec_len l.initial.line + 56 * l.engine;
}
