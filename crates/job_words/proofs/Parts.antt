-- The number of partitions, as the code computes it.
use Rattle.std.proofs.Common.{◌≡◌, ◌∙◌, ◌*◌, ◌≤◌, ℕ, max, sym, ap, arith}
use Rattle.std.specs.Int.{div_ceil}
use Rattle.std.proofs.Math.Nat.{mul-le-mul_left}
use Rattle.graph_model.specs.Partitions.{ceil_div, part_count}
use Rattle.graph_model.proofs.SplitLemmas.{ceil_div-div_ceil}

pub part_count_steps : (vertices engines most : ℕ) → 1 ≤ engines → 1 ≤ most
    → engines * max (div_ceil vertices (engines * most)) 1 ≡ part_count vertices engines most
part_count_steps vertices engines most some_engine some_vertex =
    let each : engines * 1 ≤ engines * most = mul-le-mul_left engines some_vertex in
    let rounded : ceil_div vertices (engines * most) ≡ div_ceil vertices (engines * most) = ceil_div-div_ceil vertices (engines * most) (omega arith) in
    let swapped : max (div_ceil vertices (engines * most)) 1 ≡ max 1 (div_ceil vertices (engines * most)) = omega arith in
    ap (λ turns. engines * turns) swapped ∙ sym (ap (λ turns. engines * max 1 turns) rounded)
