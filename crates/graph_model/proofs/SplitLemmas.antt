-- The number of partitions, as it is computed, is the least that is enough.
use Rattle.std.proofs.Common.{◌≡◌, ◌+◌, ◌-◌, ◌*◌, ℕ, zero, ◌<◌, ◌≤◌, max, refl, ap, arith}
use Rattle.std.specs.Int.{div_ceil}
use Rattle.std.proofs.Math.Nat.{div-lt_iff_lt-mul, lt_of_mul-lt-mul_right, mul-le-mul_left}
use Rattle.std.proofs.lemmas.Grind.{div_ceil_times}
use Rattle.graph_model.specs.Partitions.{IsEnough, IsPartCount, ceil_div, part_count}

-- a quotient that is rounded up is at most k exactly where k times the divisor reaches the number
pub ceil_div-below : (n b k : ℕ) → 1 ≤ b → ceil_div n b ≤ k → n ≤ b * k
ceil_div-below n b k positive below =
    let divisor : zero < b = omega arith in
    let quotient : ceil_div n b < k + 1 = omega arith in
    let product : n + (b - 1) < (k + 1) * b = (div-lt_iff_lt-mul divisor).0 quotient in
    omega arith

pub below-ceil_div : (n b k : ℕ) → 1 ≤ b → n ≤ b * k → ceil_div n b ≤ k
below-ceil_div n b k positive reaches =
    let divisor : zero < b = omega arith in
    let product : n + (b - 1) < (k + 1) * b = omega arith in
    let quotient : ceil_div n b < k + 1 = (div-lt_iff_lt-mul divisor).1 product in
    omega arith

-- it is std's own, where the divisor is not 0
pub ceil_div-div_ceil : (n b : ℕ) → 1 ≤ b → ceil_div n b ≡ div_ceil n b
ceil_div-div_ceil n b positive =
    let divisor : zero < b = omega arith in
    let times = div_ceil_times n b divisor in
    let at_most : ceil_div n b ≤ div_ceil n b = below-ceil_div n b (div_ceil n b) positive (omega (arith, times.0)) in
    let reaches : n ≤ b * ceil_div n b = ceil_div-below n b (ceil_div n b) positive (omega arith) in
    let fewer : div_ceil n b * b < (ceil_div n b + 1) * b = omega (arith, times.1) in
    let at_least : div_ceil n b < ceil_div n b + 1 = lt_of_mul-lt-mul_right b fewer in
    omega arith

pub one-le-product : (a b : ℕ) → 1 ≤ a → 1 ≤ b → 1 ≤ a * b
one-le-product a b left right = let more : a * 1 ≤ a * b = mul-le-mul_left a right in omega arith

-- no multiple of the engines that is enough is less
no_fewer : (n engines most parts : ℕ) → 1 ≤ engines → 1 ≤ most → IsEnough n engines most parts → part_count n engines most ≤ parts
no_fewer n engines most parts some_engine some_vertex enough =
    let product : 1 ≤ engines * enough.turns = one-le-product engines enough.turns some_engine enough.positive in
    let some_part : 1 ≤ parts = omega arith in
    let reaches : n ≤ parts * most = ceil_div-below n parts most some_part enough.small in
    let same : parts * most ≡ engines * enough.turns * most = ap (λ k. k * most) enough.multiple in
    let quotient : ceil_div n (engines * most) ≤ enough.turns =
    below-ceil_div n (engines * most) enough.turns (one-le-product engines most some_engine some_vertex) (omega arith) in
    let turns : max 1 (ceil_div n (engines * most)) ≤ enough.turns = omega arith in
    let more : engines * max 1 (ceil_div n (engines * most)) ≤ engines * enough.turns = mul-le-mul_left engines turns in
    omega arith

pub part_count_is : (n engines most : ℕ) → 1 ≤ engines → 1 ≤ most → IsPartCount n engines most (part_count n engines most)
part_count_is n engines most some_engine some_vertex =
    let turns : ℕ = max 1 (ceil_div n (engines * most)) in
    let some_turn : 1 ≤ turns = omega arith in
    let divisor : 1 ≤ engines * most = one-le-product engines most some_engine some_vertex in
    let reaches : n ≤ engines * most * turns = ceil_div-below n (engines * most) turns divisor (omega arith) in
    let parts : 1 ≤ engines * turns = one-le-product engines turns some_engine some_turn in
    record {
      enough = record { turns = turns; positive = some_turn; multiple = refl; small = below-ceil_div n (engines * turns) most parts (omega arith) };
      least = λ other enough. no_fewer n engines most other some_engine some_vertex enough;
    }
