-- How many places are noted.
use Rattle.std.proofs.Common.{◌≡◌, ℕ, ◌+◌, ◌*◌, ◌≤◌, eqb, List, length, subst, arith}
use Rattle.std.specs.List.{All}
use Rattle.std.proofs.Math.Nat.{div-le_of_le-mul, mul-div_cancel}
use Rattle.std.proofs.lemmas.List.Sums.{count_by-le-length}
use Rattle.phase_model.specs.declared.placed.Placed.{Placed}
use Rattle.update_lanes.specs.Lanes.{HasFlushed, IsWithin, places_in}

-- so many full chunks of so few updates
pub no_more : (count size most : ℕ) → 1 ≤ size → count * size ≤ size * most → count ≤ most
no_more count size most some few = subst (λ n. n ≤ most) (mul-div_cancel count some) (div-le_of_le-mul size few)

pub one_more : (count size most updates edges : ℕ) → 1 ≤ size → count * size ≤ updates + edges → updates ≤ size * most → edges ≤ size → count ≤ most + 1
one_more count size most updates edges some few before now =
    no_more count size (most + 1) some (let product : size * (most + 1) ≡ size * most + size = grind arith in omega (arith, few, before, now, product))

-- what waited adds one place to each partition
pub few_flushed : (engines parts taken claims : ℕ) (old new : List Placed) → HasFlushed engines parts old new → length old ≤ taken → claims ≡ taken → (p : ℕ) → places_in p new ≤ claims + 1
few_flushed engines parts taken claims old new flushed few is p =
    let here = flushed.few p in
    let all : places_in p old ≤ length old = count_by-le-length (λ (place : Placed). eqb place.partition p) old in
    omega (arith, here, all, few, is)

pub within_as : (engines engines' parts parts' : ℕ) (places : List Placed) → engines ≡ engines' → parts ≡ parts' → All (IsWithin engines parts) places → All (IsWithin engines' parts') places
within_as engines engines' parts parts' places a b all = subst (λ n. All (IsWithin n parts') places) a (subst (λ n. All (IsWithin engines n) places) b all)

-- and before that there are no more in any partition than in all
pub few_noted : (places : List Placed) (claims : ℕ) → length places ≤ claims → (p : ℕ) → places_in p places ≤ claims + 1
few_noted places claims few p =
    let all : places_in p places ≤ length places = count_by-le-length (λ (place : Placed). eqb place.partition p) places in
    omega (arith, all, few)
