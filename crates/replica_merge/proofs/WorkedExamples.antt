-- The definitions, run on worked examples: each value here was computed by hand.
use Rattle.std.proofs.Common.{◌≡◌, ℕ, List, [], ◌∷◌, Some, None, refl}
use Rattle.replica_merge.specs.Accumulators.{accumulators_at}
use Rattle.replica_merge.specs.Numbers.{bytes_of_numbers, numbers_at}

-- 5 and 258, behind one byte
device : List ℕ
device = 9 ∷ 0 ∷ 0 ∷ 0 ∷ 0 ∷ 0 ∷ 0 ∷ 0 ∷ 5 ∷ 0 ∷ 0 ∷ 0 ∷ 0 ∷ 0 ∷ 0 ∷ 1 ∷ 2 ∷ []

numbers_behind_a_byte : numbers_at 1 2 device ≡ 5 ∷ 258 ∷ []
unfolding numbers_at device
numbers_behind_a_byte = refl

written_numbers : bytes_of_numbers (258 ∷ 7 ∷ []) ≡ 0 ∷ 0 ∷ 0 ∷ 0 ∷ 0 ∷ 0 ∷ 1 ∷ 2 ∷ 0 ∷ 0 ∷ 0 ∷ 0 ∷ 0 ∷ 0 ∷ 0 ∷ 7 ∷ []
written_numbers = refl

spilled_accumulators : accumulators_at (Some 9) 1 7 device ≡ 258 ∷ []
unfolding numbers_at device
spilled_accumulators = refl

accumulators_not_spilled : accumulators_at None 3 7 device ≡ 7 ∷ 7 ∷ 7 ∷ []
accumulators_not_spilled = refl
