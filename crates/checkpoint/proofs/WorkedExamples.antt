-- The values that apply makes, computed on a worked example: distances from vertex 0, where the edges 0 to 1 of weight 5 and
-- 0 to 2 of weight 1 have sent.
use Rattle.std.proofs.Common.{◌≡◌, ℕ, zero, suc, List, [], ◌∷◌, refl}
use Rattle.graph_model.specs.declared.value.Value.{Value}
use Rattle.graph_model.specs.Programs.{NONE, sssp, degrees}
use Rattle.partitioner.specs.declared.split.Split.{Split}
use Rattle.checkpoint.specs.Applied.{start_each, applied, changed_by}

abbrev value : ℕ → ℕ → Value
value main side = record { main = main; side = side }

-- three vertices, two in a partition
abbrev split : Split
split = record { vertices = 3; engines = 1; parts = 2; span = 2 }

abbrev sums : ℕ → List ℕ
sums zero = NONE ∷ 5 ∷ []
sums (suc partition) = 1 ∷ []

abbrev first : List Value
first = value 0 0 ∷ value NONE 0 ∷ value NONE 0 ∷ []

abbrev second : List Value
second = value 0 0 ∷ value 5 0 ∷ value 1 0 ∷ []

first_round : applied (sssp 0) split 0 sums (0 ∷ 1 ∷ []) [] ≡ first
first_round = refl

all_change_at_first : changed_by 0 [] first ≡ 3
all_change_at_first = refl

second_round : applied (sssp 0) split 1 sums (0 ∷ 1 ∷ []) first ≡ second
second_round = refl

two_change_then : changed_by 1 first second ≡ 2
two_change_then = refl

-- a program that counts begins with the counts
counted_edges : start_each degrees (4 ∷ 5 ∷ []) (2 ∷ 0 ∷ []) ≡ value 0 2 ∷ value 0 0 ∷ []
counted_edges = refl
