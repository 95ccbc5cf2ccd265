-- The outcome of several workers.
use Rattle.std.specs.Prelude.{◌≡◌, ℕ, ◌<◌, List, [], ◌∷◌, length, slice_index_or}
use Rattle.store_reader.specs.declared.store.Outcome.{Outcome}
use Rattle.store_reader.specs.declared.store.Outcome.TheVariants.{Done, DiskFault, Damaged, Memory}

-- that of the lowest worker that is not done, or Done where there is none
abbrev pub lowest_outcome : List Outcome → Outcome
lowest_outcome [] = Done
lowest_outcome (Done ∷ outcomes) = lowest_outcome outcomes
lowest_outcome (DiskFault ∷ outcomes) = DiskFault
lowest_outcome (Damaged part engine place ∷ outcomes) = Damaged part engine place
lowest_outcome (Memory ∷ outcomes) = Memory

-- this worker is not done, and all below it are
pub record IsLowestAt (outcomes : List Outcome) (worker : ℕ) : Type 0 where
  pub within : worker < length outcomes
  pub is : (outcome : Outcome) → slice_index_or outcomes worker outcome ≡ lowest_outcome outcomes
  pub others : (lower : ℕ) (outcome : Outcome) → lower < worker → slice_index_or outcomes lower outcome ≡ Done
