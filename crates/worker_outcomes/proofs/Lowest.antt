-- The outcome of several workers, by cases.
use Rattle.std.proofs.Common.{◌≡◌, ◌≢◌, ℕ, zero, suc, ◌+◌, ◌<◌, List, [], ◌∷◌, ◌++◌, length, map, get_or, refl, sym, ◌∙◌, subst, arith}
use Rattle.std.proofs.lemmas.List.{get_or-map, length-map}
use Rattle.store_reader.specs.declared.store.Outcome.{Outcome}
use Rattle.store_reader.specs.declared.store.Outcome.TheVariants.{Done, DiskFault, Damaged, Memory}
use Rattle.worker_outcomes.specs.Lowest.{lowest_outcome, IsLowestAt}

pub lowest_more : (outcomes : List Outcome) (next : Outcome) → lowest_outcome (outcomes ++ next ∷ []) ≡ lowest_outcome (lowest_outcome outcomes ∷ next ∷ [])
lowest_more [] next = refl
lowest_more (Done ∷ outcomes) next = lowest_more outcomes next
lowest_more (DiskFault ∷ outcomes) next = refl
lowest_more (Damaged part engine place ∷ outcomes) next = refl
lowest_more (Memory ∷ outcomes) next = refl

pub all_done : (outcomes : List Outcome) → lowest_outcome outcomes ≡ Done → (worker : ℕ) (outcome : Outcome) → worker < length outcomes → get_or outcomes worker outcome ≡ Done
all_done [] done worker outcome below = absurd (omega arith)
all_done (Done ∷ outcomes) done zero outcome below = refl
all_done (Done ∷ outcomes) done (suc worker) outcome below = all_done outcomes done worker outcome (omega arith)
all_done (DiskFault ∷ outcomes) done worker outcome below = absurd (cc done)
all_done (Damaged part engine place ∷ outcomes) done worker outcome below = absurd (cc done)
all_done (Memory ∷ outcomes) done worker outcome below = absurd (cc done)

first_is : (o : Outcome) (outcomes : List Outcome) → lowest_outcome (o ∷ outcomes) ≡ o → IsLowestAt (o ∷ outcomes) 0
first_is o outcomes is = record { within = omega arith; is = λ outcome. cc; others = λ lower outcome below. absurd (omega arith) }

pub is_of : (outcomes : List Outcome) → lowest_outcome outcomes ≢ Done → (worker : ℕ) × IsLowestAt outcomes worker
is_of [] not = absurd (not refl)
is_of (Done ∷ outcomes) not =
    let later = is_of outcomes not in
    (suc later.0, record { within = omega (arith, later.1.within); is = later.1.is; others = λ lower outcome below. below_later outcomes later.0 later.1 lower outcome below })
  where
    below_later : (outcomes : List Outcome) (worker : ℕ) → IsLowestAt outcomes worker → (lower : ℕ) (outcome : Outcome) → lower < suc worker → get_or (Done ∷ outcomes) lower outcome ≡ Done
    below_later outcomes worker at zero outcome below = refl
    below_later outcomes worker at (suc lower) outcome below = at.others lower outcome (omega arith)
is_of (DiskFault ∷ outcomes) not = (0, first_is DiskFault outcomes refl)
is_of (Damaged part engine place ∷ outcomes) not = (0, first_is (Damaged part engine place) outcomes refl)
is_of (Memory ∷ outcomes) not = (0, first_is Memory outcomes refl)

-- workers at their desks
module _ {X : Type 0} (outcome_of : X → Outcome) (desks : List X) where
  abbrev all_outcomes : List Outcome
  all_outcomes = map outcome_of desks

  -- the outcome of the worker whose outcome counts
  pub own_outcome : (w : ℕ) (d : X) → IsLowestAt all_outcomes w → outcome_of (get_or desks w d) ≡ lowest_outcome all_outcomes
  own_outcome w d lowest = sym (get_or-map outcome_of desks w d Done (omega (arith, lowest.within, length-map desks outcome_of))) ∙ lowest.is Done

  -- what is so of each outcome that is not done is so of the one that counts
  pub lowest_meets : (P : Outcome → Type 0) (desk : (w : ℕ) → w < length desks → X)
      → ((w : ℕ) (below : w < length desks) → outcome_of (get_or desks w (desk w below)) ≢ Done → P (outcome_of (get_or desks w (desk w below))))
      → lowest_outcome all_outcomes ≢ Done → P (lowest_outcome all_outcomes)
  lowest_meets P desk each not =
      let lowest = is_of all_outcomes not in
      let below : lowest.0 < length desks = omega (arith, lowest.1.within, length-map desks outcome_of) in
      let own = own_outcome lowest.0 (desk lowest.0 below) lowest.1 in
      subst P own (each lowest.0 below (λ through. not (sym own ∙ through)))

-- what came of the first two counts for them
pub lowest_first : (a b : Outcome) (outcomes : List Outcome) → lowest_outcome (lowest_outcome (a ∷ b ∷ []) ∷ outcomes) ≡ lowest_outcome (a ∷ b ∷ outcomes)
lowest_first Done Done outcomes = refl
lowest_first Done DiskFault outcomes = refl
lowest_first Done (Damaged part engine place) outcomes = refl
lowest_first Done Memory outcomes = refl
lowest_first DiskFault b outcomes = refl
lowest_first (Damaged part engine place) b outcomes = refl
lowest_first Memory b outcomes = refl

-- one outcome is itself
pub lowest_one : (a : Outcome) → lowest_outcome (a ∷ []) ≡ a
lowest_one Done = refl
lowest_one DiskFault = refl
lowest_one (Damaged part engine place) = refl
lowest_one Memory = refl
