-- What desks say while they are dealt and collected.
use Rattle.std.proofs.Common.{◌≡◌, ℕ, suc, ◌+◌, ◌-◌, ◌^◌, ◌<◌, ◌≤◌, nat_lt, Bool, true, false, min, List, [], ◌∷◌, ◌++◌, length, map, refl, subst, arith, slice_index_or}
use Rattle.std.specs.List.{All}
use Rattle.std.proofs.lemmas.Bool.{ltb-true, ltb-false}
use Rattle.std.proofs.lemmas.List.{get_or_append_left, get_or_push}
use Rattle.std.proofs.lemmas.List.Sums.{sum_by-cons}
use Rattle.checkpoint.specs.declared.apply.ApplyDesk.{ApplyDesk}
use Rattle.apply_round.specs.Crew.{capped}

pub capped_step : (a b : ℕ) (rest : List ℕ) → capped (min (a + b) (2 ^ 64 - 1) ∷ rest) ≡ capped (a ∷ b ∷ rest)
capped_step a b rest = omega (arith, sum_by-cons (λ (x : ℕ). x) (min (a + b) (2 ^ 64 - 1)) rest, sum_by-cons (λ (x : ℕ). x) a (b ∷ rest), sum_by-cons (λ (x : ℕ). x) b rest)

-- one desk more stands at its engine's place
pub engines_more : {D M : Type 0} (desks desks' : List (ApplyDesk D M)) (desk : ApplyDesk D M) (count : ℕ) → desks' ≡ desks ++ desk ∷ [] → length desks ≡ count → desk.engine ≡ count →
    ((e : ℕ) (d : ApplyDesk D M) → e < count → (slice_index_or desks e d).engine ≡ e) → (e : ℕ) (d : ApplyDesk D M) → e < count + 1 → (slice_index_or desks' e d).engine ≡ e
engines_more desks desks' desk count more long here before e d below = place (nat_lt e count) refl
  where
    place : (test : Bool) → nat_lt e count ≡ test → (slice_index_or desks' e d).engine ≡ e
    place true is =
        let lower : e < count = ltb-true e count is in
        let within : e < length desks = omega arith in
        rw (more, get_or_append_left desks (desk ∷ []) d e within) (before e d lower)
    place false is =
        let higher : count ≤ e = ltb-false e count is in
        rw (more, get_or_push desks desk d e (omega arith)) (omega arith)

pub all_rest : {A : Type 0} (P : A → Type 0) (xs xs' : List A) (x : A) → xs ≡ x ∷ xs' → All P xs → P x × All P xs'
all_rest P xs xs' x first each = let whole : All P (x ∷ xs') = subst (All P) first each in (whole 0 x (omega arith), λ k d below. whole (suc k) d (omega (arith, below)))

-- the sum of one count is that count
pub capped_end : {A : Type 0} (f : A → ℕ) (xs : List A) (count total : ℕ) → length xs ≡ 0 → count < 2 ^ 64 → capped (count ∷ map f xs) ≡ total → count ≡ total
capped_end f [] count total none fits is = omega (arith, sum_by-cons (λ (x : ℕ). x) count [])
capped_end f (x ∷ xs) count total none fits is = absurd (omega arith)
