-- Items that are placed on engines: each is on one of them.
use Rattle.std.proofs.Common.{◌≡◌, ◌∙◌, ℕ, zero, suc, ◌+◌, ◌<◌, ◌≤◌, ◌==◌, Bool, true, false, cond, List, [], ◌∷◌, ◌++◌, length, map, inl, inr, refl, sym, ap, subst, arith, add-one, zero-add}
use Rattle.std.specs.List.{All, range_with_len, sum_by, enumerate_from}
use Rattle.std.proofs.lemmas.Bool.{cases_eq, eq-eqb, ne_eqb}
use Rattle.std.proofs.lemmas.List.Elements.{All-nil, All-cons, All-head, All-tail}
use Rattle.std.proofs.lemmas.List.Sums.{sum_by_push}
use Rattle.seeded_place.specs.Placing.{engine_of, placed, on_engine}
use Rattle.graph_model.proofs.ListLemmas.{range_with_len-more}

-- sums over the first so many engines
abbrev pub over : (ℕ → ℕ) → (count : ℕ) → ℕ
over f count = sum_by f (range_with_len 0 count)

pub over_more : (f : ℕ → ℕ) (n : ℕ) → over f (suc n) ≡ over f n + f n
over_more f n =
    let more : range_with_len 0 (suc n) ≡ range_with_len 0 n ++ n ∷ [] = ap (range_with_len 0) (sym (add-one n)) ∙ range_with_len-more n in
    ap (sum_by f) more ∙ sum_by_push f (range_with_len 0 n) n

pub over_same : (f g : ℕ → ℕ) (n : ℕ) → ((k : ℕ) → k < n → f k ≡ g k) → over f n ≡ over g n
over_same f g zero same = refl
over_same f g (suc n) same =
    let below : over f n ≡ over g n = over_same f g n (λ k less. same k (omega arith)) in
    let here : f n ≡ g n = same n (omega arith) in
    omega (arith, over_more f n, over_more g n, below, here)

over_sum : (f g : ℕ → ℕ) (n : ℕ) → over (λ k. f k + g k) n ≡ over f n + over g n
over_sum f g zero = refl
over_sum f g (suc n) = omega (arith, over_more (λ k. f k + g k) n, over_more f n, over_more g n, over_sum f g n)

-- no engine more has less
pub over_le : (f : ℕ → ℕ) (m n : ℕ) → m ≤ n → over f m ≤ over f n
over_le f m zero within = let none : m ≡ 0 = omega arith in subst (λ k. over f k ≤ over f 0) (sym none) (omega arith)
over_le f m (suc n) within = elim (cases_eq m (suc n)) [
  | inl same ↦ subst (λ k. over f m ≤ over f k) same (omega arith)
  | inr other ↦ omega (arith, over_more f n, over_le f m n (omega arith))
]

hit : (k e : ℕ) → ℕ
hit k e = cond (k == e) 1 0

none_hit : (k n : ℕ) → n ≤ k → over (hit k) n ≡ 0
unfolding hit
none_hit k zero from = refl
none_hit k (suc n) from =
    let here : hit k n ≡ 0 = ap (λ b. cond b 1 0) (ne_eqb k n (λ same. absurd (omega arith))) in
    omega (arith, over_more (hit k) n, none_hit k n (omega arith), here)

one_hit : (k n : ℕ) → k < n → over (hit k) n ≡ 1
unfolding hit
one_hit k zero below = absurd (omega arith)
one_hit k (suc n) below = elim (cases_eq k n) [
  | inl same ↦
      let here : hit k n ≡ 1 = ap (λ b. cond b 1 0) (eq-eqb k n same) in
      omega (arith, over_more (hit k) n, none_hit k n (omega arith), here)
  | inr other ↦
      let here : hit k n ≡ 0 = ap (λ b. cond b 1 0) (ne_eqb k n other) in
      omega (arith, over_more (hit k) n, one_hit k n (omega arith), here)
]

one_longer : {X : Type 0} (x : X) (xs : List X) → length (x ∷ xs) ≡ 1 + length xs
one_longer x xs = omega arith

module _ {X : Type 0} (seed stream engines : ℕ) where
  -- those on an engine, of items that are numbered from n
  on_from : (e n : ℕ) → List X → List X
  on_from e n xs = on_engine e (map (λ (numbered : ℕ × X). (engine_of seed stream engines numbered.0, numbered.1)) (enumerate_from n xs))

  step : (e n : ℕ) (x : X) (xs : List X) (here : Bool) → (engine_of seed stream engines n == e) ≡ here → on_from e n (x ∷ xs) ≡ cond here (x ∷ on_from e (n + 1) xs) (on_from e (n + 1) xs)
  unfolding on_from
  step e n x xs true is = rw is refl
  step e n x xs false is = rw is refl

  all_cond : (P : X → Type 0) (x : X) (xs : List X) (here : Bool) → P x → All P xs → All P (cond here (x ∷ xs) xs)
  all_cond P x xs true p all = All-cons P x xs p all
  all_cond P x xs false p all = all

  all_from : (P : X → Type 0) (e n : ℕ) (xs : List X) → All P xs → All P (on_from e n xs)
  unfolding on_from
  all_from P e n [] all = All-nil P
  all_from P e n (x ∷ xs) all =
      subst (All P) (sym (step e n x xs (engine_of seed stream engines n == e) refl))
      (all_cond P x (on_from e (n + 1) xs) (engine_of seed stream engines n == e) (All-head P x xs all) (all_from P e (n + 1) xs (All-tail P x xs all)))

  -- **What all have, those on an engine have.**
  pub all_on : (P : X → Type 0) (e : ℕ) (xs : List X) → All P xs → All P (on_engine e (placed seed stream engines xs))
  unfolding on_from
  all_on P e xs all = all_from P e 0 xs all

  none_from : ((k : ℕ) → engine_of seed stream engines k < engines) → (e n : ℕ) (xs : List X) → engines ≤ e → on_from e n xs ≡ []
  unfolding on_from
  none_from below e n [] from = refl
  none_from below e n (x ∷ xs) from =
      step e n x xs false (ne_eqb (engine_of seed stream engines n) e (λ same. absurd (omega (arith, below n))))
      ∙ none_from below e (n + 1) xs from

  -- **There is none on an engine that is not.**
  pub none_on : ((k : ℕ) → engine_of seed stream engines k < engines) → (e : ℕ) (xs : List X) → engines ≤ e → on_engine e (placed seed stream engines xs) ≡ []
  unfolding on_from
  none_on below e xs from = none_from below e 0 xs from

  length_step : (e n : ℕ) (x : X) (xs : List X) → length (on_from e n (x ∷ xs)) ≡ hit (engine_of seed stream engines n) e + length (on_from e (n + 1) xs)
  unfolding hit
  length_step e n x xs = by_test (engine_of seed stream engines n == e) refl
    where
      by_test : (here : Bool) → (engine_of seed stream engines n == e) ≡ here → length (on_from e n (x ∷ xs)) ≡ cond (engine_of seed stream engines n == e) 1 0 + length (on_from e (n + 1) xs)
      by_test true is = ap length (step e n x xs true is) ∙ one_longer x (on_from e (n + 1) xs) ∙ sym (ap (λ b. cond b 1 0 + length (on_from e (n + 1) xs)) is)
      by_test false is = ap length (step e n x xs false is) ∙ sym (zero-add (length (on_from e (n + 1) xs))) ∙ sym (ap (λ b. cond b 1 0 + length (on_from e (n + 1) xs)) is)

  length_from : ((k : ℕ) → engine_of seed stream engines k < engines) → (n : ℕ) (xs : List X) → over (λ e. length (on_from e n xs)) engines ≡ length xs
  unfolding on_from
  length_from below n [] = over_zero engines
    where
      over_zero : (m : ℕ) → over (λ (e : ℕ). 0) m ≡ 0
      over_zero zero = refl
      over_zero (suc m) = omega (arith, over_more (λ (e : ℕ). 0) m, over_zero m)
  length_from below n (x ∷ xs) =
      over_same (λ e. length (on_from e n (x ∷ xs))) (λ e. hit (engine_of seed stream engines n) e + length (on_from e (n + 1) xs)) engines (λ e less. length_step e n x xs)
      ∙ over_sum (hit (engine_of seed stream engines n)) (λ e. length (on_from e (n + 1) xs)) engines
      ∙ ap (λ k. k + over (λ e. length (on_from e (n + 1) xs)) engines) (one_hit (engine_of seed stream engines n) engines (below n))
      ∙ ap (λ k. 1 + k) (length_from below (n + 1) xs)
      ∙ sym (one_longer x xs)

  -- **All engines together have all of them.**
  pub length_on : ((k : ℕ) → engine_of seed stream engines k < engines) → (xs : List X) → over (λ e. length (on_engine e (placed seed stream engines xs))) engines ≡ length xs
  unfolding on_from
  length_on below xs = length_from below 0 xs
