-- Updates that are folded into sums.
use Rattle.std.proofs.Common.{◌≡◌, ◌≢◌, ℕ, ◌+◌, ◌-◌, ◌<◌, ◌≤◌, ◌==◌, nat_lt, if◌then◌else◌, Bool, true, false, List, [], ◌∷◌, ◌++◌, length, get_or, set, refl, sym, ◌∙◌, ap, subst, arith}
use Rattle.std.specs.List.{fold}
use Rattle.std.proofs.lemmas.List.{get_or-set_same, get_or-set_other}
use Rattle.std.proofs.lemmas.List.Sums.{fold-append}
use Rattle.std.proofs.lemmas.Bool.{eqb-true, eqb-false, ltb-true}
use Rattle.graph_model.specs.declared.value.Update.{Update}
use Rattle.phase_model.specs.Sums.{values_to}
use Rattle.phase_model.proofs.Sent.{values_to-append}

-- the sum at a place, where the updates were folded into the sums from `first` on
abbrev pub gathered : (ℕ → ℕ → ℕ) → ℕ → List ℕ → List Update → ℕ → ℕ
gathered add first old updates place = if nat_lt place first then get_or old place 0 else fold add (get_or old place 0) (values_to (place - first) updates)

values_to_here : (u : Update) (v : ℕ) → u.dst == v ≡ true → values_to v (u ∷ []) ≡ u.value ∷ []
values_to_here u v test = rw test refl

values_to_other : (u : Update) (v : ℕ) → u.dst == v ≡ false → values_to v (u ∷ []) ≡ []
values_to_other u v test = rw test refl

-- one update more into a sum
fold_more : (add : ℕ → ℕ → ℕ) (s v : ℕ) (before : List Update) (u : Update) (here : Bool) → u.dst == v ≡ here →
    fold add s (values_to v (before ++ u ∷ [])) ≡ (if here then add (fold add s (values_to v before)) u.value else fold add s (values_to v before))
fold_more add s v before u true test =
    ap (fold add s) (values_to-append v before (u ∷ []) ∙ ap (λ back. values_to v before ++ back) (values_to_here u v test))
    ∙ fold-append add s (values_to v before) (u.value ∷ [])
fold_more add s v before u false test =
    ap (fold add s) (values_to-append v before (u ∷ []) ∙ ap (λ back. values_to v before ++ back) (values_to_other u v test))
    ∙ fold-append add s (values_to v before) []

module _ (add : ℕ → ℕ → ℕ) (first : ℕ) (old sums : List ℕ) (before : List Update) (u : Update) (within : first + u.dst < length sums)
    (so_far : (place : ℕ) → get_or sums place 0 ≡ gathered add first old before place) where
  abbrev pub new : List ℕ
  new = set sums (first + u.dst) (add (get_or sums (first + u.dst) 0) u.value)

  no_less : (place : ℕ) (less : Bool) → first ≤ place → nat_lt place first ≡ less →
      (if less then get_or old place 0 else fold add (get_or old place 0) (values_to (place - first) before)) ≡ fold add (get_or old place 0) (values_to (place - first) before)
  no_less place true from test = let below : place < first = ltb-true place first test in absurd (omega arith)
  no_less place false from test = refl

  -- the sums from `first` on
  inside : (place : ℕ) (here : Bool) → first ≤ place → u.dst == place - first ≡ here → get_or new place 0 ≡ fold add (get_or old place 0) (values_to (place - first) (before ++ u ∷ []))
  inside place true from test =
      let at : u.dst ≡ place - first = eqb-true u.dst (place - first) test in
      let is_place : first + u.dst ≡ place = omega arith in
      subst (λ k. get_or new k 0 ≡ add (get_or sums k 0) u.value) is_place (get_or-set_same sums (first + u.dst) (add (get_or sums (first + u.dst) 0) u.value) 0 within)
      ∙ ap (λ s. add s u.value) (so_far place ∙ no_less place (nat_lt place first) from refl)
      ∙ sym (fold_more add (get_or old place 0) (place - first) before u true test)
  inside place false from test =
      let apart : place ≢ first + u.dst = λ equal. eqb-false u.dst (place - first) test (omega arith) in
      get_or-set_other sums (first + u.dst) place (add (get_or sums (first + u.dst) 0) u.value) 0 apart
      ∙ so_far place ∙ no_less place (nat_lt place first) from refl
      ∙ sym (fold_more add (get_or old place 0) (place - first) before u false test)

  -- and those below
  by_place : (place : ℕ) (less : Bool) → nat_lt place first ≡ less →
      get_or new place 0 ≡ (if less then get_or old place 0 else fold add (get_or old place 0) (values_to (place - first) (before ++ u ∷ [])))
  by_place place true test =
      let below : place < first = ltb-true place first test in
      let apart : place ≢ first + u.dst = omega arith in
      get_or-set_other sums (first + u.dst) place (add (get_or sums (first + u.dst) 0) u.value) 0 apart ∙ so_far place ∙ ap (λ less. if less then get_or old place 0 else fold add (get_or old place 0) (values_to (place - first) before)) test
  by_place place false test = inside place (u.dst == place - first) (grind arith) refl

  -- **With one update more the sums are the folds of all updates so far.**
  pub gathered_more : (place : ℕ) → get_or new place 0 ≡ gathered add first old (before ++ u ∷ []) place
  gathered_more place = by_place place (nat_lt place first) refl
