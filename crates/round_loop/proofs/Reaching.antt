-- Which rounds repeat, and which is the last.
use Rattle.std.proofs.Common.{◌≡◌, ◌≢◌, ℕ, ◌+◌, ◌-◌, ◌<◌, ◌≤◌, zero, suc, Bool, true, false, not, ◌&&◌, ◌==◌, Option, Some, None, List, [], ◌∷◌, length, get_or, ◌⊎◌, inl, inr, refl, sym, ◌∙◌, ap, subst, arith, le_antisymm}
use Rattle.std.proofs.lemmas.Bool.{cases_lt, and_from, eq-eqb}
use Rattle.std.proofs.lemmas.List.{ext_get_or}
use Rattle.std.proofs.lemmas.List.FromFn.{get_or-range_with_len, length-range_with_len}
use Rattle.std.proofs.lemmas.List.Sums.{length-filter}
use Rattle.std.specs.List.{count_by, filter, range_with_len}
use Rattle.graph_model.specs.declared.edge.Edge.{Edge}
use Rattle.graph_model.specs.declared.value.Value.{Value}
use Rattle.graph_model.specs.declared.job.Job.{Job}
use Rattle.graph_model.specs.Programs.{Rules}
use Rattle.graph_model.specs.Rounds.{values, value_at, has_changed, Repeats, IsLastRound, IsUnsettled}
use Rattle.graph_model.proofs.RoundLemmas.{same_value, other_value, length-values, none_at_first}
use Rattle.round_loop.specs.Starts.{IsReached, IsDue}
use Rattle.round_loop.specs.Kept.{changed_in}
use Rattle.round_loop.specs.Coming.{GoesOn, EndsAt}

below_suc : (k r : ℕ) → k < suc r → (k < r) ⊎ (k ≡ r)
below_suc k r below = grind arith

decide_values : (xs ys : List Value) → (xs ≡ ys) ⊎ ¬ (xs ≡ ys)
decide_values [] [] = inl refl
decide_values (x ∷ xs) [] = inr (λ same. absurd cc)
decide_values [] (y ∷ ys) = inr (λ same. absurd cc)
decide_values (x ∷ xs) (y ∷ ys) = by_head ((x.main == y.main) && (x.side == y.side)) refl (decide_values xs ys)
  where
    by_head : (test : Bool) → ((x.main == y.main) && (x.side == y.side)) ≡ test → (xs ≡ ys) ⊎ ¬ (xs ≡ ys) → ((x ∷ xs) ≡ (y ∷ ys)) ⊎ ¬ ((x ∷ xs) ≡ (y ∷ ys))
    by_head true is (inl tails) = let heads : x ≡ y = same_value x y is in inl cc
    by_head true is (inr other) = inr (λ same. other cc)
    by_head false is rest = inr (λ same. let heads : x ≡ y = cc in other_value x y is heads)

module _ (p : Rules) (n : ℕ) (es : List Edge) where
  decide_repeats : (r : ℕ) → Repeats p n es r ⊎ ¬ (Repeats p n es r)
  decide_repeats zero = inr (none_at_first p n es 0 (omega arith))
  decide_repeats (suc r) = elim (decide_values (values p n es (suc r)) (values p n es r)) [ inl same ↦ inl (omega arith, same) | inr other ↦ inr (λ repeats. other repeats.1) ]

  -- the first round below r that repeats, if there is one
  record First (r : ℕ) : Type 0 where
    round : ℕ
    below : round < r
    repeats : Repeats p n es round
    least : (k : ℕ) → k < round → ¬ (Repeats p n es k)

  first_below : (r : ℕ) → ((k : ℕ) → k < r → ¬ (Repeats p n es k)) ⊎ First r
  first_below zero = inl (λ k below. absurd (omega arith))
  first_below (suc r) = elim (first_below r) [
    | inl none ↦ elim (decide_repeats r) [
      | inl repeats ↦ inr (record { round = r; below = omega arith; repeats = repeats; least = none })
      | inr not_here ↦ inl (λ k below. elim (below_suc k r below) [ inl earlier ↦ none k earlier | inr here ↦ subst (λ m. ¬ (Repeats p n es m)) (sym here) not_here ])
    ]
    | inr found ↦ inr (record { round = found.round; below = omega (arith, found.below); repeats = found.repeats; least = found.least })
  ]

  module _ (limit r : ℕ) where
    fixed_is_last : (last : ℕ) → p.rounds ≡ Some last → IsLastRound p n es limit last
    fixed_is_last last is = record {
      fixed = λ k fixed. let same : Some last ≡ Some k = sym is ∙ fixed in cc;
      repeats = λ open_ended. absurd cc;
      least = λ open_ended. absurd cc;
    }

    early_of : IsReached p n es limit r → p.rounds ≡ None → (k : ℕ) → k < r → ¬ (Repeats p n es k)
    early_of reached open_ended k below repeats = elim (first_below (suc k)) [
      | inl none ↦ none k (omega arith) repeats
      | inr found ↦ elim (cases_lt limit found.round) [
        | inl beyond ↦
            let small : r ≤ limit = reached.within (record { open_ended = open_ended; never = λ j within. found.least j (omega arith) }) in
            absurd (omega (arith, small, found.below))
        | inr within ↦
            let small : r ≤ found.round = reached.no_later found.round (record { fixed = λ m fixed. absurd cc; repeats = λ _. (found.repeats, within); least = λ _. found.least }) in
            absurd (omega (arith, small, found.below))
      ]
    ]

    pub due_of_reached : IsReached p n es limit r → IsDue p n es limit r
    due_of_reached reached = record {
      fixed = λ last is. reached.no_later last (fixed_is_last last is);
      within = λ open_ended. elim (cases_lt limit r) [
        | inl above ↦ reached.within (record { open_ended = open_ended; never = λ j within. early_of reached open_ended j (omega arith) })
        | inr within ↦ within
      ];
      early = early_of reached;
    }

    pub reached_of_due : IsDue p n es limit r → IsReached p n es limit r
    reached_of_due due = record {
      no_later = λ last is_last. by_rounds last is_last p.rounds refl;
      within = λ unsettled. due.within unsettled.open_ended;
    }
      where
        by_rounds : (last : ℕ) → IsLastRound p n es limit last → (rounds : Option ℕ) → p.rounds ≡ rounds → r ≤ last
        by_rounds last is_last (Some k) fixed = let same : last ≡ k = is_last.fixed k fixed in subst (λ m. r ≤ m) (sym same) (due.fixed k fixed)
        by_rounds last is_last None open_ended = elim (cases_lt last r) [
          | inl early ↦ absurd (due.early open_ended last early (is_last.repeats open_ended).0)
          | inr no_later ↦ no_later
        ]

-- How many values changed.
unchanged : (xs : List Value) (v : ℕ) → has_changed xs xs v ≡ false
unchanged xs v =
    let x : Value = value_at xs v in
    let test : ((x.main == x.main) && (x.side == x.side)) ≡ true = and_from (x.main == x.main) (x.side == x.side) (eq-eqb x.main x.main refl) (eq-eqb x.side x.side refl) in
    ap not test

none_changed : (xs : List Value) (vs : List ℕ) → count_by (has_changed xs xs) vs ≡ 0
none_changed xs [] = refl
none_changed xs (v ∷ vs) = rw (unchanged xs v) (none_changed xs vs)

none_kept : {X : Type 0} (test : X → Bool) (xs : List X) (i : ℕ) (d : X) → length (filter test xs) ≡ 0 → i < length xs → test (get_or xs i d) ≡ false
none_kept test [] i d none within = absurd (omega arith)
none_kept test (x ∷ xs) i d none within = by_test (λ j fewer below. none_kept test xs j d fewer below) (test x) refl i within
  where
    by_test : ((j : ℕ) → length (filter test xs) ≡ 0 → j < length xs → test (get_or xs j d) ≡ false) → (b : Bool) → test x ≡ b → (j : ℕ) → j < length (x ∷ xs) → test (get_or (x ∷ xs) j d) ≡ false
    by_test rest true is j below = let more : filter test (x ∷ xs) ≡ x ∷ filter test xs = rw is refl in let long : length (filter test (x ∷ xs)) ≡ length (x ∷ filter test xs) = ap length more in absurd (omega (arith, long, none))
    by_test rest false is zero below = is
    by_test rest false is (suc j) below = let same : filter test (x ∷ xs) ≡ filter test xs = rw is refl in rest j (ap length (sym same) ∙ none) (omega arith)

zero_each : {X : Type 0} (test : X → Bool) (xs : List X) (i : ℕ) (d : X) → count_by test xs ≡ 0 → i < length xs → test (get_or xs i d) ≡ false
zero_each test xs i d none within = none_kept test xs i d (length-filter test xs ∙ none) within

same_at : (before now : List Value) (v : ℕ) → has_changed before now v ≡ false → value_at now v ≡ value_at before v
same_at before now v is = by_test (((value_at now v).main == (value_at before v).main) && ((value_at now v).side == (value_at before v).side)) refl is
  where
    by_test : (b : Bool) → (((value_at now v).main == (value_at before v).main) && ((value_at now v).side == (value_at before v).side)) ≡ b → not b ≡ false → value_at now v ≡ value_at before v
    by_test true test not_other = same_value (value_at now v) (value_at before v) test
    by_test false test not_other = absurd cc

all_same : (before now : List Value) (n : ℕ) → length before ≡ n → length now ≡ n → count_by (has_changed before now) (range_with_len 0 n) ≡ 0 → now ≡ before
all_same before now n long_before long_now none =
    ext_get_or (record { main = 0; side = 0 }) now before (long_now ∙ sym long_before)
    (λ v within.
    let here : get_or (range_with_len 0 n) v 0 ≡ v = get_or-range_with_len 0 n v 0 (omega (arith, long_now)) ∙ omega arith in
    same_at before now v (subst (λ k. has_changed before now k ≡ false) here (zero_each (has_changed before now) (range_with_len 0 n) v 0 none (omega (arith, long_now, length-range_with_len 0 n)))))

module _ (p : Rules) (job : Job) (es : List Edge) where
  changed_at : (r : ℕ) → changed_in p job es (suc r) ≡ count_by (has_changed (values p job.vertices es r) (values p job.vertices es (suc r))) (range_with_len 0 job.vertices)
  changed_at r =
      let back : suc r - 1 ≡ r = omega arith in
      ap (λ k. count_by (has_changed (values p job.vertices es k) (values p job.vertices es (suc r))) (range_with_len 0 job.vertices)) back

  pub repeats_of_none : (r : ℕ) → 1 ≤ r → changed_in p job es r ≡ 0 → Repeats p job.vertices es r
  repeats_of_none zero later none = absurd (omega arith)
  repeats_of_none (suc r) later none =
      (later, all_same (values p job.vertices es r) (values p job.vertices es (suc r)) job.vertices (length-values p job.vertices es r) (length-values p job.vertices es (suc r)) (sym (changed_at r) ∙ none))

  pub none_of_repeats : (r : ℕ) → Repeats p job.vertices es r → changed_in p job es r ≡ 0
  none_of_repeats zero repeats = absurd (omega (arith, repeats.0))
  none_of_repeats (suc r) repeats =
      changed_at r
      ∙ subst (λ (now : List Value). count_by (has_changed (values p job.vertices es r) now) (range_with_len 0 job.vertices) ≡ 0) (sym repeats.1)
      (none_changed (values p job.vertices es r) (range_with_len 0 job.vertices))

  module _ (r changed : ℕ) (due : IsDue p job.vertices es job.limit r) (counted : changed ≡ changed_in p job es r) where
    not_yet : p.rounds ≡ None → (1 ≤ r → changed ≢ 0) → (k : ℕ) → k < suc r → ¬ (Repeats p job.vertices es k)
    not_yet open_ended some k below repeats = elim (below_suc k r below) [
      | inl earlier ↦ due.early open_ended k earlier repeats
      | inr here ↦
          let this : Repeats p job.vertices es r = subst (Repeats p job.vertices es) here repeats in
          some this.0 (counted ∙ none_of_repeats r this)
    ]

    -- the next round is one that the run may come to
    pub next_is_due : GoesOn p job.limit r changed → IsDue p job.vertices es job.limit (r + 1)
    next_is_due goes = record {
      fixed = λ last is. omega (arith, goes.fixed last is);
      within = λ open_ended. omega (arith, goes.within open_ended);
      early = λ open_ended k below. not_yet open_ended (goes.unsettled open_ended) k (omega arith);
    }

    -- the run has come to the last round
    pub ends_at_last : EndsAt p job.limit r changed → (p.rounds ≡ None → (1 ≤ r) × (changed ≡ 0)) → IsLastRound p job.vertices es job.limit r
    ends_at_last ends settled = record {
      fixed = λ k is. le_antisymm (due.fixed k is) (ends.fixed k is);
      repeats = λ open_ended. (repeats_of_none r (settled open_ended).0 (sym counted ∙ (settled open_ended).1), due.within open_ended);
      least = due.early;
    }

    -- the run has come to the limit
    pub ends_unsettled : p.rounds ≡ None → EndsAt p job.limit r changed → (1 ≤ r → changed ≢ 0) → IsUnsettled p job.vertices es job.limit × (r ≡ job.limit)
    ends_unsettled open_ended ends some =
        let limit : r ≡ job.limit = elim (ends.open_ended open_ended) [
          | inl beyond ↦ le_antisymm (due.within open_ended) beyond
          | inr settled ↦ absurd (some settled.0 settled.1)
        ] in
        (record { open_ended = open_ended; never = λ k within. not_yet open_ended some k (omega (arith, limit)) }, limit)
