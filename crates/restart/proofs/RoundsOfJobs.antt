-- No job has a round above 1,000,000, and its values devices hold its rounds.
use Rattle.std.proofs.Common.{◌≡◌, ◌≢◌, ◌∙◌, ◌⊎◌, ℕ, zero, suc, ◌<◌, ◌≤◌, List, [], ◌∷◌, Option, Some, None, inl, inr, refl, sym, ap, subst, arith}
use Rattle.std.proofs.lemmas.Bool.{cases_eq}
use Rattle.graph_model.specs.declared.edge.Edge.{Edge}
use Rattle.graph_model.specs.declared.job.Job.{Job}
use Rattle.graph_model.specs.declared.job.Program.{Program}
use Rattle.graph_model.specs.declared.job.Program.TheVariants.{Bfs, Labels, Sssp, Degrees, PageRank}
use Rattle.graph_model.specs.declared.value.Value.{Value}
use Rattle.graph_model.specs.Programs.{Rules, rules_of}
use Rattle.graph_model.specs.Rounds.{values, Repeats, IsLastRound}
use Rattle.graph_model.specs.Jobs.{IsWellFormedJob, IsWellFormedProgram}
use Rattle.store_model.specs.Kept.{IsReached}
use Rattle.store_checks.proofs.GoodHeads.{some_none}

-- whether two lists of values are the same
same_value : (x y : Value) → (x ≡ y) ⊎ (x ≢ y)
same_value x y = elim (cases_eq x.main y.main) [
  | inl main ↦ elim (cases_eq x.side y.side) [
    | inl side ↦ inl (ap (made x.side) main ∙ ap (λ s. made s y.main) side)
    | inr other ↦ inr (λ same. other (ap (λ (v : Value). v.side) same))
  ]
  | inr other ↦ inr (λ same. other (ap (λ (v : Value). v.main) same))
]
  where
    made : (side main : ℕ) → Value
    made side main = record { main = main; side = side }

head_or : Value → List Value → Value
head_or d [] = d
head_or d (v ∷ vs) = v

tail_of : List Value → List Value
tail_of [] = []
tail_of (v ∷ vs) = vs

is_nothing : List Value → ℕ
is_nothing [] = 1
is_nothing (v ∷ vs) = 0

same_values : (xs ys : List Value) → (xs ≡ ys) ⊎ (xs ≢ ys)
unfolding head_or tail_of is_nothing
same_values [] [] = inl refl
same_values [] (y ∷ ys) = inr (λ same. let none : ◌≡◌ {A = ℕ} 1 0 = ap is_nothing same in absurd (omega (arith, none)))
same_values (x ∷ xs) [] = inr (λ same. let none : ◌≡◌ {A = ℕ} 0 1 = ap is_nothing same in absurd (omega (arith, none)))
same_values (x ∷ xs) (y ∷ ys) = elim (same_value x y) [
  | inl first ↦ elim (same_values xs ys) [
    | inl rest ↦ inl (ap (λ v. v ∷ xs) first ∙ ap (λ vs. y ∷ vs) rest)
    | inr other ↦ inr (λ same. other (ap tail_of same))
  ]
  | inr other ↦ inr (λ same. other (ap (head_or x) same))
]

module _ (p : Rules) (vertices : ℕ) (edges : List Edge) where
  repeats_or_not : (round : ℕ) → Repeats p vertices edges round ⊎ (¬ (Repeats p vertices edges round))
  repeats_or_not zero = inr (λ repeats. absurd (omega (arith, repeats.0)))
  repeats_or_not (suc round) = elim (same_values (values p vertices edges (suc round)) (values p vertices edges round)) [
    | inl same ↦ inl (omega arith, same)
    | inr other ↦ inr (λ repeats. other repeats.1)
  ]

  -- up to this round one repeats, and none before it; or none does
  pub record Settles (limit : ℕ) : Type 0 where
    pub round : ℕ
    pub within : round ≤ limit
    pub repeats : Repeats p vertices edges round
    pub least : (k : ℕ) → k < round → ¬ (Repeats p vertices edges k)

  settles_or_not : (limit : ℕ) → Settles limit ⊎ ((round : ℕ) → round ≤ limit → ¬ (Repeats p vertices edges round))
  settles_or_not zero = inr (λ round within repeats. absurd (omega (arith, within, repeats.0)))
  settles_or_not (suc limit) = elim (settles_or_not limit) [
    | inl settled ↦ inl (record { round = settled.round; within = omega (arith, settled.within); repeats = settled.repeats; least = settled.least })
    | inr none ↦ elim (repeats_or_not (suc limit)) [
      | inl here ↦ inl (record { round = suc limit; within = omega arith; repeats = here; least = λ k below. none k (omega arith) })
      | inr not_here ↦ inr (λ round within. elim (cases_eq round (suc limit)) [
        | inl same ↦ subst (λ r. ¬ (Repeats p vertices edges r)) (sym same) not_here
        | inr other ↦ none round (omega arith)
      ])
    ]
  ]

or_zero : Option ℕ → ℕ
or_zero None = 0
or_zero (Some k) = k

some_same : (a b : ℕ) → ◌≡◌ {A = Option ℕ} (Some a) (Some b) → a ≡ b
unfolding or_zero
some_same a b same = ap or_zero same

-- a job's last round, or that it has none, where the number of its rounds is fixed or not
by_rounds : (job : Job) (edges : List Edge) (round : ℕ) (fixed : Option ℕ) → (rules_of job.program).rounds ≡ fixed → (fixed ≡ None ⊎ ((k : ℕ) × (fixed ≡ Some k) × (k ≤ 1000000)))
    → IsWellFormedJob job → IsReached job edges round → round ≤ 1000000
by_rounds job edges round fixed is (inr found) well reached =
    let last : IsLastRound (rules_of job.program) job.vertices edges job.limit found.0 = record {
      fixed = λ k same. some_same found.0 k (sym (is ∙ found.1) ∙ same);
      repeats = λ none. absurd (some_none found.0 (sym (is ∙ found.1) ∙ none));
      least = λ none. absurd (some_none found.0 (sym (is ∙ found.1) ∙ none));
    } in
    omega (arith, reached.no_later found.0 last, found.2)
by_rounds job edges round fixed is (inl none) well reached = elim (settles_or_not (rules_of job.program) job.vertices edges job.limit) [
  | inl settled ↦
      let last : IsLastRound (rules_of job.program) job.vertices edges job.limit settled.round = record {
        fixed = λ k some. absurd (some_none k (sym some ∙ is ∙ none));
        repeats = λ _. (settled.repeats, settled.within);
        least = λ _. settled.least;
      } in
      omega (arith, reached.no_later settled.round last, settled.within, well.limit.1)
  | inr never ↦ omega (arith, reached.within (record { open_ended = is ∙ none; never = never }), well.limit.1)
]

rounds_of : (vertices : ℕ) (p : Program) → IsWellFormedProgram vertices p → ((rules_of p).rounds ≡ None) ⊎ ((k : ℕ) × ((rules_of p).rounds ≡ Some k) × (k ≤ 1000000))
rounds_of vertices (Bfs root) well = inl refl
rounds_of vertices Labels well = inl refl
rounds_of vertices (Sssp root) well = inl refl
rounds_of vertices Degrees well = inr (1, refl, omega arith)
rounds_of vertices (PageRank rounds) well = inr (rounds, refl, omega (arith, well.1))

-- **A round that a job may reach is at most 1,000,000.**
pub reached_few : (job : Job) (edges : List Edge) (round : ℕ) → IsWellFormedJob job → IsReached job edges round → round ≤ 1000000
reached_few job edges round well reached = by_rounds job edges round (rules_of job.program).rounds refl (rounds_of job.vertices job.program well.program) well reached
