-- Entries of a list that have a step each, one after another.
use Rattle.std.proofs.Common.{◌≡◌, ◌∙◌, ℕ, ◌+◌, ◌<◌, ◌≤◌, List, length, get_or, set, refl, subst, arith}
use Rattle.std.proofs.lemmas.List.{get_or-set_other, get_or_default, length-set}
use Rattle.graph_model.proofs.ListLemmas.{at_set}

module _ {X : Type 0} (R : X → X → Type 0) (Q : ℕ → X → X → Type 0) where
  -- The entries below a number have had their step and are now as they should be, and the others are as they were.
  pub record DoneBelow (e : ℕ) (olds mids : List X) : Type 0 where
    pub many : length mids ≡ length olds
    pub steps : (k : ℕ) (d : X) → k < length olds → R (get_or olds k d) (get_or mids k d)
    pub done : (k : ℕ) (d : X) → k < e → Q k (get_or olds k d) (get_or mids k d)
    pub rest : (k : ℕ) (d : X) → e ≤ k → get_or mids k d ≡ get_or olds k d

  pub none_done : (xs : List X) → ((k : ℕ) (d : X) → k < length xs → R (get_or xs k d) (get_or xs k d)) → DoneBelow 0 xs xs
  none_done xs same = record { many = refl; steps = same; done = λ k d below. absurd (omega arith); rest = λ k d from. refl }

  module _ (e : ℕ) (olds mids : List X) (mid new : X) (within : e < length mids) (below : DoneBelow e olds mids) where
    -- the next one is as it was
    pub next_is : (d : X) → get_or mids e mid ≡ get_or olds e d
    next_is d = get_or_default mids e mid d within ∙ below.rest e d (omega arith)

    -- a step of the next one, whatever comes of it
    pub next_steps : R (get_or mids e mid) new → (k : ℕ) (d : X) → k < length olds → R (get_or olds k d) (get_or (set mids e new) k d)
    next_steps step k d less =
        at_set (λ j x. R (get_or olds j d) x) mids e k new d within
        (λ same. subst (λ x. R x new) (next_is d) step)
        (λ other. below.steps k d less)

    -- and where it comes to what it should
    pub one_done : R (get_or mids e mid) new → Q e (get_or mids e mid) new → DoneBelow (e + 1) olds (set mids e new)
    one_done step now = record {
      many = length-set mids e new ∙ below.many;
      steps = next_steps step;
      done = λ k d less.
          at_set (λ j x. Q j (get_or olds j d) x) mids e k new d within
          (λ same. subst (λ x. Q e x new) (next_is d) now)
          (λ other. below.done k d (omega arith));
      rest = λ k d from. get_or-set_other mids e k new d (omega arith) ∙ below.rest k d (omega arith);
    }
