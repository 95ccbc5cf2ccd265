-- Accumulators that are reset, worker by worker.
use Rattle.std.proofs.Common.{◌≡◌, ◌∙◌, ℕ, ◌+◌, ◌<◌, List, length, get_or, set, refl, sym, ap, subst, ⊎_elim, arith}
use Rattle.std.specs.List.{All}
use Rattle.std.proofs.lemmas.Bool.{cases_eq}
use Rattle.std.proofs.lemmas.List.{get_or-set_same, get_or-set_other, get_or_default, length-set}
use Rattle.partitioner.specs.declared.split.Split.{Split}
use Rattle.replica_merge.specs.declared.replicas.Replicas.{Replicas}
use Rattle.replica_merge.specs.Accumulators.{split_of, unit_of, IsUnspilled}

abbrev pub IsNew : ℕ → Replicas → Type 0
IsNew unit r = (unit_of r ≡ unit) × IsUnspilled r

pub record ResetBelow (unit w : ℕ) (olds mids : List Replicas) : Type 0 where
  pub many : length mids ≡ length olds
  pub splits : (k : ℕ) (d : Replicas) → k < length olds → split_of (get_or mids k d) ≡ split_of (get_or olds k d)
  pub done : (k : ℕ) (d : Replicas) → k < w → IsNew unit (get_or mids k d)

pub none_reset : (unit : ℕ) (all : List Replicas) → ResetBelow unit 0 all all
none_reset unit all = record { many = refl; splits = λ k d below. refl; done = λ k d below. absurd (omega arith) }

pub one_reset : (unit w : ℕ) (olds mids : List Replicas) (mid new : Replicas) → w < length mids → ResetBelow unit w olds mids → split_of new ≡ split_of (get_or mids w mid) → IsNew unit new → ResetBelow unit (w + 1) olds (set mids w new)
one_reset unit w olds mids mid new within below same is_new = record {
  many = length-set mids w new ∙ below.many;
  splits = λ k d less. ⊎_elim
      (λ here. subst (λ j. split_of (get_or (set mids w new) j d) ≡ split_of (get_or olds j d)) (sym here)
      (ap split_of (get_or-set_same mids w new d within) ∙ same ∙ ap split_of (get_or_default mids w mid d within) ∙ below.splits w d (omega (arith, within, below.many))))
      (λ other. ap split_of (get_or-set_other mids w k new d other) ∙ below.splits k d less)
      (cases_eq k w);
  done = λ k d less. ⊎_elim
      (λ here. subst (λ j. IsNew unit (get_or (set mids w new) j d)) (sym here) (subst (IsNew unit) (sym (get_or-set_same mids w new d within)) is_new))
      (λ other. subst (IsNew unit) (sym (get_or-set_other mids w k new d other)) (below.done k d (omega arith)))
      (cases_eq k w);
}

pub splits_kept : (unit w : ℕ) (olds mids : List Replicas) (split : Split) → ResetBelow unit w olds mids → All (λ r. split_of r ≡ split) olds → All (λ r. split_of r ≡ split) mids
splits_kept unit w olds mids split reset splits k d below =
    let within : k < length olds = omega (arith, below, reset.many) in
    reset.splits k d within ∙ splits k d within
