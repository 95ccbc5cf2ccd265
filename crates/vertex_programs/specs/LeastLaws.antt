-- The programs that keep the least number meet the laws of gather.
use Rattle.std.specs.Prelude.{◌≡◌, ℕ, ◌≤◌, ◌<◌, ◌^◌, true, false, ◌==◌, if◌then◌else◌, Option, Some, None, min, refl}
use Rattle.std.proofs.Common.{arith, inl, inr, ap, subst}
use Rattle.graph_model.specs.declared.value.Value.{Value}
use Rattle.graph_model.specs.Programs.{Rules, NONE, plus, from_root, keep_least, send_further, bfs, labels, sssp}
use Rattle.gather_laws.specs.Laws.{IsCappedOrNone, MergeLaws, GatherLaws, Absorbs}

-- rules that keep the least number, by what they start with and send
abbrev least_rules : (ℕ → Value) → (Value → ℕ → Option ℕ) → Rules
least_rules first send = record {
  start = λ v out. first v;
  send = send;
  unit = NONE;
  merge = min;
  fold = min;
  next = keep_least;
  counts = false;
  rounds = None;
  absorbs = true;
}

min_is_sum : (s t : ℕ) → IsCappedOrNone s → IsCappedOrNone t → IsCappedOrNone (min s t)
min_is_sum s t = elim [
  | inl s_capped ↦ λ t_is_sum. inl (omega arith)
  | inr s_none ↦ elim [ inl t_capped ↦ inl (omega arith) | inr t_none ↦ inr (omega arith) ]
]

none_is_most : (s : ℕ) → IsCappedOrNone s → s ≤ NONE
none_is_most s = elim [ inl capped ↦ omega arith | inr none ↦ omega arith ]

min_laws : MergeLaws NONE min IsCappedOrNone
min_laws = record {
  unit_is_sum = inr refl;
  merge_is_sum = min_is_sum;
  neutral = λ s is_sum. omega (arith, none_is_most s is_sum);
  commutes = λ s t _ _. omega arith;
  associates = λ s t u _ _ _. omega arith;
}

-- what was merged before does not lower a number again
least_absorbs : (first : ℕ → Value) (send : Value → ℕ → Option ℕ) → Absorbs (least_rules first send) IsCappedOrNone
least_absorbs first send value s t u _ _ _ _ =
    let same : min (min value.main (min s u)) (min t u) ≡ min (min value.main (min s u)) t = omega arith in
    let with_side : ℕ → Value = λ main. record { main = main; side = value.side } in
    ap with_side same

least_laws : (first : ℕ → Value) (send : Value → ℕ → Option ℕ) →
    ((v : ℕ) → v < 2 ^ 32 → IsCappedOrNone (first v).main) → ((v : ℕ) → (first v).side ≡ 0) →
    ((value : Value) (weight s : ℕ) → IsCappedOrNone value.main → send value weight ≡ Some s → IsCappedOrNone s) →
    GatherLaws (least_rules first send) IsCappedOrNone
least_laws first send starts plain sends = record {
  bounded = λ s is_sum. is_sum;
  merging = min_laws;
  folding = λ s u _ _. refl;
  start_is_sum = λ v out below. starts v below;
  send_is_sum = sends;
  next_is_sum = λ value sum value_is sum_is. min_is_sum value.main sum value_is sum_is;
  start_fits = λ v out _ _. omega (arith, plain v);
  next_fits = λ value sum fits. fits;
  counting = record { adds = λ e. cc; from_zero = λ e. cc; ignores = λ _ v out other. refl };
  absorbing = λ _. least_absorbs first send;
}

root_is_sum : (root v : ℕ) → v < 2 ^ 32 → IsCappedOrNone (from_root root v 0).main
root_is_sum root v below = elim (v == root) as (λ b. IsCappedOrNone (if b then 0 else NONE)) [
  | true ↦ inl (omega arith)
  | false ↦ inr refl
]

further_is_sum : (value : Value) (step s : ℕ) → send_further value step ≡ Some s → IsCappedOrNone s
further_is_sum value step s = elim (value.main == NONE) as
    (λ b. (if b then None else Some (plus value.main step)) ≡ Some s → IsCappedOrNone s) [
      | true ↦ λ none. absurd cc
      | false ↦ λ some. let sum : plus value.main step ≡ s = cc in inl (omega arith)
    ]

pub bfs_laws : (root : ℕ) → GatherLaws (bfs root) IsCappedOrNone
bfs_laws root = least_laws (λ v. from_root root v 0) (λ value weight. send_further value 1) (root_is_sum root) (λ v. refl)
    (λ value weight s _ sent. further_is_sum value 1 s sent)

pub labels_laws : GatherLaws labels IsCappedOrNone
labels_laws = least_laws (λ v. record { main = v; side = 0 }) (λ value weight. Some value.main) (λ v below. inl (omega arith)) (λ v. refl)
    (λ value weight s value_is sent. let same : value.main ≡ s = cc in subst IsCappedOrNone same value_is)

pub sssp_laws : (root : ℕ) → GatherLaws (sssp root) IsCappedOrNone
sssp_laws root = least_laws (λ v. from_root root v 0) send_further (root_is_sum root) (λ v. refl)
    (λ value weight s _ sent. further_is_sum value weight s sent)
