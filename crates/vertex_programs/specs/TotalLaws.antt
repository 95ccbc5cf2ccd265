-- The programs that add meet the laws of gather.
use Rattle.std.specs.Prelude.{◌≡◌, ℕ, ◌/◌, true, false, ◌==◌, if◌then◌else◌, Some, None, refl}
use Rattle.std.proofs.Common.{arith, inl}
use Rattle.std.proofs.Math.Nat.{div-le_self}
use Rattle.graph_model.specs.declared.value.Value.{Value}
use Rattle.graph_model.specs.Programs.{plus, degrees, pagerank}
use Rattle.gather_laws.specs.Laws.{IsCapped, MergeLaws, GatherLaws}

-- capped sums can be merged in any order
pub plus_laws : MergeLaws 0 plus IsCapped
plus_laws = record {
  unit_is_sum = omega arith;
  merge_is_sum = λ s t _ _. omega arith;
  neutral = λ s capped. omega arith;
  commutes = λ s t _ _. omega arith;
  associates = λ s t u _ _ _. omega arith;
}

pub degrees_laws : GatherLaws degrees IsCapped
degrees_laws = record {
  bounded = λ s capped. inl capped;
  merging = plus_laws;
  folding = λ s u _ _. refl;
  start_is_sum = λ v out _. omega arith;
  send_is_sum = λ value weight s _ sent. let one : 1 ≡ s = cc in omega arith;
  next_is_sum = λ value sum _ capped. capped;
  start_fits = λ v out _ fits. fits;
  next_fits = λ value sum fits. fits;
  counting = record { adds = λ _ a b. refl; from_zero = λ _. refl; ignores = λ e. absurd cc };
  absorbing = λ e. absurd cc;
}

-- a share of a capped number is capped
share_is_sum : (value : Value) (s : ℕ) → IsCapped value.main →
    (if value.side == 0 then None else Some (value.main / value.side)) ≡ Some s → IsCapped s
share_is_sum value s capped = elim (value.side == 0) as
    (λ b. (if b then None else Some (value.main / value.side)) ≡ Some s → IsCapped s) [
      | true ↦ λ none. absurd cc
      | false ↦ λ some. let share : value.main / value.side ≡ s = cc in omega (arith, div-le_self value.main value.side)
    ]

pub pagerank_laws : (rounds : ℕ) → GatherLaws (pagerank rounds) IsCapped
pagerank_laws rounds = record {
  bounded = λ s capped. inl capped;
  merging = plus_laws;
  folding = λ s u _ _. refl;
  start_is_sum = λ v out _. omega arith;
  send_is_sum = λ value weight s capped sent. share_is_sum value s capped sent;
  next_is_sum = λ value sum _ capped. omega arith;
  start_fits = λ v out _ fits. fits;
  next_fits = λ value sum fits. fits;
  counting = record { adds = λ _ a b. refl; from_zero = λ _. refl; ignores = λ e. absurd cc };
  absorbing = λ e. absurd cc;
}
