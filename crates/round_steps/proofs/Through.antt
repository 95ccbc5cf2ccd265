-- The seat goes through epochs, one after the other.
use Rattle.std.proofs.Common.{◌≡◌, ℕ, ◌+◌, List, [], ◌∷◌, ◌++◌, sym, ◌∙◌, ap, subst, arith, append_assoc}
use Rattle.std.proofs.lemmas.List.{append-nil}
use Rattle.chunk_object.proofs.Covered.{count_by-append}
use Rattle.chunk_object.specs.Epochs.{Terms, Epoch, all_calls, epoch_entries, epochs_entries}
use Rattle.chunk_object.specs.History.{StandsWhole}
use Rattle.chunk_cursor.specs.declared.view.View.{View}
use Rattle.phase_model.specs.Taken.{claims, admissions, is_admission}
use Rattle.phase_model.proofs.Lists.{claims-append}
use Rattle.epoch_seats.specs.Between.{IsBetweenEpochs}
use Rattle.epoch_seats.specs.Made.{HasMadeEpoch}
use Rattle.round_steps.specs.Epochs.{GoesThrough}

-- no epoch
pub through_none : (terms : Terms) (before after : View) (took helped : ℕ) → IsBetweenEpochs before → after ≡ before → took ≡ 0 → helped ≡ 0 → GoesThrough terms before after took helped []
through_none terms before after took helped between same none none' = record {
  story = ap (λ (v : View). v.story) same ∙ sym (append-nil before.story);
  splits = ap (λ (v : View). v.splits) same ∙ omega arith;
  held = ap (λ (v : View). v.held) same;
  between = subst IsBetweenEpochs (sym same) between;
  whole = λ stands. subst (λ (v : View). StandsWhole v.story) (sym same) stands;
  claims_are = none;
  admissions_are = none';
}

-- one
pub through_one : (terms : Terms) (lens : ℕ → ℕ) (IsThrough : Type 0) (before after : View) (took helped : ℕ) (epoch : Epoch) → HasMadeEpoch terms lens IsThrough before after took helped epoch → GoesThrough terms before after took helped (epoch ∷ [])
through_one terms lens IsThrough before after took helped epoch made = record {
  story = made.ended.story ∙ ap (λ (xs : List _). before.story ++ xs) (sym (append-nil (epoch_entries terms before.splits epoch)));
  splits = made.ended.splits ∙ omega arith;
  held = made.ended.held;
  between = made.ended.between;
  whole = λ stands. made.ended.whole;
  claims_are = made.claims_are ∙ ap claims (sym (append-nil (all_calls epoch)));
  admissions_are = made.admissions_are ∙ ap admissions (sym (append-nil (all_calls epoch)));
}

-- two, one after the other
pub through_two : (terms : Terms) (before mid after : View) (took helped took' helped' took_all helped_all : ℕ) (first second : Epoch) → GoesThrough terms before mid took helped (first ∷ []) → GoesThrough terms mid after took' helped' (second ∷ []) →
    took_all ≡ took + took' → helped_all ≡ helped + helped' → GoesThrough terms before after took_all helped_all (first ∷ second ∷ [])
through_two terms before mid after took helped took' helped' took_all helped_all first second one two took_is helped_is =
    let splits : mid.splits ≡ before.splits + terms.engines = one.splits ∙ omega arith in
    record {
      story = two.story
          ∙ ap (λ (xs : List _). xs ++ epochs_entries terms mid.splits (second ∷ [])) one.story
          ∙ ap (λ (s : ℕ). (before.story ++ (epoch_entries terms before.splits first ++ [])) ++ epochs_entries terms s (second ∷ [])) splits
          ∙ ap (λ (xs : List _). (before.story ++ xs) ++ epochs_entries terms (before.splits + terms.engines) (second ∷ [])) (append-nil (epoch_entries terms before.splits first))
          ∙ append_assoc before.story (epoch_entries terms before.splits first) (epochs_entries terms (before.splits + terms.engines) (second ∷ []));
      splits = two.splits ∙ omega (arith, splits);
      held = two.held ∙ one.held;
      between = two.between;
      whole = λ stands. two.whole (one.whole stands);
      claims_are = took_is ∙ omega (arith, one.claims_are, two.claims_are, claims-append (all_calls first) [], claims-append (all_calls second) [], claims-append (all_calls first) (all_calls second ++ []));
      admissions_are = helped_is ∙ omega (arith, one.admissions_are, two.admissions_are, count_by-append is_admission (all_calls first) [], count_by-append is_admission (all_calls second) [], count_by-append is_admission (all_calls first) (all_calls second ++ []));
    }
