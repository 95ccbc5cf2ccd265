-- The round that stands in a slot of several engines, and the greater one of both slots.
use Rattle.std.proofs.Common.{◌≡◌, ◌≢◌, ◌∙◌, ◌⊎◌, ℕ, zero, suc, ◌+◌, ◌%◌, ◌<◌, ◌≤◌, ◌==◌, if◌then◌else◌, Bool, true, false, List, [], ◌∷◌, length, map, Option, Some, None, inl, inr, refl, sym, ap, subst, arith, zero-add, IfSome, ◌^◌}
use Rattle.std.specs.List.{range_with_len, sum_by}
use Rattle.std.proofs.lemmas.Bool.{cases_lt, cases_eq, false≢true}
use Rattle.std.proofs.lemmas.List.Sums.{sum_by_push}
use Rattle.partitioner.specs.declared.split.Split.{Split}
use Rattle.partitioner.specs.Splits.{IsSplit}
use Rattle.partitioner.proofs.Owned.{own_count-le}
use Rattle.store_model.specs.Slots.{slot_of, device_size}
use Rattle.store_model.specs.Kept.{device}
use Rattle.store_model.specs.Damage.{Fault, first_of, first_over, is_open_slot, round_in, changed_of, slot_fault, device_fault, ValuesDamaged}
use Rattle.graph_model.proofs.ListLemmas.{range_with_len-more}
use Rattle.store_checks.specs.declared.kept.Standing.{Standing}
use Rattle.store_checks.specs.Rounds.{TellsSlot, StandsIn, changed_over, FindsRound, IsWithin, IsKept, NoneKept}
use Rattle.store_reader.specs.Reading.{own_in}

-- one engine more
over_one_more : (own : ℕ → ℕ) (told : List (List ℕ)) (slot e : ℕ) → changed_over own told slot (e + 1) ≡ changed_over own told slot e + changed_of (own e) slot (device told e)
over_one_more own told slot e =
    ap (sum_by (λ k. changed_of (own k) slot (device told k))) (range_with_len-more e)
    ∙ sum_by_push (λ k. changed_of (own k) slot (device told k)) (range_with_len 0 e) e

stands_more : (own : ℕ → ℕ) (told : List (List ℕ)) (slot e round : ℕ) → StandsIn own told slot e round → is_open_slot (own e) slot (device told e) ≡ true → round_in (own e) slot (device told e) ≡ round → StandsIn own told slot (e + 1) round
stands_more own told slot e round below opened here k less = elim (cases_lt k e) [
  | inl before ↦ below k before
  | inr from ↦
      let same : e ≡ k = omega arith in
      subst (λ (j : ℕ). (is_open_slot (own j) slot (device told j) ≡ true) × (round_in (own j) slot (device told j) ≡ round)) same (opened, here)
]

pub first_found : (own : ℕ → ℕ) (told : List (List ℕ)) (slot : ℕ) (first : Standing) → TellsSlot (own 0) slot (device told 0) (Some first) → FindsRound own told slot 1 (Some first)
first_found own told slot first tells = (
  stands_more own told slot 0 first.round (λ k less. absurd (omega arith)) tells.0 tells.1,
  sym (over_one_more own told slot 0 ∙ ap (λ n. n + changed_of (own 0) slot (device told 0)) nothing ∙ zero-add (changed_of (own 0) slot (device told 0)) ∙ tells.2),
)
  where
    nothing : changed_over own told slot 0 ≡ 0
    nothing = refl

pub same_joins : (own : ℕ → ℕ) (told : List (List ℕ)) (slot e : ℕ) (so_far next : Standing) → FindsRound own told slot e (Some so_far) → TellsSlot (own e) slot (device told e) (Some next) → next.round ≡ so_far.round
    → StandsIn own told slot (e + 1) so_far.round × (so_far.changed + next.changed ≡ changed_over own told slot (e + 1))
same_joins own told slot e so_far next finds tells same = (
  stands_more own told slot e so_far.round finds.0 tells.0 (tells.1 ∙ same),
  sym (over_one_more own told slot e ∙ ap (λ n. n + changed_of (own e) slot (device told e)) (sym finds.1) ∙ ap (λ n. so_far.changed + n) tells.2),
)

pub another_joins_not : (own : ℕ → ℕ) (told : List (List ℕ)) (slot e : ℕ) (so_far next : Standing) → 0 < e → FindsRound own told slot e (Some so_far) → TellsSlot (own e) slot (device told e) (Some next) → next.round ≢ so_far.round → FindsRound own told slot (e + 1) None
another_joins_not own told slot e so_far next some finds tells other = λ round stands.
    other (sym tells.1 ∙ (stands e (omega arith)).1 ∙ sym (stands 0 (omega arith)).1 ∙ (finds.0 0 some).1)

pub closed_joins_not : (own : ℕ → ℕ) (told : List (List ℕ)) (slot e count : ℕ) → e < count → TellsSlot (own e) slot (device told e) None → FindsRound own told slot count None
closed_joins_not own told slot e count below closed = λ round stands. absurd (false≢true (sym closed ∙ (stands e below).0))

pub none_of_more : (own : ℕ → ℕ) (told : List (List ℕ)) (slot e count : ℕ) → e ≤ count → FindsRound own told slot e None → FindsRound own told slot count None
none_of_more own told slot e count within none = λ round stands. none round (λ k less. stands k (omega arith))

-- Of both slots.
same_standing : (own : ℕ → ℕ) (told : List (List ℕ)) (slot count r s : ℕ) → 0 < count → StandsIn own told slot count r → StandsIn own told slot count s → r ≡ s
same_standing own told slot count r s some a b = sym (a 0 some).1 ∙ (b 0 some).1

pub kept_of : (own : ℕ → ℕ) (told : List (List ℕ)) (slot rest : ℕ) (standing : Standing) → 0 < length told
    → ((r : ℕ) → (slot_of r ≡ slot) ⊎ (slot_of r ≡ rest))
    → slot_of standing.round ≡ slot → FindsRound own told slot (length told) (Some standing)
    → ((other : ℕ) → StandsIn own told rest (length told) other → other ≤ standing.round)
    → IsKept own told standing.round standing.changed
kept_of own told slot rest standing some either mine finds others = record {
  everywhere = subst (λ (s : ℕ). StandsIn own told s (length told) standing.round) (sym mine) finds.0;
  greatest = λ other stands. elim (either other) [
    | inl here ↦
        let same : other ≡ standing.round = same_standing own told slot (length told) other standing.round some (subst (λ (s : ℕ). StandsIn own told s (length told) other) here stands) finds.0 in
        omega arith
    | inr there ↦ others other (subst (λ (s : ℕ). StandsIn own told s (length told) other) there stands)
  ];
  changed_is = subst (λ (s : ℕ). standing.changed ≡ changed_over own told s (length told)) (sym mine) finds.1;
}

pub even_or_odd : (r : ℕ) → (slot_of r ≡ 0) ⊎ (slot_of r ≡ 1)
even_or_odd r = elim (cases_eq (r % 2) 0) [
  | inl even ↦ inl even
  | inr odd ↦ inr (omega arith)
]

pub odd_or_even : (r : ℕ) → (slot_of r ≡ 1) ⊎ (slot_of r ≡ 0)
odd_or_even r = elim (even_or_odd r) [ inl even ↦ inr even | inr odd ↦ inl odd ]

-- **Both slots have a round.**
pub second_is_greater : (own : ℕ → ℕ) (told : List (List ℕ)) (first second : Standing) → 0 < length told → slot_of second.round ≡ 1 → first.round ≤ second.round
    → FindsRound own told 0 (length told) (Some first) → FindsRound own told 1 (length told) (Some second) → IsKept own told second.round second.changed
second_is_greater own told first second some odd less even_found odd_found =
    kept_of own told 1 0 second some odd_or_even odd odd_found (λ other stands.
    let same : other ≡ first.round = same_standing own told 0 (length told) other first.round some stands even_found.0 in omega arith)

pub first_is_greater : (own : ℕ → ℕ) (told : List (List ℕ)) (first second : Standing) → 0 < length told → slot_of first.round ≡ 0 → second.round ≤ first.round
    → FindsRound own told 0 (length told) (Some first) → FindsRound own told 1 (length told) (Some second) → IsKept own told first.round first.changed
first_is_greater own told first second some even less even_found odd_found =
    kept_of own told 0 1 first some even_or_odd even even_found (λ other stands.
    let same : other ≡ second.round = same_standing own told 1 (length told) other second.round some stands odd_found.0 in omega arith)

-- **One has.**
pub only_first : (own : ℕ → ℕ) (told : List (List ℕ)) (first : Standing) → 0 < length told → slot_of first.round ≡ 0
    → FindsRound own told 0 (length told) (Some first) → FindsRound own told 1 (length told) None → IsKept own told first.round first.changed
only_first own told first some even even_found none = kept_of own told 0 1 first some even_or_odd even even_found (λ other stands. absurd (none other stands))

pub only_second : (own : ℕ → ℕ) (told : List (List ℕ)) (second : Standing) → 0 < length told → slot_of second.round ≡ 1
    → FindsRound own told 0 (length told) None → FindsRound own told 1 (length told) (Some second) → IsKept own told second.round second.changed
only_second own told second some odd none odd_found = kept_of own told 1 0 second some odd_or_even odd odd_found (λ other stands. absurd (none other stands))

-- **None has.**
pub neither : (own : ℕ → ℕ) (told : List (List ℕ)) → FindsRound own told 0 (length told) None → FindsRound own told 1 (length told) None → NoneKept own told
neither own told none none' = λ round stands. elim (even_or_odd round) [
  | inl even ↦ none round (subst (λ (s : ℕ). StandsIn own told s (length told) round) even stands)
  | inr odd ↦ none' round (subst (λ (s : ℕ). StandsIn own told s (length told) round) odd stands)
]

-- A slot of devices that have passed their checks.
none_of_both : (a b : Option Fault) → first_of (a ∷ b ∷ []) ≡ None → (a ≡ None) × (b ≡ None)
none_of_both None None none = (refl, refl)
none_of_both None (Some fault) none = absurd cc
none_of_both (Some fault) b none = absurd cc

head_none : (a : Option Fault) (others : List (Option Fault)) → first_of (a ∷ others) ≡ None → (a ≡ None) × (first_of others ≡ None)
head_none None others none = (refl, none)
head_none (Some fault) others none = absurd cc

none_then : (check : ℕ → Option Fault) (n count : ℕ) → first_of (map check (range_with_len n count)) ≡ None → (k : ℕ) → n ≤ k → k < n + count → check k ≡ None
none_then check n zero none k from below = absurd (omega arith)
none_then check n (suc count) none k from below =
    let parts = head_none (check n) (map check (range_with_len (n + 1) count)) none in
    elim (cases_eq k n) [
      | inl same ↦ ap check same ∙ parts.0
      | inr other ↦ none_then check (n + 1) count parts.1 k (omega arith) (omega arith)
    ]

pub none_at : (check : ℕ → Option Fault) (count : ℕ) → first_over check count ≡ None → (k : ℕ) → k < count → check k ≡ None
none_at check count none k below = none_then check 0 count none k (omega arith) (omega arith)

-- what is so of a device is so of its slots
pub slots_good : (own e : ℕ) (bytes : List ℕ) → device_fault own e bytes ≡ None → (slot : ℕ) → slot < 2 → slot_fault own e slot bytes ≡ None
slots_good own e bytes none slot below = by_size (length bytes == device_size own) refl
  where
    by_size : (exact : Bool) → (length bytes == device_size own) ≡ exact → slot_fault own e slot bytes ≡ None
    by_size false is = absurd (some_none (sym (ap (λ b. if b then first_of (slot_fault own e 0 bytes ∷ slot_fault own e 1 bytes ∷ []) else Some (ValuesDamaged e 0)) is) ∙ none))
      where
        some_none : ◌≡◌ {A = Option Fault} (Some (ValuesDamaged e 0)) None → ⊥
        some_none same = cc
    by_size true is =
        let both = none_of_both (slot_fault own e 0 bytes) (slot_fault own e 1 bytes) (sym (ap (λ b. if b then first_of (slot_fault own e 0 bytes ∷ slot_fault own e 1 bytes ∷ []) else Some (ValuesDamaged e 0)) is) ∙ none) in
        elim (cases_eq slot 0) [
          | inl first ↦ ap (λ (s : ℕ). slot_fault own e s bytes) first ∙ both.0
          | inr other ↦ let second : slot ≡ 1 = omega arith in ap (λ (s : ℕ). slot_fault own e s bytes) second ∙ both.1
        ]

pub no_slot_fault : (own : ℕ → ℕ) (told : List (List ℕ)) (e slot : ℕ) (fault : Fault) → first_over (λ k. device_fault (own k) k (device told k)) (length told) ≡ None → e < length told → slot < 2
    → slot_fault (own e) e slot (device told e) ≡ Some fault → ⊥
no_slot_fault own told e slot fault none below within found =
    let good = slots_good (own e) e (device told e) (none_at (λ k. device_fault (own k) k (device told k)) (length told) none e below) slot within in
    some_none (sym found ∙ good)
  where
    some_none : ◌≡◌ {A = Option Fault} (Some fault) None → ⊥
    some_none same = cc

-- what was read of a slot is of few vertices
pub few_changed : (own slot : ℕ) (found : Option Standing) → own < 2 ^ 32 → IsWithin own slot found → IfSome found (λ standing. standing.changed < 2 ^ 32)
few_changed own slot None few within = tt
few_changed own slot (Some standing) few within = omega (arith, within.2)

pub own_few : (split : Split) (e : ℕ) → IsSplit split → own_in split e < 2 ^ 32
own_few split e is_split = omega (arith, own_count-le split.vertices split.engines split.parts e, is_split.vertices)
