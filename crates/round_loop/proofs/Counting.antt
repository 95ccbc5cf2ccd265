-- How many chunks can be taken in an epoch.
use Rattle.std.proofs.Common.{◌≡◌, ℕ, ◌+◌, ◌*◌, ◌/◌, ◌%◌, ◌<◌, ◌≤◌, Bool, true, false, ◌&&◌, ◌==◌, eqb, nat_lt, if◌then◌else◌, List, [], ◌∷◌, ◌++◌, map, length, inl, inr, refl, sym, ◌∙◌, ap, arith, All}
use Rattle.std.proofs.lemmas.List.{length-map}
use Rattle.std.proofs.lemmas.Bool.{cases_Bool, cases_lt, and_parts, and_from, eqb-true, eq-eqb, ltb-true}
use Rattle.std.proofs.lemmas.List.Elements.{All-head, All-tail}
use Rattle.std.proofs.lemmas.Map.Keys.{IsDistinct-cons}
use Rattle.std.proofs.lemmas.Map.Steps.{length-le_from_distinct_below}
use Rattle.std.specs.List.{AllByRecursion, IsDistinct, count_by, flat_map, list_any}
use Rattle.chunk_object.specs.History.{one_below}
use Rattle.chunk_object.specs.Epochs.{Terms, Epoch, all_calls, opened_with}
use Rattle.chunk_object.proofs.Covered.{count-cons}
use Rattle.phase_core.proofs.Shelved.{is_chunk}
use Rattle.phase_core.proofs.Drained.{count_taken}
use Rattle.phase_model.specs.Taken.{taken, claims}
use Rattle.phase_model.proofs.Lists.{claims-append}
use Rattle.round_steps.specs.Epochs.{IsWhole, HasFewChunks}

abbrev pub MOST : ℕ
MOST = 2147483648

-- a chunk as a number
abbrev code : (ℕ × ℕ) → ℕ
code c = c.0 * MOST + c.1

record Bound (c : ℕ × ℕ) : Type 0 where
  cursor : c.0 < 512
  chunk : c.1 < MOST

abbrev Bounds : List (ℕ × ℕ) → Type 0
Bounds [] = Unit {0}
Bounds (c ∷ cs) = Bound c × Bounds cs

is_itself : (c : ℕ × ℕ) → is_chunk c.0 c.1 c ≡ true
is_itself c = and_from (c.0 == c.0) (c.1 == c.1) (eq-eqb c.0 c.0 refl) (eq-eqb c.1 c.1 refl)

-- chunks with the same number
same_code : (a b i j : ℕ) → i < MOST → j < MOST → a * MOST + i ≡ b * MOST + j → (a ≡ b) × (i ≡ j)
same_code a b i j small_i small_j same = (omega (arith, same), omega (arith, same))

other_code : (c d : ℕ × ℕ) → Bound c → Bound d → is_chunk c.0 c.1 d ≡ false → eqb (code c) (code d) ≡ false
other_code c d bc bd other = elim (cases_Bool (eqb (code c) (code d))) [
  | inl same ↦
      let parts : (c.0 ≡ d.0) × (c.1 ≡ d.1) = same_code c.0 d.0 c.1 d.1 bc.chunk bd.chunk (eqb-true (code c) (code d) same) in
      let test : is_chunk c.0 c.1 d ≡ true = and_from (d.0 == c.0) (d.1 == c.1) (eq-eqb d.0 c.0 (sym parts.0)) (eq-eqb d.1 c.1 (sym parts.1)) in
      let clash : true ≡ false = sym test ∙ other in absurd cc
  | inr apart ↦ apart
]

one_if : (b : Bool) → b ≡ true → ◌≡◌ {A = ℕ} (if b then 1 else 0) 1
one_if true is = refl
one_if false is = absurd cc

head_false : (b : Bool) (n : ℕ) → (if b then 1 else 0) + n ≡ 0 → b ≡ false
head_false true n none = absurd (omega (arith, none))
head_false false n none = refl

apart : (c : ℕ × ℕ) (ds : List (ℕ × ℕ)) → Bound c → Bounds ds → count_by (is_chunk c.0 c.1) ds ≡ 0 → AllByRecursion (λ y. eqb (code c) y ≡ false) (map code ds)
apart c [] bc bounds none = tt
apart c (d ∷ ds) bc bounds none =
    let counts = count-cons (is_chunk c.0 c.1) d ds in
    let split : (if is_chunk c.0 c.1 d then 1 else 0) + count_by (is_chunk c.0 c.1) ds ≡ 0 = sym counts ∙ none in
    (other_code c d bc bounds.0 (head_false (is_chunk c.0 c.1 d) (count_by (is_chunk c.0 c.1) ds) split), apart c ds bc bounds.1 (omega (arith, split)))

distinct : (cs : List (ℕ × ℕ)) → Bounds cs → ((a i : ℕ) → count_by (is_chunk a i) cs ≤ 1) → IsDistinct eqb (map code cs)
unfolding IsDistinct
distinct [] bounds once = tt
distinct (c ∷ cs) bounds once =
    let here : count_by (is_chunk c.0 c.1) (c ∷ cs) ≡ 1 + count_by (is_chunk c.0 c.1) cs = count-cons (is_chunk c.0 c.1) c cs ∙ ap (λ n. n + count_by (is_chunk c.0 c.1) cs) (one_if (is_chunk c.0 c.1 c) (is_itself c)) in
    let few : count_by (is_chunk c.0 c.1) (c ∷ cs) ≤ 1 = once c.0 c.1 in
    IsDistinct-cons eqb (code c) (map code cs) (apart c cs bounds.0 bounds.1 (omega (arith, here, few)))
    (distinct cs bounds.1 (λ a i. let more = count-cons (is_chunk a i) c cs in let all : count_by (is_chunk a i) (c ∷ cs) ≤ 1 = once a i in omega (arith, more, all)))

code_small : (a i : ℕ) → a < 512 → i < MOST → a * MOST + i < 512 * MOST
code_small a i small below = omega arith

too_large : (q : ℕ) (cs : List (ℕ × ℕ)) → Bounds cs → 512 * MOST ≤ q → list_any (eqb q) (map code cs) ≡ false
too_large q [] bounds large = refl
too_large q (c ∷ cs) bounds large =
    let small : code c < 512 * MOST = code_small c.0 c.1 bounds.0.cursor bounds.0.chunk in
    let other : eqb q (code c) ≡ false = elim (cases_Bool (eqb q (code c))) [ inl is ↦ absurd (omega (arith, eqb-true q (code c) is, small, large)) | inr isnt ↦ isnt ] in
    rw other (too_large q cs bounds.1 large)

few_codes : (cs : List (ℕ × ℕ)) → Bounds cs → ((a i : ℕ) → count_by (is_chunk a i) cs ≤ 1) → length cs ≤ 512 * MOST
few_codes cs bounds once =
    let long : length (map code cs) ≡ length cs = length-map cs code in
    let few : length (map code cs) ≤ 512 * MOST
    = length-le_from_distinct_below (map code cs) (512 * MOST) (distinct cs bounds once)
    (λ q found. elim (cases_lt q (512 * MOST)) [
      | inl below ↦ below
      | inr large ↦ let clash : true ≡ false = sym found ∙ too_large q cs bounds large in absurd cc
    ]) in
    omega (arith, long, few)

-- each chunk that is counted is bounded
bounds_of : (cs : List (ℕ × ℕ)) → ((a i : ℕ) → 1 ≤ count_by (is_chunk a i) cs → (a < 512) × (i < MOST)) → Bounds cs
bounds_of [] each = tt
bounds_of (c ∷ cs) each =
    let here : count_by (is_chunk c.0 c.1) (c ∷ cs) ≡ 1 + count_by (is_chunk c.0 c.1) cs = count-cons (is_chunk c.0 c.1) c cs ∙ ap (λ n. n + count_by (is_chunk c.0 c.1) cs) (one_if (is_chunk c.0 c.1 c) (is_itself c)) in
    let head : (c.0 < 512) × (c.1 < MOST) = each c.0 c.1 (omega (arith, here)) in
    (record { cursor = head.0; chunk = head.1 }, bounds_of cs (λ a i some. let more = count-cons (is_chunk a i) c cs in each a i (omega (arith, more, some))))

at_most_one : (n i : ℕ) → one_below n i ≤ 1
at_most_one n i = elim (cases_Bool (nat_lt i n)) [ inl is ↦ rw is (omega arith) | inr isnt ↦ rw isnt (omega arith) ]

counted_below : (n i : ℕ) → 1 ≤ one_below n i → i < n
counted_below n i some = elim (cases_Bool (nat_lt i n)) [
  | inl is ↦ ltb-true i n is
  | inr isnt ↦ let none : one_below n i ≡ 0 = rw isnt refl in absurd (omega (arith, none, some))
]

module _ (terms : Terms) (engines : terms.engines ≤ 8) (partitions : terms.partitions ≤ 64) (epoch : Epoch) (few : HasFewChunks epoch) where
  opened_there : (cursor i : ℕ) → i < opened_with terms epoch cursor → (cursor < 512) × (i < MOST)
  opened_there cursor i below = elim (cases_Bool (nat_lt (cursor / 64) terms.engines && nat_lt (cursor % 64) terms.partitions)) [
    | inl there ↦
        let lens : opened_with terms epoch cursor ≡ epoch.lens cursor = rw there refl in
        let engine : cursor / 64 < terms.engines = ltb-true (cursor / 64) terms.engines (and_parts (nat_lt (cursor / 64) terms.engines) (nat_lt (cursor % 64) terms.partitions) there).0 in
        let most : epoch.lens cursor ≤ MOST = few cursor in
        (omega (arith, engine, engines), omega (arith, below, lens, most))
    | inr isnt ↦ let none : opened_with terms epoch cursor ≡ 0 = rw isnt refl in absurd (omega (arith, below, none))
  ]

  pub claims_of_whole : IsWhole terms epoch → claims (all_calls epoch) ≤ 512 * MOST
  claims_of_whole whole =
      let counted : (a i : ℕ) → count_by (is_chunk a i) (taken (all_calls epoch)) ≡ one_below (opened_with terms epoch a) i = λ a i. count_taken a i (all_calls epoch) ∙ whole.once a i in
      few_codes (taken (all_calls epoch))
      (bounds_of (taken (all_calls epoch)) (λ a i some. opened_there a i (counted_below (opened_with terms epoch a) i (omega (arith, counted a i, some)))))
      (λ a i. let one = at_most_one (opened_with terms epoch a) i in omega (arith, counted a i, one))

-- and in many
pub claims_of_all : (terms : Terms) → terms.engines ≤ 8 → terms.partitions ≤ 64 → (epochs : List Epoch) → All (IsWhole terms) epochs → All HasFewChunks epochs → claims (flat_map all_calls epochs) ≤ 512 * MOST * length epochs
claims_of_all terms engines partitions [] whole few = omega arith
claims_of_all terms engines partitions (x ∷ xs) whole few =
    let here : claims (all_calls x) ≤ 512 * MOST = claims_of_whole terms engines partitions x (All-head HasFewChunks x xs few) (All-head (IsWhole terms) x xs whole) in
    let rest : claims (flat_map all_calls xs) ≤ 512 * MOST * length xs = claims_of_all terms engines partitions xs (All-tail (IsWhole terms) x xs whole) (All-tail HasFewChunks x xs few) in
    let both : claims (all_calls x ++ flat_map all_calls xs) ≡ claims (all_calls x) + claims (flat_map all_calls xs) = claims-append (all_calls x) (flat_map all_calls xs) in
    omega (arith, here, rest, both)
