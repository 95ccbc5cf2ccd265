-- One value more, and what lists of values come to.
use Rattle.std.proofs.Common.{◌≡◌, ℕ, ◌+◌, ◌<◌, ◌≤◌, zero, suc, cond, List, [], ◌∷◌, ◌++◌, length, take, set, get_or, Option, Some, refl, sym, ◌∙◌, ap, arith, length-take}
use Rattle.std.specs.List.{range_with_len}
use Rattle.std.proofs.lemmas.List.{take_more, take_more_set}
use Rattle.std.proofs.lemmas.List.FromFn.{length-range_with_len}
use Rattle.graph_model.specs.declared.value.Value.{Value}
use Rattle.graph_model.specs.Programs.{Rules}
use Rattle.graph_model.proofs.ListLemmas.{range_with_len-append}
use Rattle.graph_model.specs.Rounds.{differs}
use Rattle.partitioner.specs.declared.split.Split.{Split}
use Rattle.store_model.specs.Slots.{values_bytes}
use Rattle.store_model.proofs.ValueBytes.{same_values_bytes}
use Rattle.gather_laws.specs.Laws.{HaveRoom}
use Rattle.checkpoint.specs.Applied.{start_each, next_each, changes, values_in, changed_by}

start_each-append : (rules : Rules) (vs ws ss ts : List ℕ) → length vs ≡ length ss → start_each rules (vs ++ ws) (ss ++ ts) ≡ start_each rules vs ss ++ start_each rules ws ts
start_each-append rules [] ws [] ts same = refl
start_each-append rules (v ∷ vs) ws (s ∷ ss) ts same = ap (λ rest. rules.start v (cond rules.counts s 0) ∷ rest) (start_each-append rules vs ws ss ts (omega arith))
start_each-append rules [] ws (s ∷ ss) ts same = absurd (omega arith)
start_each-append rules (v ∷ vs) ws [] ts same = absurd (omega arith)

next_each-append : (rules : Rules) (xs ys : List Value) (ss ts : List ℕ) → length xs ≡ length ss → next_each rules (xs ++ ys) (ss ++ ts) ≡ next_each rules xs ss ++ next_each rules ys ts
next_each-append rules [] ys [] ts same = refl
next_each-append rules (x ∷ xs) ys (s ∷ ss) ts same = ap (λ rest. rules.next x s ∷ rest) (next_each-append rules xs ys ss ts (omega arith))
next_each-append rules [] ys (s ∷ ss) ts same = absurd (omega arith)
next_each-append rules (x ∷ xs) ys [] ts same = absurd (omega arith)

pub length-start_each : (rules : Rules) (vs ss : List ℕ) → length vs ≡ length ss → length (start_each rules vs ss) ≡ length ss
length-start_each rules [] [] same = refl
length-start_each rules (v ∷ vs) (s ∷ ss) same = ap suc (length-start_each rules vs ss (omega arith))
length-start_each rules [] (s ∷ ss) same = absurd (omega arith)
length-start_each rules (v ∷ vs) [] same = absurd (omega arith)

pub length-next_each : (rules : Rules) (xs : List Value) (ss : List ℕ) → length xs ≡ length ss → length (next_each rules xs ss) ≡ length ss
length-next_each rules [] [] same = refl
length-next_each rules (x ∷ xs) (s ∷ ss) same = ap suc (length-next_each rules xs ss (omega arith))
length-next_each rules [] (s ∷ ss) same = absurd (omega arith)
length-next_each rules (x ∷ xs) [] same = absurd (omega arith)

pub changes-append : (xs ys vs ws : List Value) → length xs ≡ length vs → changes (xs ++ ys) (vs ++ ws) ≡ changes xs vs + changes ys ws
changes-append [] ys [] ws same = omega arith
changes-append (x ∷ xs) ys (v ∷ vs) ws same = omega (arith, changes-append xs ys vs ws (omega arith))
changes-append [] ys (v ∷ vs) ws same = absurd (omega arith)
changes-append (x ∷ xs) ys [] ws same = absurd (omega arith)

pub start_more : (rules : Rules) (first i : ℕ) (counts : List ℕ) (into : List Value) (value : Value) → i < length counts → length into ≡ length counts →
    take i into ≡ start_each rules (range_with_len first i) (take i counts) → value ≡ rules.start (first + i) (cond rules.counts (get_or counts i 0) 0) →
    take (i + 1) (set into i value) ≡ start_each rules (range_with_len first (i + 1)) (take (i + 1) counts)
start_more rules first i counts into value below same so_far is =
    take_more_set into i value (omega arith)
    ∙ ap (λ front. front ++ value ∷ []) so_far
    ∙ ap (λ x. start_each rules (range_with_len first i) (take i counts) ++ x ∷ []) is
    ∙ sym (start_each-append rules (range_with_len first i) ((first + i) ∷ []) (take i counts) (get_or counts i 0 ∷ []) (omega (arith, length-range_with_len first i, length-take i counts)))
    ∙ ap (λ vs. start_each rules vs (take i counts ++ get_or counts i 0 ∷ [])) (range_with_len-append first i 1)
    ∙ ap (start_each rules (range_with_len first (i + 1))) (sym (take_more counts i 0 below))

pub next_more : (rules : Rules) (old mid : List Value) (sums : List ℕ) (i : ℕ) (d next : Value) → i < length old → length old ≡ length sums → length mid ≡ length old →
    take i mid ≡ next_each rules (take i old) (take i sums) → next ≡ rules.next (get_or old i d) (get_or sums i 0) →
    take (i + 1) (set mid i next) ≡ next_each rules (take (i + 1) old) (take (i + 1) sums)
next_more rules old mid sums i d next below same long so_far is =
    take_more_set mid i next (omega arith)
    ∙ ap (λ front. front ++ next ∷ []) so_far
    ∙ ap (λ x. next_each rules (take i old) (take i sums) ++ x ∷ []) is
    ∙ sym (next_each-append rules (take i old) (get_or old i d ∷ []) (take i sums) (get_or sums i 0 ∷ []) (omega (arith, length-take i old, length-take i sums)))
    ∙ ap (λ xs. next_each rules xs (take i sums ++ get_or sums i 0 ∷ [])) (sym (take_more old i d below))
    ∙ ap (next_each rules (take (i + 1) old)) (sym (take_more sums i 0 (omega arith)))

pub changes_more : (old mid : List Value) (i : ℕ) (d next : Value) (changed more : ℕ) → i < length old → length mid ≡ length old →
    changed ≡ changes (take i old) (take i mid) → more ≡ cond (differs (get_or old i d) next) 1 0 →
    changed + more ≡ changes (take (i + 1) old) (take (i + 1) (set mid i next))
changes_more old mid i d next changed more below long so_far is =
    let one : changes (get_or old i d ∷ []) (next ∷ []) ≡ cond (differs (get_or old i d) next) 1 0 = omega arith in
    let both : changes (take i old ++ get_or old i d ∷ []) (take i mid ++ next ∷ []) ≡ changes (take i old) (take i mid) + changes (get_or old i d ∷ []) (next ∷ []) =
    changes-append (take i old) (get_or old i d ∷ []) (take i mid) (next ∷ []) (omega (arith, length-take i old, length-take i mid)) in
    let lists : changes (take (i + 1) old) (take (i + 1) (set mid i next)) ≡ changes (take i old ++ get_or old i d ∷ []) (take i mid ++ next ∷ []) =
    ap (λ xs. changes xs (take (i + 1) (set mid i next))) (take_more old i d below)
    ∙ ap (changes (take i old ++ get_or old i d ∷ [])) (take_more_set mid i next (omega arith)) in
    omega (arith, lists, both, one, so_far, is)

-- the next values of those that a read gave
pub next_made : (rules : Rules) (split : Split) (round p changed : ℕ) (sums : List ℕ) (x : Option (List ℕ)) (read bytes : List ℕ) (before into new : List Value) → 1 ≤ round →
    x ≡ Some read → HaveRoom before → HaveRoom into → length before ≡ length into → values_bytes before ≡ bytes → values_bytes into ≡ bytes →
    new ≡ next_each rules into sums → changed ≡ changes into new →
    (new ≡ values_in rules split round sums p before) × (changed ≡ changed_by round before new)
next_made rules split zero p changed sums x read bytes before into new later told fit fit_into long stands reads is counted = absurd (omega arith)
next_made rules split (suc round) p changed sums x read bytes before into new later told fit fit_into long stands reads is counted =
    let same : into ≡ before = same_values_bytes into before fit_into fit (sym long) (reads ∙ sym stands) in
    (is ∙ ap (λ xs. next_each rules xs sums) same, counted ∙ ap (λ xs. changes xs new) same)
