-- In an epoch each chunk of each cursor was taken once, where the masters were told that none is left.
use Rattle.std.proofs.Common.{◌≡◌, ◌≢◌, ℕ, zero, suc, ◌+◌, ◌%◌, ◌<◌, ◌≤◌, Bool, true, false, cond, eqb, List, [], ◌∷◌, ◌++◌, map, get_or, refl, ap, sym, ◌∙◌, subst, inl, inr, ◌⊎◌, ⊎_elim, arith, eq-eqb}
use Rattle.std.specs.List.{All, AllByRecursion, count_by, flat_map, range_with_len}
use Rattle.std.proofs.lemmas.Bool.{cases_eq, cases_Bool, cond-true, cond-false, eqb-true}
use Rattle.std.proofs.lemmas.List.Elements.{recursion_from_All}
use Rattle.std.proofs.lemmas.List.Sums.{sum_by-append}
use Rattle.chunk_object.specs.declared.call.Call.{Call}
use Rattle.chunk_object.specs.declared.call.Call.TheVariants.{Open, Greet, Split, Join}
use Rattle.chunk_object.specs.declared.call.Entry.{Entry}
use Rattle.chunk_object.specs.History.{final, IsCaller, count_step, count_from, count_since, opens, exhausts, takes, times_taken, refusals, one_below, len_after, opened_from, opened_len, StandsWhole}
use Rattle.chunk_object.specs.Epochs.{cursor_of, Terms, Epoch, all_calls, entry_of, first_entries, opens_of, greets_of, splits_of, returns_of, epoch_entries, MastersAreTold, TakesEachChunk}
use Rattle.chunk_object.proofs.Histories.{final-append, count-append}
use Rattle.chunk_object.proofs.Moves.{opens_sets}
use Rattle.chunk_object.proofs.Whole.{callers_whole, all_taken}

-- counts of a list with one more at its front
pub count-cons : {X : Type 0} (p : X → Bool) (x : X) (xs : List X) → count_by p (x ∷ xs) ≡ cond (p x) 1 0 + count_by p xs
count-cons p x xs = sum_by-append (λ y. cond (p y) 1 0) (x ∷ []) xs ∙ ap (λ n. n + count_by p xs) (zero_add (cond (p x) 1 0))
  where
    zero_add : (n : ℕ) → 0 + n ≡ n
    zero_add n = omega arith

-- a count is begun anew, or nothing more is counted
pub zero_either : (a b : Bool) → b ≡ false → cond {A = ℕ} a 0 (cond b 1 0) ≡ 0
zero_either true b e = refl
zero_either false b e = cond-false {A = ℕ} b 1 0 e

pub count_by-append : {X : Type 0} (p : X → Bool) (xs ys : List X) → count_by p (xs ++ ys) ≡ count_by p xs + count_by p ys
count_by-append p xs ys = sum_by-append (λ y. cond (p y) 1 0) xs ys

pub count_entries : (hits : Call → Bool) (serial worker : ℕ) (calls : List Call) → count_by (λ (e : Entry). hits e.call) (map (entry_of serial worker) calls) ≡ count_by hits calls
count_entries hits serial worker [] = refl
count_entries hits serial worker (c ∷ calls) =
    count-cons (λ (e : Entry). hits e.call) (entry_of serial worker c) (map (entry_of serial worker) calls)
    ∙ (ap (λ n. cond (hits c) 1 0 + n) (count_entries hits serial worker calls) ∙ sym (count-cons hits c calls))

-- a list in which the cursor is not opened
abbrev pub IsQuiet : ℕ → List Entry → Type 0
IsQuiet cursor = AllByRecursion (λ e. opens cursor e.call ≡ false)

all_right : {X : Type 0} (P : X → Type 0) (xs ys : List X) → AllByRecursion P (xs ++ ys) → AllByRecursion P ys
all_right P [] ys all = all
all_right P (x ∷ xs) ys all = all_right P xs ys all.1

pub all_both : {X : Type 0} (P : X → Type 0) (xs ys : List X) → AllByRecursion P xs → AllByRecursion P ys → AllByRecursion P (xs ++ ys)
all_both P [] ys left right = right
all_both P (x ∷ xs) ys left right = (left.0, all_both P xs ys left.1 right)

pub all_left : {X : Type 0} (P : X → Type 0) (xs ys : List X) → AllByRecursion P (xs ++ ys) → AllByRecursion P xs
all_left P [] ys all = tt
all_left P (x ∷ xs) ys all = (all.0, all_left P xs ys all.1)

more_is : (b : Bool) (k : ℕ) → cond b (suc k) k ≡ k + cond b 1 0
more_is true k = omega arith
more_is false k = omega arith

module _ (cursor : ℕ) where
  -- where the cursor is not opened, a count goes on
  pub count_quiet : (hits : Entry → Bool) (k : ℕ) (l : List Entry) → IsQuiet cursor l → count_from (λ e. opens cursor e.call) hits k l ≡ k + count_by hits l
  count_quiet hits k [] quiet = omega arith
  count_quiet hits k (e ∷ l) quiet =
      let step : count_step (λ x. opens cursor x.call) hits k e ≡ k + cond (hits e) 1 0 = cond-false (opens cursor e.call) 0 (cond (hits e) (suc k) k) quiet.0 ∙ more_is (hits e) k in
      count_quiet hits (count_step (λ x. opens cursor x.call) hits k e) l quiet.1 ∙ omega (arith, step, count-cons hits e l)

  pub len_stays : (k : ℕ) (c : Call) → opens cursor c ≡ false → len_after cursor k c ≡ k
  len_stays k (Open opened len) h = cond-false (eqb opened cursor) len k h
  len_stays k _ h = refl

  pub opened_quiet : (k : ℕ) (l : List Entry) → IsQuiet cursor l → opened_from cursor k l ≡ k
  opened_quiet k [] quiet = refl
  opened_quiet k (e ∷ l) quiet = ap (λ n. opened_from cursor n l) (len_stays k e.call quiet.0) ∙ opened_quiet k l quiet.1

  -- a list of openings, each with so many chunks
  abbrev IsOpening : (ℕ → ℕ) → Call → Type 0
  IsOpening lens (Open opened len) = len ≡ lens opened
  IsOpening lens _ = ⊥

  abbrev HasOpening : List Call → Type 0
  HasOpening [] = ⊥
  HasOpening (c ∷ calls) = (opens cursor c ≡ true) ⊎ HasOpening calls

  module _ (lens : ℕ → ℕ) (hits : Call → Bool) (none : (opened len : ℕ) → hits (Open opened len) ≡ false) where
    abbrev counted : ℕ → List Call → ℕ
    counted k calls = count_from (λ e. opens cursor e.call) (λ e. hits e.call) k (first_entries calls)

    stays_zero : (calls : List Call) → AllByRecursion (IsOpening lens) calls → counted 0 calls ≡ 0
    stays_zero [] all = refl
    stays_zero (Open opened len ∷ calls) all = ap (λ n. counted n calls) (zero_either (eqb opened cursor) (hits (Open opened len)) (none opened len)) ∙ stays_zero calls all.1
    stays_zero (c ∷ calls) all = absurd all.0

    pub opened_zero : (k : ℕ) (calls : List Call) → AllByRecursion (IsOpening lens) calls → HasOpening calls → counted k calls ≡ 0
    opened_zero k [] all has = absurd has
    opened_zero k (Open opened len ∷ calls) all has = ⊎_elim
        (λ here. ap (λ n. counted n calls) (cond-true (eqb opened cursor) 0 _ here) ∙ stays_zero calls all.1)
        (λ later. opened_zero (count_step (λ e. opens cursor e.call) (λ e. hits e.call) k (entry_of 0 8 (Open opened len))) calls all.1 later)
        has
    opened_zero k (c ∷ calls) all has = absurd all.0

  module _ (lens : ℕ → ℕ) where
    stays_opened : (calls : List Call) → AllByRecursion (IsOpening lens) calls → opened_from cursor (lens cursor) (first_entries calls) ≡ lens cursor
    stays_opened [] all = refl
    stays_opened (Open opened len ∷ calls) all = ap (λ n. opened_from cursor n (first_entries calls)) (either_len (cases_Bool (eqb opened cursor))) ∙ stays_opened calls all.1
      where
        either_len : (eqb opened cursor ≡ true) ⊎ (eqb opened cursor ≡ false) → cond (eqb opened cursor) len (lens cursor) ≡ lens cursor
        either_len (inl e) = cond-true (eqb opened cursor) len (lens cursor) e ∙ (all.0 ∙ ap lens (eqb-true opened cursor e))
        either_len (inr e) = cond-false (eqb opened cursor) len (lens cursor) e
    stays_opened (c ∷ calls) all = absurd all.0

    pub opened_with_len : (k : ℕ) (calls : List Call) → AllByRecursion (IsOpening lens) calls → HasOpening calls → opened_from cursor k (first_entries calls) ≡ lens cursor
    opened_with_len k [] all has = absurd has
    opened_with_len k (Open opened len ∷ calls) all has = ⊎_elim
        (λ here. ap (λ n. opened_from cursor n (first_entries calls)) (cond-true (eqb opened cursor) len k here ∙ (all.0 ∙ ap lens (eqb-true opened cursor here))) ∙ stays_opened calls all.1)
        (λ later. opened_with_len (len_after cursor k (Open opened len)) calls all.1 later)
        has
    opened_with_len k (c ∷ calls) all has = absurd all.0

  -- openings of a row, and of all rows
  module _ (lens : ℕ → ℕ) (partitions : ℕ) where
    abbrev opening : (engine partition : ℕ) → Call
    opening engine partition = Open (cursor_of engine partition) (lens (cursor_of engine partition))

    abbrev row : ℕ → (a n : ℕ) → List Call
    row engine a n = map (opening engine) (range_with_len a n)

    row_opens : (engine a n : ℕ) → AllByRecursion (IsOpening lens) (row engine a n)
    row_opens engine a zero = tt
    row_opens engine a (suc n) = (refl, row_opens engine (a + 1) n)

    rows_open : (a n : ℕ) → AllByRecursion (IsOpening lens) (flat_map (λ engine. row engine 0 partitions) (range_with_len a n))
    rows_open a zero = tt
    rows_open a (suc n) = all_both (IsOpening lens) (row a 0 partitions) (flat_map (λ engine. row engine 0 partitions) (range_with_len (a + 1) n)) (row_opens a 0 partitions) (rows_open (a + 1) n)

    has_left : (xs ys : List Call) → HasOpening xs → HasOpening (xs ++ ys)
    has_left [] ys has = absurd has
    has_left (x ∷ xs) ys has = ⊎_elim (λ here. inl here) (λ later. inr (has_left xs ys later)) has

    has_right : (xs ys : List Call) → HasOpening ys → HasOpening (xs ++ ys)
    has_right [] ys has = has
    has_right (x ∷ xs) ys has = inr (has_right xs ys has)

    row_has : (engine partition a n : ℕ) → cursor ≡ cursor_of engine partition → a ≤ partition → partition < a + n → HasOpening (row engine a n)
    row_has engine partition a zero e low high = absurd (omega arith)
    row_has engine partition a (suc n) e low high = ⊎_elim
        (λ same. inl (eq-eqb (cursor_of engine a) cursor (ap (cursor_of engine) (sym same) ∙ sym e)))
        (λ ne. inr (row_has engine partition (a + 1) n e (omega arith) (omega arith)))
        (cases_eq partition a)

    rows_have : (engine partition a n : ℕ) → cursor ≡ cursor_of engine partition → partition < partitions → a ≤ engine → engine < a + n → HasOpening (flat_map (λ x. row x 0 partitions) (range_with_len a n))
    rows_have engine partition a zero e below low high = absurd (omega arith)
    rows_have engine partition a (suc n) e below low high = ⊎_elim
        (λ same. has_left (row a 0 partitions) _ (row_has a partition 0 partitions (e ∙ ap (λ x. cursor_of x partition) same) (omega arith) (omega arith)))
        (λ ne. has_right (row a 0 partitions) _ (rows_have engine partition (a + 1) n e below (omega arith) (omega arith)))
        (cases_eq engine a)

  -- calls of a kind, by a row of numbers
  quiet_row : (f : ℕ → Call) → ((n : ℕ) → opens cursor (f n) ≡ false) → (a n : ℕ) → IsQuiet cursor (first_entries (map f (range_with_len a n)))
  quiet_row f calm a zero = tt
  quiet_row f calm a (suc n) = (calm a, quiet_row f calm (a + 1) n)

none_row : (hits : Call → Bool) (f : ℕ → Call) → ((n : ℕ) → hits (f n) ≡ false) → (a n : ℕ) → count_by (λ (e : Entry). hits e.call) (first_entries (map f (range_with_len a n))) ≡ 0
none_row hits f none a zero = refl
none_row hits f none a (suc n) =
    count-cons (λ (e : Entry). hits e.call) (entry_of 0 8 (f a)) (first_entries (map f (range_with_len (a + 1) n)))
    ∙ (let here : cond {A = ℕ} (hits (f a)) 1 0 ≡ 0 = cond-false {A = ℕ} (hits (f a)) 1 0 (none a) in omega (arith, here, none_row hits f none (a + 1) n))

-- among what the workers bring back, the hits are those of their lists
count_returns : (hits : Call → Bool) → ((serial worker : ℕ) → hits (Join serial worker) ≡ false) → (before worker : ℕ) (lists : List (List Call))
    → count_by (λ (e : Entry). hits e.call) (returns_of before worker lists) ≡ count_by hits (flat_map (λ calls. calls) lists)
count_returns hits none before worker [] = refl
count_returns hits none before worker (calls ∷ lists) =
    let serial = suc (before + worker) in
    let own = map (entry_of serial worker) calls in
    let back = entry_of 0 8 (Join serial worker) in
    let rest = returns_of before (worker + 1) lists in
    let here : cond {A = ℕ} (hits (Join serial worker)) 1 0 ≡ 0 = cond-false {A = ℕ} (hits (Join serial worker)) 1 0 (none serial worker) in
    omega (
      arith,
      count_by-append (λ (e : Entry). hits e.call) own (back ∷ rest),
      count_entries hits serial worker calls,
      count-cons (λ (e : Entry). hits e.call) back rest,
      here,
      count_returns hits none before (worker + 1) lists,
      count_by-append hits calls (flat_map (λ calls. calls) lists),
    )

-- nobody but the first caller opens
quiet_list : (cursor serial worker : ℕ) → serial ≢ 0 → (calls : List Call) → AllByRecursion IsCaller (map (entry_of serial worker) calls) → IsQuiet cursor (map (entry_of serial worker) calls)
quiet_list cursor serial worker other [] callers = tt
quiet_list cursor serial worker other (c ∷ calls) callers =
    (⊎_elim (λ opened. absurd (other (callers.0.1 (opens_sets cursor c opened)))) (λ calm. calm) (cases_Bool (opens cursor c)), quiet_list cursor serial worker other calls callers.1)

quiet_returns : (cursor before worker : ℕ) (lists : List (List Call)) → AllByRecursion IsCaller (returns_of before worker lists) → IsQuiet cursor (returns_of before worker lists)
quiet_returns cursor before worker [] callers = tt
quiet_returns cursor before worker (calls ∷ lists) callers =
    let serial = suc (before + worker) in
    let own = map (entry_of serial worker) calls in
    let rest = first_entries (Join serial worker ∷ []) ++ returns_of before (worker + 1) lists in
    all_both (λ e. opens cursor e.call ≡ false) own rest
    (quiet_list cursor serial worker (λ e. omega arith) calls (all_left IsCaller own rest callers))
    (refl, quiet_returns cursor before (worker + 1) lists (all_right IsCaller own rest callers).1)

-- one worker's hits are among all
some_of_all : (hits : Call → Bool) (lists : List (List Call)) (worker : ℕ) → 0 < count_by hits (get_or lists worker []) → 0 < count_by hits (flat_map (λ calls. calls) lists)
some_of_all hits [] worker some = some
some_of_all hits (calls ∷ lists) zero some = omega (arith, count_by-append hits calls (flat_map (λ calls. calls) lists))
some_of_all hits (calls ∷ lists) (suc worker) some = omega (arith, count_by-append hits calls (flat_map (λ calls. calls) lists), some_of_all hits lists worker some)

-- A story that ends with an epoch
module _ (terms : Terms) (before : ℕ) (epoch : Epoch) (past : List Entry) where
  abbrev the_story : List Entry
  the_story = past ++ epoch_entries terms before epoch

  abbrev opened_part : List Entry
  opened_part = first_entries (opens_of terms epoch.lens)

  abbrev greeted_part : List Entry
  greeted_part = first_entries (greets_of terms)

  abbrev split_part : List Entry
  split_part = first_entries (splits_of before terms.engines)

  abbrev returned_part : List Entry
  returned_part = returns_of before 0 epoch.lists

  module _ (callers : All IsCaller the_story) (engine partition : ℕ) (some_engine : engine < terms.engines) (some_partition : partition < terms.partitions) where
    abbrev the_cursor : ℕ
    the_cursor = cursor_of engine partition

    has_opening : HasOpening the_cursor (opens_of terms epoch.lens)
    has_opening = rows_have the_cursor epoch.lens terms.partitions engine partition 0 terms.engines refl some_partition (omega arith) (omega arith)

    all_open : AllByRecursion (IsOpening the_cursor epoch.lens) (opens_of terms epoch.lens)
    all_open = rows_open the_cursor epoch.lens terms.partitions 0 terms.engines

    quiet_back : IsQuiet the_cursor returned_part
    quiet_back =
        let all = recursion_from_All IsCaller the_story callers in
        let behind = all_right IsCaller split_part returned_part (all_right IsCaller greeted_part (split_part ++ returned_part) (all_right IsCaller opened_part (greeted_part ++ (split_part ++ returned_part)) (all_right IsCaller past (epoch_entries terms before epoch) all))) in
        quiet_returns the_cursor before 0 epoch.lists behind

    quiet_rest : IsQuiet the_cursor (greeted_part ++ (split_part ++ returned_part))
    quiet_rest =
        all_both (λ e. opens the_cursor e.call ≡ false) greeted_part (split_part ++ returned_part) (quiet_row the_cursor Greet (λ n. refl) 0 terms.partitions)
        (all_both (λ e. opens the_cursor e.call ≡ false) split_part returned_part (quiet_row the_cursor (λ worker. Split (suc (before + worker)) worker) (λ n. refl) 0 terms.engines) quiet_back)

    -- since the cursor was opened, the hits are those of the workers
    pub epoch_count : (hits : Call → Bool) → ((opened len : ℕ) → hits (Open opened len) ≡ false) → ((p : ℕ) → hits (Greet p) ≡ false) → ((serial worker : ℕ) → hits (Split serial worker) ≡ false) → ((serial worker : ℕ) → hits (Join serial worker) ≡ false)
        → count_since (λ e. opens the_cursor e.call) (λ e. hits e.call) the_story ≡ count_by hits (all_calls epoch)
    epoch_count hits no_open no_greet no_split no_join =
        let starts : Entry → Bool = λ e. opens the_cursor e.call in
        let hit : Entry → Bool = λ e. hits e.call in
        let rest = greeted_part ++ (split_part ++ returned_part) in
        let first = count_from starts hit 0 past in
        count-append starts hit 0 past (opened_part ++ rest)
        ∙ (count-append starts hit first opened_part rest
        ∙ (ap (λ k. count_from starts hit k rest) (opened_zero the_cursor epoch.lens hits no_open first (opens_of terms epoch.lens) all_open has_opening)
        ∙ (count_quiet the_cursor hit 0 rest quiet_rest
        ∙ omega (
          arith,
          count_by-append hit greeted_part (split_part ++ returned_part),
          count_by-append hit split_part returned_part,
          none_row hits Greet no_greet 0 terms.partitions,
          none_row hits (λ worker. Split (suc (before + worker)) worker) (λ n. no_split (suc (before + n)) n) 0 terms.engines,
          count_returns hits no_join before 0 epoch.lists,
        ))))

    pub epoch_len : opened_len the_cursor the_story ≡ epoch.lens the_cursor
    epoch_len =
        let step : ℕ → Entry → ℕ = λ k e. len_after the_cursor k e.call in
        let rest = greeted_part ++ (split_part ++ returned_part) in
        final-append step 0 past (opened_part ++ rest)
        ∙ (final-append step (final step 0 past) opened_part rest
        ∙ (ap (λ k. opened_from the_cursor k rest) (opened_with_len the_cursor epoch.lens (final step 0 past) (opens_of terms epoch.lens) all_open has_opening) ∙ opened_quiet the_cursor (epoch.lens the_cursor) rest quiet_rest))

-- the law
pub epoch_is_taken : (story : List Entry) → StandsWhole story → (terms : Terms) (past : List Entry) (before : ℕ) (epoch : Epoch) → story ≡ past ++ epoch_entries terms before epoch → MastersAreTold terms epoch → TakesEachChunk terms epoch
epoch_is_taken story whole terms past before epoch ends told engine partition chunk some_engine some_partition =
    let cursor = cursor_of engine partition in
    let callers = subst (All IsCaller) ends (callers_whole story whole) in
    let refused : refusals cursor story ≡ count_by (exhausts cursor) (all_calls epoch) =
    ap (refusals cursor) ends ∙ epoch_count terms before epoch past callers engine partition some_engine some_partition (exhausts cursor) (λ opened len. refl) (λ p. refl) (λ serial worker. refl) (λ serial worker. refl) in
    let taken : times_taken cursor chunk story ≡ count_by (takes cursor chunk) (all_calls epoch) =
    ap (times_taken cursor chunk) ends ∙ epoch_count terms before epoch past callers engine partition some_engine some_partition (takes cursor chunk) (λ opened len. refl) (λ p. refl) (λ serial worker. refl) (λ serial worker. refl) in
    let len : opened_len cursor story ≡ epoch.lens cursor = ap (opened_len cursor) ends ∙ epoch_len terms before epoch past callers engine partition some_engine some_partition in
    let some = some_of_all (exhausts cursor) epoch.lists (partition % terms.engines) (told engine partition some_engine some_partition) in
    sym taken ∙ (all_taken story whole cursor (subst (λ n. 0 < n) (sym refused) some) chunk ∙ ap (λ n. one_below n chunk) len)
