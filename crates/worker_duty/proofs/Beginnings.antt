-- The openings, greetings and splits of an epoch leave a seat free to work.
use Rattle.std.proofs.Common.{◌≡◌, ◌≢◌, ℕ, zero, suc, ◌+◌, ◌/◌, ◌%◌, ◌<◌, ◌≤◌, Bool, true, false, cond, ◌&&◌, eqb, ltb, List, [], ◌∷◌, ◌++◌, map, refl, ap, sym, ◌∙◌, subst, inl, inr, ◌⊎◌, ⊎_elim, arith, eq-eqb, ne_eqb}
use Rattle.std.specs.List.{All, AllByRecursion, flat_map, range_with_len}
use Rattle.std.proofs.lemmas.Bool.{eqb-true, false≢true, cases_eq, cases_lt, cases_Bool, cond-true, cond-false, lt-ltb, le-ltb}
use Rattle.std.proofs.lemmas.List.{append-nil, map-append}
use Rattle.std.proofs.lemmas.List.Elements.{All-nil, filter-append}
use Rattle.chunk_object.specs.declared.call.Call.{Call}
use Rattle.chunk_object.specs.declared.call.Call.TheVariants.{Open, Greet, Split}
use Rattle.chunk_object.specs.declared.call.Entry.{Entry}
use Rattle.chunk_object.specs.Object.{put_at}
use Rattle.chunk_object.specs.History.{final, entries_of, count_step, count_from, opens, exhausts, greets, admits, refusals_of, admissions_of, len_after, opened_from, opened_len, total, EpochSoFar, no_epoch, engine_count, engines_after, next_epoch, epoch_after, epoch_step, epoch_of}
use Rattle.chunk_object.specs.Epochs.{cursor_of, Terms, entry_of, first_entries, opens_of, greets_of, splits_of}
use Rattle.chunk_object.proofs.Histories.{put_at_here, put_at_else, final-append, count-append, total_same_below}
use Rattle.chunk_object.proofs.Covered.{all_both, zero_either}
use Rattle.chunk_object.proofs.Rows.{row_all, rows_all}
use Rattle.chunk_cursor.specs.declared.view.View.{View}
use Rattle.chunk_cursor.specs.View.{knows}
use Rattle.phase_model.specs.Taken.{taken}
use Rattle.worker_duty.specs.Views.{MayWork, taken_by_seat}

-- Counts since a start.
module _ (starts hits : Entry → Bool) where
  abbrev HasStart : List Entry → Type 0
  HasStart [] = ⊥
  HasStart (e ∷ l) = (starts e ≡ true) ⊎ HasStart l

  no_hits : (l : List Entry) → AllByRecursion (λ e. hits e ≡ false) l → count_from starts hits 0 l ≡ 0
  no_hits [] none = refl
  no_hits (e ∷ l) none = ap (λ n. count_from starts hits n l) (zero_either (starts e) (hits e) none.0) ∙ no_hits l none.1

  since_start : (k : ℕ) (l : List Entry) → AllByRecursion (λ e. hits e ≡ false) l → HasStart l → count_from starts hits k l ≡ 0
  since_start k [] none has = absurd has
  since_start k (e ∷ l) none has = ⊎_elim
      (λ here. ap (λ n. count_from starts hits n l) (cond-true (starts e) 0 _ here) ∙ no_hits l none.1)
      (λ later. since_start (count_step starts hits k e) l none.1 later)
      has

  start_left : (xs ys : List Entry) → HasStart xs → HasStart (xs ++ ys)
  start_left [] ys has = absurd has
  start_left (x ∷ xs) ys has = ⊎_elim (λ here. inl here) (λ later. inr (start_left xs ys later)) has

  start_right : (xs ys : List Entry) → HasStart ys → HasStart (xs ++ ys)
  start_right [] ys has = has
  start_right (x ∷ xs) ys has = inr (start_right xs ys has)

-- calls of a kind, by a row of numbers
row_start : (starts hits : Entry → Bool) (f : ℕ → Call) (i : ℕ) → starts (entry_of 0 8 (f i)) ≡ true → (a n : ℕ) → a ≤ i → i < a + n → HasStart starts hits (first_entries (map f (range_with_len a n)))
row_start starts hits f i is a zero low high = absurd (omega arith)
row_start starts hits f i is a (suc n) low high = ⊎_elim
    (λ same. inl (subst (λ k. starts (entry_of 0 8 (f k)) ≡ true) same is))
    (λ ne. inr (row_start starts hits f i is (a + 1) n (omega arith) (omega arith)))
    (cases_eq i a)

module _ (terms : Terms) (lens : ℕ → ℕ) where
  abbrev opening : (engine partition : ℕ) → Call
  opening engine partition = Open (cursor_of engine partition) (lens (cursor_of engine partition))

  abbrev rows : (a n : ℕ) → List Call
  rows a n = flat_map (λ engine. map (opening engine) (range_with_len 0 terms.partitions)) (range_with_len a n)

  rows_start : (starts hits : Entry → Bool) (engine partition : ℕ) → starts (entry_of 0 8 (opening engine partition)) ≡ true → partition < terms.partitions → (a n : ℕ) → a ≤ engine → engine < a + n → HasStart starts hits (first_entries (rows a n))
  rows_start starts hits engine partition is below a zero low high = absurd (omega arith)
  rows_start starts hits engine partition is below a (suc n) low high =
      subst (HasStart starts hits) (sym (map-append (entry_of 0 8) (map (opening a) (range_with_len 0 terms.partitions)) (rows (a + 1) n)))
      (⊎_elim
      (λ same. start_left starts hits (first_entries (map (opening a) (range_with_len 0 terms.partitions))) (first_entries (rows (a + 1) n)) (row_start starts hits (opening a) partition (subst (λ k. starts (entry_of 0 8 (opening k partition)) ≡ true) same is) 0 terms.partitions (omega arith) (omega arith)))
      (λ ne. start_right starts hits (first_entries (map (opening a) (range_with_len 0 terms.partitions))) (first_entries (rows (a + 1) n)) (rows_start starts hits engine partition is below (a + 1) n (omega arith) (omega arith)))
      (cases_eq engine a))

  rows_within : (P : Entry → Type 0) (top : ℕ) → ((engine partition : ℕ) → engine < top → partition < terms.partitions → P (entry_of 0 8 (opening engine partition))) → (a n : ℕ) → a + n ≤ top → AllByRecursion P (first_entries (rows a n))
  rows_within P top each a zero low = tt
  rows_within P top each a (suc n) low =
      subst (AllByRecursion P) (sym (map-append (entry_of 0 8) (map (opening a) (range_with_len 0 terms.partitions)) (rows (a + 1) n)))
      (all_both P (first_entries (map (opening a) (range_with_len 0 terms.partitions))) (first_entries (rows (a + 1) n)) (within 0 terms.partitions (omega arith)) (rows_within P top each (a + 1) n (omega arith)))
    where
      within : (i m : ℕ) → i + m ≤ terms.partitions → AllByRecursion P (first_entries (map (opening a) (range_with_len i m)))
      within i zero fits = tt
      within i (suc m) fits = (each a i (omega arith) (omega arith), within (i + 1) m (omega arith))

-- The epoch that the openings begin.
step_here : (cursor e : ℕ) (f : ℕ → ℕ) → cursor ≡ cursor_of e 0 → engines_after cursor f e ≡ 1
step_here cursor e f is =
    let row : cursor % 64 ≡ 0 = omega (arith, is) in
    let at : e ≡ cursor / 64 = omega (arith, is) in
    ap (λ (g : ℕ → ℕ). g e) (cond-true (eqb (cursor % 64) 0) (put_at (cursor / 64) 1 f) f (eq-eqb (cursor % 64) 0 row)) ∙ put_at_here (cursor / 64) 1 f e at

step_else : (cursor e : ℕ) (f : ℕ → ℕ) → cursor ≢ cursor_of e 0 → engines_after cursor f e ≡ f e
step_else cursor e f ne = ⊎_elim
    (λ row.
    let other : e ≢ cursor / 64 = λ (at : e ≡ cursor / 64). ne (omega (arith, row, at)) in
    ap (λ (g : ℕ → ℕ). g e) (cond-true (eqb (cursor % 64) 0) (put_at (cursor / 64) 1 f) f (eq-eqb (cursor % 64) 0 row)) ∙ put_at_else (cursor / 64) 1 f e other)
    (λ inside. ap (λ (g : ℕ → ℕ). g e) (cond-false (eqb (cursor % 64) 0) (put_at (cursor / 64) 1 f) f (ne_eqb (cursor % 64) 0 inside)))
    (cases_eq (cursor % 64) 0)

abbrev IsOpen : Call → Type 0
IsOpen (Open cursor len) = Unit {0}
IsOpen _ = ⊥

abbrev Opened : ℕ → Entry → Bool
Opened e x = opens (cursor_of e 0) x.call

module _ (e : ℕ) where
  abbrev after_open : EpochSoFar → ℕ → EpochSoFar
  after_open u cursor = record { is_split = false; engines = engines_after cursor u.engines; greeted = u.greeted; past = u.past }

  engines_one : (t : EpochSoFar) (calls : List Call) → t.is_split ≡ false → AllByRecursion IsOpen calls → HasStart (Opened e) (Opened e) (first_entries calls) ⊎ (t.engines e ≡ 1) → (final epoch_step t (first_entries calls)).engines e ≡ 1
  engines_one t [] unsplit all has = ⊎_elim (λ none. absurd none) (λ one. one) has
  engines_one t (Open cursor len ∷ calls) unsplit all has =
      engines_one (epoch_after t (Open cursor len)) calls refl all.1 (⊎_elim
      (λ start. ⊎_elim (λ here. inr (ap (λ (u : EpochSoFar). engines_after cursor u.engines e) (cond-false t.is_split (next_epoch t) t unsplit) ∙ step_here cursor e t.engines (eqb-true cursor (cursor_of e 0) here))) (λ later. inl later) start)
      (λ one. inr (ap (λ (u : EpochSoFar). engines_after cursor u.engines e) (cond-false t.is_split (next_epoch t) t unsplit) ∙ ⊎_elim (λ same. step_here cursor e t.engines same) (λ ne. step_else cursor e t.engines ne ∙ one) (cases_eq cursor (cursor_of e 0))))
      has)
  engines_one t (c ∷ calls) unsplit all has = absurd all.0

  engines_kept : (t : EpochSoFar) (calls : List Call) → t.is_split ≡ false → AllByRecursion IsOpen calls → AllByRecursion (λ x. Opened e x ≡ false) (first_entries calls) → (final epoch_step t (first_entries calls)).engines e ≡ t.engines e
  engines_kept t [] unsplit all none = refl
  engines_kept t (Open cursor len ∷ calls) unsplit all none =
      engines_kept (epoch_after t (Open cursor len)) calls refl all.1 none.1
      ∙ (ap (λ (u : EpochSoFar). engines_after cursor u.engines e) (cond-false t.is_split (next_epoch t) t unsplit) ∙ step_else cursor e t.engines (λ same. false≢true (sym none.0 ∙ eq-eqb cursor (cursor_of e 0) same)))
  engines_kept t (c ∷ calls) unsplit all none = absurd all.0

begins_anew : (t : EpochSoFar) (calls : List Call) → t.is_split ≡ true → AllByRecursion IsOpen calls → ((calls ≡ []) → ⊥) → final epoch_step t (first_entries calls) ≡ final epoch_step (next_epoch t) (first_entries calls)
begins_anew t [] split all some = absurd (some refl)
begins_anew t (Open cursor len ∷ calls) split all some =
    ap (λ (u : EpochSoFar). final epoch_step (record { is_split = false; engines = engines_after cursor u.engines; greeted = u.greeted; past = u.past }) (first_entries calls)) (cond-true t.is_split (next_epoch t) t split)
begins_anew t (c ∷ calls) split all some = absurd all.0

-- Greetings and splits leave the engines.
abbrev Quiet : Call → Type 0
Quiet (Greet partition) = Unit {0}
Quiet (Split serial worker) = Unit {0}
Quiet _ = ⊥

engines_same : (t : EpochSoFar) (calls : List Call) → AllByRecursion Quiet calls → (final epoch_step t (first_entries calls)).engines ≡ t.engines
engines_same t [] all = refl
engines_same t (Greet partition ∷ calls) all = engines_same (epoch_after t (Greet partition)) calls all.1
engines_same t (Split serial worker ∷ calls) all = engines_same (epoch_after t (Split serial worker)) calls all.1
engines_same t (c ∷ calls) all = absurd all.0

module _ (p : ℕ) where
  stays_greeted : (t : EpochSoFar) (calls : List Call) → AllByRecursion Quiet calls → t.greeted p ≡ true → (final epoch_step t (first_entries calls)).greeted p ≡ true
  stays_greeted t [] all is = is
  stays_greeted t (Greet partition ∷ calls) all is = stays_greeted (epoch_after t (Greet partition)) calls all.1 (⊎_elim (λ same. put_at_here partition true t.greeted p same) (λ ne. put_at_else partition true t.greeted p ne ∙ is) (cases_eq p partition))
  stays_greeted t (Split serial worker ∷ calls) all is = stays_greeted (epoch_after t (Split serial worker)) calls all.1 is
  stays_greeted t (c ∷ calls) all is = absurd all.0

  is_greeted : (t : EpochSoFar) (calls : List Call) → AllByRecursion Quiet calls → HasStart (λ x. greets p x.call) (λ x. greets p x.call) (first_entries calls) → (final epoch_step t (first_entries calls)).greeted p ≡ true
  is_greeted t [] all has = absurd has
  is_greeted t (Greet partition ∷ calls) all has = ⊎_elim
      (λ here. stays_greeted (epoch_after t (Greet partition)) calls all.1 (put_at_here partition true t.greeted p (sym (eqb-true partition p here))))
      (λ later. is_greeted (epoch_after t (Greet partition)) calls all.1 later)
      has
  is_greeted t (Split serial worker ∷ calls) all has = ⊎_elim (λ here. absurd (false≢true here)) (λ later. is_greeted (epoch_after t (Split serial worker)) calls all.1 later) has
  is_greeted t (c ∷ calls) all has = absurd all.0

ones_below : (m n : ℕ) → n ≤ m → total m (λ e. cond (ltb e n) 1 0) ≡ n
ones_below zero n few = omega arith
ones_below (suc m) n few = ⊎_elim
    (λ less.
    let rest = ones_below m n (omega arith) in
    let none : cond {A = ℕ} (ltb m n) 1 0 ≡ 0 = cond-false {A = ℕ} (ltb m n) 1 0 (le-ltb m n (omega arith)) in
    omega (arith, rest, none))
    (λ all.
    let below : total m (λ e. cond (ltb e n) 1 0) ≡ total m (λ e. cond (ltb e m) 1 0) = total_same_below m _ _ (λ e less. cond-true {A = ℕ} (ltb e n) 1 0 (lt-ltb e n (omega arith)) ∙ sym (cond-true {A = ℕ} (ltb e m) 1 0 (lt-ltb e m less))) in
    let rest = ones_below m m (omega arith) in
    let one : cond {A = ℕ} (ltb m n) 1 0 ≡ 1 = cond-true {A = ℕ} (ltb m n) 1 0 (lt-ltb m n (omega arith)) in
    omega (arith, below, rest, one))
    (cases_lt_le n m)
  where
    cases_lt_le : (a b : ℕ) → (a ≤ b) ⊎ (b < a)
    cases_lt_le a b = ⊎_elim (λ less. inr less) (λ most. inl most) (cases_lt b a)

-- The number of chunks with which a cursor was opened.
module _ (lens : ℕ → ℕ) (cursor : ℕ) where
  abbrev Sets : Call → Type 0
  Sets (Open opened len) = len ≡ lens opened
  Sets _ = Unit {0}

  sets_len : (k : ℕ) (c : Call) → Sets c → opens cursor c ≡ true → len_after cursor k c ≡ lens cursor
  sets_len k (Open opened len) sets here = cond-true (eqb opened cursor) len k here ∙ (sets ∙ ap lens (eqb-true opened cursor here))
  sets_len k _ sets here = absurd (false≢true here)

  keeps_len : (k : ℕ) (c : Call) → Sets c → k ≡ lens cursor → len_after cursor k c ≡ lens cursor
  keeps_len k (Open opened len) sets is = ⊎_elim (λ here. sets_len k (Open opened len) sets here) (λ other. cond-false (eqb opened cursor) len k other ∙ is) (cases_Bool (eqb opened cursor))
  keeps_len k _ sets is = is

  still_len : (k : ℕ) (l : List Entry) → AllByRecursion (λ e. Sets e.call) l → k ≡ lens cursor → opened_from cursor k l ≡ lens cursor
  still_len k [] all is = is
  still_len k (e ∷ l) all is = still_len (len_after cursor k e.call) l all.1 (keeps_len k e.call all.0 is)

  gets_len : (k : ℕ) (l : List Entry) → AllByRecursion (λ e. Sets e.call) l → HasStart (λ e. opens cursor e.call) (λ e. opens cursor e.call) l → opened_from cursor k l ≡ lens cursor
  gets_len k [] all has = absurd has
  gets_len k (e ∷ l) all has = ⊎_elim (λ here. still_len (len_after cursor k e.call) l all.1 (sets_len k e.call all.0 here)) (λ later. gets_len (len_after cursor k e.call) l all.1 later) has

own_entries : (calls : List Call) → entries_of 0 (first_entries calls) ≡ first_entries calls
own_entries [] = refl
own_entries (c ∷ calls) = ap (λ l. entry_of 0 8 c ∷ l) (own_entries calls)

module _ (terms : Terms) (lens : ℕ → ℕ) (past : List Entry) (before splits : ℕ) (some : 1 ≤ terms.engines) (few : terms.engines ≤ 8) (some_partition : 1 ≤ terms.partitions) (few_partitions : terms.partitions ≤ 64) (ended : (epoch_of past).is_split ≡ true) where
  abbrev the_rows : List Call
  the_rows = opens_of terms lens

  abbrev the_rest : List Call
  the_rest = greets_of terms ++ splits_of before splits

  abbrev new_entries : List Entry
  new_entries = first_entries the_rows ++ (first_entries (greets_of terms) ++ first_entries (splits_of before splits))

  all_new : (P : Entry → Type 0) → ((opened : ℕ) → P (entry_of 0 8 (Open opened (lens opened)))) → ((p : ℕ) → P (entry_of 0 8 (Greet p))) → ((serial worker : ℕ) → P (entry_of 0 8 (Split serial worker))) → AllByRecursion P new_entries
  all_new P opens_too greets_too splits_too =
      all_both P (first_entries the_rows) (first_entries (greets_of terms) ++ first_entries (splits_of before splits)) (rows_all P (opening terms lens) (λ engine partition. opens_too (cursor_of engine partition)) terms.partitions 0 terms.engines)
      (all_both P (first_entries (greets_of terms)) (first_entries (splits_of before splits)) (row_all P Greet greets_too 0 terms.partitions) (row_all P (λ worker. Split (suc (before + worker)) worker) (λ worker. splits_too (suc (before + worker)) worker) 0 splits))

  module _ (starts hits : Entry → Bool) where
    row_begins : (engine p : ℕ) → engine < terms.engines → p < terms.partitions → starts (entry_of 0 8 (opening terms lens engine p)) ≡ true → HasStart starts hits new_entries
    row_begins engine p below within is = start_left starts hits (first_entries the_rows) (first_entries (greets_of terms) ++ first_entries (splits_of before splits)) (rows_start terms lens starts hits engine p is within 0 terms.engines (omega arith) (omega arith))

    greeting_begins : (p : ℕ) → p < terms.partitions → starts (entry_of 0 8 (Greet p)) ≡ true → HasStart starts hits new_entries
    greeting_begins p within is =
        start_right starts hits (first_entries the_rows) (first_entries (greets_of terms) ++ first_entries (splits_of before splits)) (start_left starts hits (first_entries (greets_of terms)) (first_entries (splits_of before splits)) (row_start starts hits Greet p is 0 terms.partitions (omega arith) (omega arith)))

    counts_none : AllByRecursion (λ e. hits e ≡ false) new_entries → HasStart starts hits new_entries → count_from starts hits 0 (past ++ new_entries) ≡ 0
    counts_none none has = count-append starts hits 0 past new_entries ∙ since_start starts hits (count_from starts hits 0 past) new_entries none has

  no_refusal : (worker engine p : ℕ) → engine < terms.engines → p < terms.partitions → refusals_of worker (cursor_of engine p) (past ++ new_entries) ≡ 0
  no_refusal worker engine p below within =
      counts_none (λ e. opens (cursor_of engine p) e.call) (λ e. exhausts (cursor_of engine p) e.call && eqb e.worker worker) (all_new (λ e. (exhausts (cursor_of engine p) e.call && eqb e.worker worker) ≡ false) (λ opened. refl) (λ q. refl) (λ serial w. refl))
      (row_begins (λ e. opens (cursor_of engine p) e.call) (λ e. exhausts (cursor_of engine p) e.call && eqb e.worker worker) engine p below within (eq-eqb (cursor_of engine p) (cursor_of engine p) refl))

  no_admission : (worker p : ℕ) → p < terms.partitions → admissions_of worker p (past ++ new_entries) ≡ 0
  no_admission worker p within =
      counts_none (λ e. greets p e.call) (λ e. admits p e.call && eqb e.worker worker) (all_new (λ e. (admits p e.call && eqb e.worker worker) ≡ false) (λ opened. refl) (λ q. refl) (λ serial w. refl))
      (greeting_begins (λ e. greets p e.call) (λ e. admits p e.call && eqb e.worker worker) p within (eq-eqb p p refl))

  the_len : (engine p : ℕ) → engine < terms.engines → p < terms.partitions → opened_len (cursor_of engine p) (past ++ new_entries) ≡ lens (cursor_of engine p)
  the_len engine p below within =
      final-append (λ len (e : Entry). len_after (cursor_of engine p) len e.call) 0 past new_entries
      ∙ gets_len lens (cursor_of engine p) (opened_from (cursor_of engine p) 0 past) new_entries (all_new (λ e. Sets lens (cursor_of engine p) e.call) (λ opened. refl) (λ q. tt) (λ serial w. tt))
      (row_begins (λ e. opens (cursor_of engine p) e.call) (λ e. opens (cursor_of engine p) e.call) engine p below within (eq-eqb (cursor_of engine p) (cursor_of engine p) refl))

  -- The epoch.
  abbrev begun : EpochSoFar
  begun = final epoch_step (next_epoch (epoch_of past)) (first_entries the_rows)

  calls_open : (a n : ℕ) → AllByRecursion IsOpen (rows terms lens a n)
  calls_open a zero = tt
  calls_open a (suc n) = all_both IsOpen (map (opening terms lens a) (range_with_len 0 terms.partitions)) (rows terms lens (a + 1) n) (row_open a 0 terms.partitions) (calls_open (a + 1) n)
    where
      row_open : (engine i m : ℕ) → AllByRecursion IsOpen (map (opening terms lens engine) (range_with_len i m))
      row_open engine i zero = tt
      row_open engine i (suc m) = (tt, row_open engine (i + 1) m)

  rest_quiet : AllByRecursion Quiet the_rest
  rest_quiet = all_both Quiet (greets_of terms) (splits_of before splits) (greets_quiet 0 terms.partitions) (splits_quiet 0 splits)
    where
      greets_quiet : (i m : ℕ) → AllByRecursion Quiet (map Greet (range_with_len i m))
      greets_quiet i zero = tt
      greets_quiet i (suc m) = (tt, greets_quiet (i + 1) m)

      splits_quiet : (i m : ℕ) → AllByRecursion Quiet (map (λ worker. Split (suc (before + worker)) worker) (range_with_len i m))
      splits_quiet i zero = tt
      splits_quiet i (suc m) = (tt, splits_quiet (i + 1) m)

  rows_some : (the_rows ≡ []) → ⊥
  rows_some none = absurd (subst (λ calls. HasStart (Opened 0) (Opened 0) (first_entries calls)) none (rows_start terms lens (Opened 0) (Opened 0) 0 0 refl (omega arith) 0 terms.engines (omega arith) (omega arith)))

  epoch_is : epoch_of (past ++ new_entries) ≡ final epoch_step begun (first_entries the_rest)
  epoch_is =
      let own : entries_of 0 new_entries ≡ new_entries =
      filter-append (λ (e : Entry). eqb e.serial 0) (first_entries the_rows) (first_entries (greets_of terms) ++ first_entries (splits_of before splits))
      ∙ (ap (λ l. l ++ entries_of 0 (first_entries (greets_of terms) ++ first_entries (splits_of before splits))) (own_entries the_rows)
      ∙ ap (λ l. first_entries the_rows ++ l) (ap (entries_of 0) (sym (map-append (entry_of 0 8) (greets_of terms) (splits_of before splits))) ∙ (own_entries the_rest ∙ map-append (entry_of 0 8) (greets_of terms) (splits_of before splits)))) in
      ap (final epoch_step no_epoch) (filter-append (λ (e : Entry). eqb e.serial 0) past new_entries ∙ ap (λ l. entries_of 0 past ++ l) own)
      ∙ (final-append epoch_step no_epoch (entries_of 0 past) new_entries
      ∙ (final-append epoch_step (epoch_of past) (first_entries the_rows) (first_entries (greets_of terms) ++ first_entries (splits_of before splits))
      ∙ (ap (λ t. final epoch_step t (first_entries (greets_of terms) ++ first_entries (splits_of before splits))) (begins_anew (epoch_of past) the_rows ended (calls_open 0 terms.engines) rows_some)
      ∙ ap (final epoch_step begun) (sym (map-append (entry_of 0 8) (greets_of terms) (splits_of before splits))))))

  engine_is : (e : ℕ) → begun.engines e ≡ cond (ltb e terms.engines) 1 0
  engine_is e = ⊎_elim
      (λ less.
      engines_one e (next_epoch (epoch_of past)) the_rows refl (calls_open 0 terms.engines) (inl (rows_start terms lens (Opened e) (Opened e) e 0 (eq-eqb (cursor_of e 0) (cursor_of e 0) refl) (omega arith) 0 terms.engines (omega arith) (omega arith)))
      ∙ sym (cond-true (ltb e terms.engines) 1 0 (lt-ltb e terms.engines less)))
      (λ most.
      engines_kept e (next_epoch (epoch_of past)) the_rows refl (calls_open 0 terms.engines)
      (rows_within terms lens (λ x. Opened e x ≡ false) terms.engines (λ engine p below within. ne_eqb (cursor_of engine p) (cursor_of e 0) (λ same. absurd (omega (arith, same, most, below, within)))) 0 terms.engines (omega arith))
      ∙ sym (cond-false (ltb e terms.engines) 1 0 (le-ltb e terms.engines most)))
      (cases_lt e terms.engines)

  engines_are : engine_count (epoch_of (past ++ new_entries)) ≡ terms.engines
  engines_are =
      ap engine_count epoch_is
      ∙ (ap (total 8) (engines_same begun the_rest rest_quiet) ∙ (total_same_below 8 begun.engines (λ e. cond (ltb e terms.engines) 1 0) (λ e less. engine_is e) ∙ ones_below 8 terms.engines few))

  greeted_is : (p : ℕ) → p < terms.partitions → (epoch_of (past ++ new_entries)).greeted p ≡ true
  greeted_is p within =
      ap (λ (t : EpochSoFar). t.greeted p) epoch_is
      ∙ is_greeted p begun the_rest rest_quiet
      (subst (HasStart (λ x. greets p x.call) (λ x. greets p x.call)) (sym (map-append (entry_of 0 8) (greets_of terms) (splits_of before splits)))
      (start_left (λ x. greets p x.call) (λ x. greets p x.call) (first_entries (greets_of terms)) (first_entries (splits_of before splits)) (row_start (λ x. greets p x.call) (λ x. greets p x.call) Greet p (eq-eqb p p refl) 0 terms.partitions (omega arith) (omega arith))))

  pub may_work : (v : View) → v.serial ≢ 0 → v.story ≡ [] → v.held ≡ past ++ new_entries → MayWork terms lens v
  may_work v other none held p within =
      let known : knows v ≡ past ++ new_entries = ap (λ l. v.held ++ l) none ∙ (append-nil v.held ∙ held) in
      record {
        fresh = subst (λ chunks. All (λ chunk. chunk.0 % 64 ≢ p) chunks) (sym (ap (λ (story : List Entry). taken (map (λ (e : Entry). e.call) story)) none)) (All-nil (λ chunk. chunk.0 % 64 ≢ p));
        ready = λ engine below. record {
          may = ap (refusals_of v.worker (cursor_of engine p)) known ∙ no_refusal v.worker engine p below within;
          opened = ap (opened_len (cursor_of engine p)) known ∙ the_len engine p below within;
        };
        may = λ not_master. record {
          split = other;
          greeted = ap (λ l. (epoch_of l).greeted p) held ∙ greeted_is p within;
          opened = let e : engine_count (epoch_of v.held) ≡ terms.engines = ap (λ l. engine_count (epoch_of l)) held ∙ engines_are in omega (arith, e, some);
          no_master = λ same. not_master (sym (same ∙ ap (λ n. p % n) (ap (λ l. engine_count (epoch_of l)) held ∙ engines_are)));
          once = ap (admissions_of v.worker p) known ∙ no_admission v.worker p within;
        };
      }

pub nothing_taken : (v : View) → v.story ≡ [] → taken_by_seat v ≡ []
nothing_taken v none = ap (λ (story : List Entry). taken (map (λ (e : Entry). e.call) story)) none
