-- The calls of an epoch's workers stand in one legal history.
use Rattle.std.proofs.Common.{◌≡◌, ◌≢◌, ◌⊎◌, inl, inr, ℕ, zero, suc, ◌+◌, ◌/◌, ◌%◌, ◌<◌, ◌≤◌, ◌==◌, ◌&&◌, ◌||◌, not, if◌then◌else◌, Bool, true, false, List, [], ◌∷◌, ◌++◌, length, get_or, map, filter, flat_map, refl, sym, ◌∙◌, ap, subst, zero-add, append-nil, arith, eq-eqb}
use Rattle.std.specs.List.{All, range_with_len}
use Rattle.std.proofs.lemmas.Bool.{eqb-true, eqb-false, or_parts, ne_eqb}
use Rattle.std.proofs.lemmas.List.{map-append, get_or_default}
use Rattle.std.proofs.lemmas.List.Elements.{All-from_recursion, All-nil, All-cons, All-head, All-tail, All-append, All-weaker, All-filter, filter-append, filter_passes}
use Rattle.chunk_object.specs.declared.call.Call.{Call}
use Rattle.chunk_object.specs.declared.call.Call.TheVariants.{Open, Greet, Took, Exhausted, Look, Heads, Admitted, Contended, Split, Join}
use Rattle.chunk_object.specs.declared.call.Entry.{Entry}
use Rattle.chunk_object.specs.Object.{ChunkObject, unopened, after}
use Rattle.chunk_object.specs.History.{final, EachStep, object_step, IsAnswered, sets_word, bears_on, opens, takes_any, greets, admits, len_after, StandsWhole}
use Rattle.chunk_object.specs.Epochs.{cursor_of, Terms, Epoch, list_of, entry_of, first_entries, opens_of, greets_of, splits_of, returns_of, epoch_entries}
use Rattle.chunk_object.specs.Duty.{partition_of, MeetsDuty}
use Rattle.chunk_object.proofs.Histories.{final-append}
use Rattle.chunk_object.proofs.Moves.{greets_sets, opens_sets, len_kept}
use Rattle.chunk_object.proofs.Rows as rows
use Rattle.graph_model.proofs.BoolLemmas.{true_is_not}
use Rattle.epoch_laws.specs.Turns.{IsTheirs, IsOpened, EpochHistory, calls_of_worker}
use Rattle.epoch_laws.proofs.Duties.{dutiful_parts}
use Rattle.epoch_laws.proofs.Events.{whole, put_case, calls_own, calls_other}

abbrev sets : Entry → Bool
sets e = sets_word e.call

-- whether anything is opened or greeted
abbrev any_set : List Entry → Bool
any_set [] = false
any_set (e ∷ es) = sets e || any_set es

-- the part up to the last opening or greeting, and what stands behind it
abbrev front : List Entry → List Entry
front [] = []
front (e ∷ es) = if sets e || any_set es then e ∷ front es else []

abbrev pub back : List Entry → List Entry
back [] = []
back (e ∷ es) = if sets e || any_set es then back es else e ∷ es

front_back : (l : List Entry) → front l ++ back l ≡ l
front_back [] = refl
front_back (e ∷ es) = by_test (sets e || any_set es) (front_back es)
  where
    by_test : (some : Bool) → front es ++ back es ≡ es → (if some then e ∷ front es else []) ++ (if some then back es else e ∷ es) ≡ e ∷ es
    by_test true rest = ap (λ l. e ∷ l) rest
    by_test false rest = refl

none_front : (l : List Entry) → any_set l ≡ false → (front l ≡ []) × (back l ≡ l)
none_front [] none = (refl, refl)
none_front (e ∷ es) none = (ap (λ b. if b then e ∷ front es else []) none, ap (λ b. if b then back es else e ∷ es) none)

module _ (b : Entry → Bool) (keeps : (e : Entry) → sets e ≡ true → b e ≡ true) where
  dropped : (e : Entry) → b e ≡ false → sets e ≡ false
  dropped e out = by_test (sets e) refl
    where
      by_test : (s : Bool) → sets e ≡ s → sets e ≡ false
      by_test true is = let kept = keeps e is in absurd (grind (arith, kept, out))
      by_test false is = is

  any_kept : (l : List Entry) → any_set (filter b l) ≡ any_set l
  any_kept [] = refl
  any_kept (e ∷ es) = by_test (b e) refl (any_kept es)
    where
      by_test : (kept : Bool) → b e ≡ kept → any_set (filter b es) ≡ any_set es → any_set (if kept then e ∷ filter b es else filter b es) ≡ sets e || any_set es
      by_test true is rest = ap (λ t. sets e || t) rest
      by_test false is rest = rest ∙ sym (ap (λ t. t || any_set es) (dropped e is))

  cut_kept : (l : List Entry) → (front (filter b l) ≡ filter b (front l)) × (back (filter b l) ≡ filter b (back l))
  cut_kept [] = (refl, refl)
  cut_kept (e ∷ es) = by_test (b e) refl (cut_kept es)
    where
      kept_here : b e ≡ true → (l : List Entry) → filter b (e ∷ l) ≡ e ∷ filter b l
      kept_here is l = rw is refl

      dropped_here : b e ≡ false → (l : List Entry) → filter b (e ∷ l) ≡ filter b l
      dropped_here is l = rw is refl

      some_kept : b e ≡ true → (some : Bool) → (front (filter b es) ≡ filter b (front es)) × (back (filter b es) ≡ filter b (back es)) →
          ((if some then e ∷ front (filter b es) else []) ≡ filter b (if some then e ∷ front es else [])) × ((if some then back (filter b es) else e ∷ filter b es) ≡ filter b (if some then back es else e ∷ es))
      some_kept is true rest = (ap (λ l. e ∷ l) rest.0 ∙ sym (kept_here is (front es)), rest.1)
      some_kept is false rest = (refl, sym (kept_here is es))

      some_dropped : b e ≡ false → (some : Bool) → any_set es ≡ some → (front (filter b es) ≡ filter b (front es)) × (back (filter b es) ≡ filter b (back es)) →
          (front (filter b es) ≡ filter b (if some then e ∷ front es else [])) × (back (filter b es) ≡ filter b (if some then back es else e ∷ es))
      some_dropped is true has rest = (rest.0 ∙ sym (dropped_here is (front es)), rest.1)
      some_dropped is false has rest =
          let none = none_front (filter b es) (any_kept es ∙ has) in
          (none.0, none.1 ∙ sym (dropped_here is es))

      by_test : (kept : Bool) → b e ≡ kept → (front (filter b es) ≡ filter b (front es)) × (back (filter b es) ≡ filter b (back es)) →
          (front (if kept then e ∷ filter b es else filter b es) ≡ filter b (front (e ∷ es))) × (back (if kept then e ∷ filter b es else filter b es) ≡ filter b (back (e ∷ es)))
      by_test true is rest =
          let both = some_kept is (sets e || any_set es) rest in
          (ap (λ t. if sets e || t then e ∷ front (filter b es) else []) (any_kept es) ∙ both.0, ap (λ t. if sets e || t then back (filter b es) else e ∷ filter b es) (any_kept es) ∙ both.1)
      by_test false is rest =
          let both = some_dropped is (any_set es) refl rest in
          let quiet = dropped e is in
          (both.0 ∙ ap (λ t. filter b (if t || any_set es then e ∷ front es else [])) (sym quiet), both.1 ∙ ap (λ t. filter b (if t || any_set es then back es else e ∷ es)) (sym quiet))

-- a row of openings and greetings, and what comes before and behind it
cut_sets : (row rest : List Entry) → All (λ (e : Entry). sets e ≡ true) row → (front (row ++ rest) ≡ row ++ front rest) × (back (row ++ rest) ≡ back rest)
cut_sets [] rest all = (refl, refl)
cut_sets (e ∷ row) rest all =
    let here : (sets e || any_set (row ++ rest)) ≡ true = ap (λ t. t || any_set (row ++ rest)) (All-head (λ (e : Entry). sets e ≡ true) e row all) in
    let later = cut_sets row rest (All-tail (λ (e : Entry). sets e ≡ true) e row all) in
    (ap (λ t. if t then e ∷ front (row ++ rest) else []) here ∙ ap (λ l. e ∷ l) later.0, ap (λ t. if t then back (row ++ rest) else e ∷ (row ++ rest)) here ∙ later.1)

cut_past : (past rest : List Entry) → any_set rest ≡ true → (front (past ++ rest) ≡ past ++ front rest) × (back (past ++ rest) ≡ back rest)
cut_past [] rest some = (refl, refl)
cut_past (e ∷ past) rest some =
    let here : (sets e || any_set (past ++ rest)) ≡ true = or_true (sets e) (any_set (past ++ rest)) (any_behind past rest some) in
    let later = cut_past past rest some in
    (ap (λ t. if t then e ∷ front (past ++ rest) else []) here ∙ ap (λ l. e ∷ l) later.0, ap (λ t. if t then back (past ++ rest) else e ∷ (past ++ rest)) here ∙ later.1)
  where
    or_true : (a b : Bool) → b ≡ true → (a || b) ≡ true
    or_true true b is = refl
    or_true false b is = is

    any_behind : (xs ys : List Entry) → any_set ys ≡ true → any_set (xs ++ ys) ≡ true
    any_behind [] ys is = is
    any_behind (x ∷ xs) ys is = or_true (sets x) (any_set (xs ++ ys)) (any_behind xs ys is)

-- whether some entry passes
abbrev some_entry : (Call → Bool) → List Entry → Bool
some_entry test [] = false
some_entry test (e ∷ l) = test e.call || some_entry test l

-- Marks: what was hit since the last start. Starts are openings or greetings.
module _ (starts hits : Call → Bool) (sure : (c : Call) → starts c ≡ true → sets_word c ≡ true) where
  abbrev pub mark : Bool → Entry → Bool
  mark m e = if starts e.call then false else hits e.call || m

  -- the hits of one worker alone
  abbrev pub mark_of : ℕ → Bool → Entry → Bool
  mark_of w m e = if starts e.call then false else (hits e.call && e.worker == w) || m

  -- a mark that nobody made is not there
  unmarked : (l : List Entry) (m : Bool) (ms : ℕ → Bool) → (m ≡ true → (w : ℕ) × (ms w ≡ true)) → final mark m l ≡ true → (w : ℕ) × (final (mark_of w) (ms w) l ≡ true)
  unmarked [] m ms from is = from is
  unmarked (e ∷ l) m ms from is = unmarked l (mark m e) (λ w. mark_of w (ms w) e) (λ made. one (starts e.call) (hits e.call) refl refl made) is
    where
      still : (w : ℕ) (k : Bool) → starts e.call ≡ false → hits e.call ≡ false → mark_of w k e ≡ k
      still w k is_start is_hit = rw (is_start, is_hit) refl

      one : (s h : Bool) → starts e.call ≡ s → hits e.call ≡ h → mark m e ≡ true → (w : ℕ) × (mark_of w (ms w) e ≡ true)
      one true h is_start is_hit made = let none : mark m e ≡ false = rw is_start refl in absurd (grind (arith, made, none))
      one false true is_start is_hit made = (e.worker, rw (is_start, is_hit, eq-eqb e.worker e.worker refl) refl)
      one false false is_start is_hit made =
          let old : mark m e ≡ m = rw (is_start, is_hit) refl in
          let before = from (sym old ∙ made) in
          (before.0, still before.0 (ms before.0) is_start is_hit ∙ before.1)

  -- what does not bear on a worker leaves its mark
  mark_kept : (w : ℕ) (l : List Entry) (m : Bool) → final (mark_of w) m (filter (bears_on w) l) ≡ final (mark_of w) m l
  mark_kept w [] m = refl
  mark_kept w (e ∷ l) m = by_test (bears_on w e) refl (λ k. mark_kept w l k)
    where
      by_test : (kept : Bool) → bears_on w e ≡ kept → ((k : Bool) → final (mark_of w) k (filter (bears_on w) l) ≡ final (mark_of w) k l) → final (mark_of w) m (if kept then e ∷ filter (bears_on w) l else filter (bears_on w) l) ≡ final (mark_of w) m (e ∷ l)
      by_test true is rest = rest (mark_of w m e)
      by_test false is rest = rest m ∙ ap (λ k. final (mark_of w) k l) (sym (same (starts e.call) (sets e) (e.worker == w) refl refl refl))
        where
          no_hit : (h : Bool) → ((h && false) || m) ≡ m
          no_hit true = refl
          no_hit false = refl

          same : (s t own : Bool) → starts e.call ≡ s → sets e ≡ t → (e.worker == w) ≡ own → mark_of w m e ≡ m
          same s true own is_start is_set is_own = let kept : bears_on w e ≡ true = rw is_set refl in absurd (grind (arith, kept, is))
          same s false true is_start is_set is_own = let kept : bears_on w e ≡ true = rw (is_set, is_own) refl in absurd (grind (arith, kept, is))
          same true false false is_start is_set is_own = let set = sure e.call is_start in absurd (grind (arith, set, is_set))
          same false false false is_start is_set is_own = rw (is_start, is_own) (no_hit (hits e.call))

  -- a list with a start and no hits leaves no mark

  no_mark : (w : ℕ) (l : List Entry) (m : Bool) → All (λ (e : Entry). hits e.call ≡ false) l → final (mark_of w) m l ≡ (if some_entry starts l then false else m)
  no_mark w [] m none = refl
  no_mark w (e ∷ l) m none =
      no_mark w l (mark_of w m e) (All-tail (λ (e : Entry). hits e.call ≡ false) e l none) ∙ by_test (starts e.call) (some_entry starts l) refl
    where
      quiet : hits e.call ≡ false
      quiet = All-head (λ (e : Entry). hits e.call ≡ false) e l none

      by_test : (s t : Bool) → starts e.call ≡ s → (if t then false else mark_of w m e) ≡ (if starts e.call || t then false else m)
      by_test true true is = rw is refl
      by_test true false is = rw is refl
      by_test false true is = rw is refl
      by_test false false is = rw (is, quiet) refl

-- the next chunk of a cursor that is not marked is its first
next_of_marks : (c : ℕ) (l : List Entry) (o : ChunkObject) (m : Bool) → (m ≡ false → o.next c ≡ 0) → final (mark (opens c) (takes_any c) (opens_sets c)) m l ≡ false → (final object_step o l).next c ≡ 0
next_of_marks c [] o m start done = start done
next_of_marks c (e ∷ l) o m start done = next_of_marks c l (after o e.call) (mark (opens c) (takes_any c) (opens_sets c) m e) (step e.call) done
  where
    step : (k : Call) → (if opens c k then false else takes_any c k || m) ≡ false → (after o k).next c ≡ 0
    step (Open cursor len) is = put_case (λ n. n ≡ 0) cursor 0 o.next c (λ here. refl) (λ apart. start (sym (ap (λ b. if b then false else m) (ne_eqb cursor c (λ equal. apart (sym equal)))) ∙ is))
    step (Took cursor chunk) is =
        let parts = or_parts (cursor == c) m is in
        put_case (λ n. n ≡ 0) cursor (suc chunk) o.next c (λ here. absurd (true_is_not (cursor == c) (eq-eqb cursor c (sym here)) parts.0)) (λ apart. start parts.1)
    step (Greet partition) is = start is
    step (Exhausted cursor) is = start is
    step (Look cursor left) is = start is
    step (Heads partition heads) is = start is
    step (Admitted partition heads) is = start is
    step (Contended partition heads found) is = start is
    step (Split serial worker) is = start is
    step (Join serial worker) is = start is

heads_of_marks : (p : ℕ) (l : List Entry) (o : ChunkObject) (m : Bool) → (m ≡ false → o.heads p ≡ 1) → final (mark (greets p) (admits p) (greets_sets p)) m l ≡ false → (final object_step o l).heads p ≡ 1
heads_of_marks p [] o m start done = start done
heads_of_marks p (e ∷ l) o m start done = heads_of_marks p l (after o e.call) (mark (greets p) (admits p) (greets_sets p) m e) (step e.call) done
  where
    step : (k : Call) → (if greets p k then false else admits p k || m) ≡ false → (after o k).heads p ≡ 1
    step (Greet partition) is = put_case (λ n. n ≡ 1) partition 1 o.heads p (λ here. refl) (λ apart. start (sym (ap (λ b. if b then false else m) (ne_eqb partition p (λ equal. apart (sym equal)))) ∙ is))
    step (Admitted partition heads) is =
        let parts = or_parts (partition == p) m is in
        put_case (λ n. n ≡ 1) partition (suc heads) o.heads p (λ here. absurd (true_is_not (partition == p) (eq-eqb partition p (sym here)) parts.0)) (λ apart. start parts.1)
    step (Open cursor len) is = start is
    step (Took cursor chunk) is = start is
    step (Exhausted cursor) is = start is
    step (Look cursor left) is = start is
    step (Heads other heads) is = start is
    step (Contended partition heads found) is = start is
    step (Split serial worker) is = start is
    step (Join serial worker) is = start is

abbrev len_step : ℕ → ℕ → Entry → ℕ
len_step c n e = len_after c n e.call

len_of_run : (c : ℕ) (l : List Entry) (o : ChunkObject) → (final object_step o l).len c ≡ final (len_step c) (o.len c) l
len_of_run c [] o = refl
len_of_run c (e ∷ l) o = len_of_run c l (after o e.call) ∙ ap (λ n. final (len_step c) n l) (step e.call)
  where
    step : (k : Call) → (after o k).len c ≡ len_after c (o.len c) k
    step (Open cursor len) =
        put_case (λ n. n ≡ (if cursor == c then len else o.len c)) cursor len o.len c
        (λ here. sym (ap (λ b. if b then len else o.len c) (eq-eqb cursor c (sym here)))) (λ apart. sym (ap (λ b. if b then len else o.len c) (ne_eqb cursor c (λ equal. apart (sym equal)))))
    step (Greet partition) = refl
    step (Took cursor chunk) = refl
    step (Exhausted cursor) = refl
    step (Look cursor left) = refl
    step (Heads partition heads) = refl
    step (Admitted partition heads) = refl
    step (Contended partition heads found) = refl
    step (Split serial worker) = refl
    step (Join serial worker) = refl

-- rows of calls of the first caller
row_all : (P : Entry → Type 0) (f : ℕ → Call) → ((k : ℕ) → P (entry_of 0 8 (f k))) → (a n : ℕ) → All P (first_entries (map f (range_with_len a n)))
row_all P f each a n = All-from_recursion P (first_entries (map f (range_with_len a n))) (rows.row_all P f each a n)

rows_all : (P : Entry → Type 0) (f : ℕ → ℕ → Call) → ((e p : ℕ) → P (entry_of 0 8 (f e p))) → (k a n : ℕ) → All P (first_entries (flat_map (λ engine. map (f engine) (range_with_len 0 k)) (range_with_len a n)))
rows_all P f each k a n = All-from_recursion P (first_entries (flat_map (λ engine. map (f engine) (range_with_len 0 k)) (range_with_len a n))) (rows.rows_all P f each k a n)

or_left : (a b : Bool) → a ≡ true → (a || b) ≡ true
or_left a b is = ap (λ t. t || b) is

or_right : (a b : Bool) → b ≡ true → (a || b) ≡ true
or_right true b is = refl
or_right false b is = is

some_left : (test : Call → Bool) (xs ys : List Entry) → some_entry test xs ≡ true → some_entry test (xs ++ ys) ≡ true
some_left test [] ys is = absurd (grind (arith, is))
some_left test (x ∷ xs) ys is = by_test (test x.call) refl (λ rest. some_left test xs ys rest)
  where
    by_test : (t : Bool) → test x.call ≡ t → (some_entry test xs ≡ true → some_entry test (xs ++ ys) ≡ true) → (test x.call || some_entry test (xs ++ ys)) ≡ true
    by_test true here rest = or_left (test x.call) (some_entry test (xs ++ ys)) here
    by_test false here rest = or_right (test x.call) (some_entry test (xs ++ ys)) (rest (sym (ap (λ t. t || some_entry test xs) here) ∙ is))

some_right : (test : Call → Bool) (xs ys : List Entry) → some_entry test ys ≡ true → some_entry test (xs ++ ys) ≡ true
some_right test [] ys is = is
some_right test (x ∷ xs) ys is = or_right (test x.call) (some_entry test (xs ++ ys)) (some_right test xs ys is)

row_some : (test : Call → Bool) (f : ℕ → Call) (k a n : ℕ) → test (f k) ≡ true → a ≤ k → k < a + n → some_entry test (first_entries (map f (range_with_len a n))) ≡ true
row_some test f k a zero is from below = absurd (omega arith)
row_some test f k a (suc n) is from below = by_test (k == a) refl (λ later. row_some test f k (a + 1) n is later (omega arith))
  where
    by_test : (same : Bool) → k == a ≡ same → (a + 1 ≤ k → some_entry test (first_entries (map f (range_with_len (a + 1) n))) ≡ true) → (test (f a) || some_entry test (first_entries (map f (range_with_len (a + 1) n)))) ≡ true
    by_test true here rest = or_left (test (f a)) (some_entry test (first_entries (map f (range_with_len (a + 1) n)))) (subst (λ j. test (f j) ≡ true) (eqb-true k a here) is)
    by_test false here rest =
        let apart = eqb-false k a here in
        or_right (test (f a)) (some_entry test (first_entries (map f (range_with_len (a + 1) n)))) (rest (omega (arith, from, apart)))

rows_some : (test : Call → Bool) (f : ℕ → ℕ → Call) (k e p a n : ℕ) → test (f e p) ≡ true → p < k → a ≤ e → e < a + n → some_entry test (first_entries (flat_map (λ engine. map (f engine) (range_with_len 0 k)) (range_with_len a n))) ≡ true
rows_some test f k e p a zero is inside from below = absurd (omega arith)
rows_some test f k e p a (suc n) is inside from below =
    ap (some_entry test) (map-append (entry_of 0 8) (map (f a) (range_with_len 0 k)) (flat_map (λ engine. map (f engine) (range_with_len 0 k)) (range_with_len (a + 1) n)))
    ∙ by_test (e == a) refl (λ later. rows_some test f k e p (a + 1) n is inside later (omega arith))
  where
    row : List Entry
    row = first_entries (map (f a) (range_with_len 0 k))

    rest_rows : List Entry
    rest_rows = first_entries (flat_map (λ engine. map (f engine) (range_with_len 0 k)) (range_with_len (a + 1) n))

    by_test : (same : Bool) → e == a ≡ same → (a + 1 ≤ e → some_entry test rest_rows ≡ true) → some_entry test (row ++ rest_rows) ≡ true
    by_test true here rest =
        some_left test row rest_rows (row_some test (f a) p 0 k (subst (λ j. test (f j p) ≡ true) (eqb-true e a here) is) (omega arith) (omega arith))
    by_test false here rest = let apart = eqb-false e a here in some_right test row rest_rows (rest (omega (arith, from, apart)))

-- the length of a cursor after openings that agree
len_agreed : (c n length : ℕ) (l : List Entry) → All (λ (e : Entry). (k : ℕ) → len_after c k e.call ≡ (if opens c e.call then length else k)) l → final (len_step c) n l ≡ (if some_entry (opens c) l then length else n)
len_agreed c n length [] all = refl
len_agreed c n length (e ∷ l) all =
    len_agreed c (len_step c n e) length l (All-tail (λ (e : Entry). (k : ℕ) → len_after c k e.call ≡ (if opens c e.call then length else k)) e l all)
    ∙ ap (λ k. if some_entry (opens c) l then length else k) (All-head (λ (e : Entry). (k : ℕ) → len_after c k e.call ≡ (if opens c e.call then length else k)) e l all n)
    ∙ joined (opens c e.call) (some_entry (opens c) l)
  where
    joined : (s t : Bool) → (if t then length else (if s then length else n)) ≡ (if s || t then length else n)
    joined true true = refl
    joined true false = refl
    joined false true = refl
    joined false false = refl

all_free : (l : List Entry) → All (λ (e : Entry). sets e ≡ false) l → any_set l ≡ false
all_free [] all = refl
all_free (e ∷ l) all = ap (λ t. t || any_set l) (All-head (λ (e : Entry). sets e ≡ false) e l all) ∙ all_free l (All-tail (λ (e : Entry). sets e ≡ false) e l all)

-- a call on a partition of the epoch opens and greets nothing
workers_call : (k : Call) → partition_of k < 64 → sets_word k ≡ false
workers_call (Open cursor len) below = absurd (omega (arith, below))
workers_call (Greet partition) below = absurd (omega (arith, below))
workers_call (Took cursor chunk) below = refl
workers_call (Exhausted cursor) below = refl
workers_call (Look cursor left) below = refl
workers_call (Heads partition heads) below = refl
workers_call (Admitted partition heads) below = refl
workers_call (Contended partition heads found) below = refl
workers_call (Split serial worker) below = refl
workers_call (Join serial worker) below = refl

-- an entry behind the openings: a worker's call, or a split or a join of the first caller
abbrev Behind : ℕ → Entry → Type 0
Behind engines e = (sets e ≡ false) × ((e.worker < engines) ⊎ ((e.worker ≡ 8) × ((o : ChunkObject) → after o e.call ≡ o)))

calls_all : (engines s x : ℕ) (calls : List Call) → x < engines → All (λ c. partition_of c < 64) calls → All (Behind engines) (map (entry_of s x) calls)
calls_all engines s x [] below all = All-nil (Behind engines)
calls_all engines s x (c ∷ calls) below all =
    All-cons (Behind engines) (entry_of s x c) (map (entry_of s x) calls) (workers_call c (All-head (λ c. partition_of c < 64) c calls all), inl below)
    (calls_all engines s x calls below (All-tail (λ c. partition_of c < 64) c calls all))

returns_all : (engines before x : ℕ) (lists : List (List Call)) → x + length lists ≤ engines → All (All (λ c. partition_of c < 64)) lists → All (Behind engines) (returns_of before x lists)
returns_all engines before x [] most all = All-nil (Behind engines)
returns_all engines before x (calls ∷ lists) most all =
    All-append (Behind engines) (map (entry_of (suc (before + x)) x) calls) (first_entries (Join (suc (before + x)) x ∷ []) ++ returns_of before (x + 1) lists)
    (calls_all engines (suc (before + x)) x calls (omega arith) (All-head (All (λ c. partition_of c < 64)) calls lists all))
    (All-cons (Behind engines) (entry_of 0 8 (Join (suc (before + x)) x)) (returns_of before (x + 1) lists) (refl, inr (refl, λ o. refl))
    (returns_all engines before (x + 1) lists (omega arith) (All-tail (All (λ c. partition_of c < 64)) calls lists all)))

calls_of-append : (x : ℕ) (xs ys : List Entry) → calls_of_worker x (xs ++ ys) ≡ calls_of_worker x xs ++ calls_of_worker x ys
calls_of-append x xs ys =
    ap (map (λ (e : Entry). e.call)) (filter-append (λ (e : Entry). e.worker == x) xs ys) ∙ map-append (λ (e : Entry). e.call) (filter (λ (e : Entry). e.worker == x) xs) (filter (λ (e : Entry). e.worker == x) ys)

own_list : (s x : ℕ) (calls : List Call) → calls_of_worker x (map (entry_of s x) calls) ≡ calls
own_list s x [] = refl
own_list s x (c ∷ calls) = calls_own (entry_of s x c) (map (entry_of s x) calls) x refl ∙ ap (λ l. c ∷ l) (own_list s x calls)

other_list : (s x y : ℕ) (calls : List Call) → x ≢ y → calls_of_worker y (map (entry_of s x) calls) ≡ []
other_list s x y [] apart = refl
other_list s x y (c ∷ calls) apart = calls_other (entry_of s x c) (map (entry_of s x) calls) y apart ∙ other_list s x y calls apart

none_returns : (before x y : ℕ) (lists : List (List Call)) → y ≢ 8 → y < x → calls_of_worker y (returns_of before x lists) ≡ []
none_returns before x y [] not_first below = refl
none_returns before x y (calls ∷ lists) not_first below =
    let rest : List Entry = returns_of before (x + 1) lists in
    let join : Entry = entry_of 0 8 (Join (suc (before + x)) x) in
    calls_of-append y (map (entry_of (suc (before + x)) x) calls) (join ∷ rest)
    ∙ ap (λ l. l ++ calls_of_worker y (join ∷ rest)) (other_list (suc (before + x)) x y calls (omega arith))
    ∙ calls_other join rest y (λ equal. not_first (sym equal))
    ∙ none_returns before (x + 1) y lists not_first (omega arith)

own_returns : (before x j y : ℕ) (lists : List (List Call)) → y ≢ 8 → x + j ≡ y → calls_of_worker y (returns_of before x lists) ≡ get_or lists j []
own_returns before x j y [] not_first at = refl
own_returns before x zero y (calls ∷ lists) not_first at =
    let rest : List Entry = returns_of before (x + 1) lists in
    let join : Entry = entry_of 0 8 (Join (suc (before + x)) x) in
    let same : x ≡ y = omega arith in
    calls_of-append y (map (entry_of (suc (before + x)) x) calls) (join ∷ rest)
    ∙ ap (λ l. l ++ calls_of_worker y (join ∷ rest)) (subst (λ k. calls_of_worker k (map (entry_of (suc (before + x)) x) calls) ≡ calls) same (own_list (suc (before + x)) x calls))
    ∙ ap (λ l. calls ++ l) (calls_other join rest y (λ equal. not_first (sym equal)) ∙ none_returns before (x + 1) y lists not_first (omega arith))
    ∙ append-nil calls
own_returns before x (suc j) y (calls ∷ lists) not_first at =
    let rest : List Entry = returns_of before (x + 1) lists in
    let join : Entry = entry_of 0 8 (Join (suc (before + x)) x) in
    calls_of-append y (map (entry_of (suc (before + x)) x) calls) (join ∷ rest)
    ∙ ap (λ l. l ++ calls_of_worker y (join ∷ rest)) (other_list (suc (before + x)) x y calls (omega arith))
    ∙ calls_other join rest y (λ equal. not_first (sym equal))
    ∙ own_returns before (x + 1) j y lists not_first (omega arith)

-- what each worker's entries are, all are
by_workers : (P : Entry → Type 0) (l : List Entry) → ((w : ℕ) → All P (filter (λ (e : Entry). e.worker == w) l)) → All P l
by_workers P [] each = All-nil P
by_workers P (e ∷ l) each =
    let mine : filter (λ (x : Entry). x.worker == e.worker) (e ∷ l) ≡ e ∷ filter (λ (x : Entry). x.worker == e.worker) l = rw (eq-eqb e.worker e.worker refl) refl in
    All-cons P e l (All-head P e (filter (λ (x : Entry). x.worker == e.worker) l) (subst (All P) mine (each e.worker)))
    (by_workers P l (λ w. rest w (e.worker == w) refl (each w)))
  where
    rest : (w : ℕ) (own : Bool) → e.worker == w ≡ own → All P (filter (λ (x : Entry). x.worker == w) (e ∷ l)) → All P (filter (λ (x : Entry). x.worker == w) l)
    rest w true is all = All-tail P e (filter (λ (x : Entry). x.worker == w) l) (subst (All P) (let mine : filter (λ (x : Entry). x.worker == w) (e ∷ l) ≡ e ∷ filter (λ (x : Entry). x.worker == w) l = rw is refl in mine) all)
    rest w false is all = subst (All P) (let mine : filter (λ (x : Entry). x.worker == w) (e ∷ l) ≡ filter (λ (x : Entry). x.worker == w) l = rw is refl in mine) all

-- a worker's entries are among those that bear on it
own_of_bears : (w : ℕ) (l : List Entry) → filter (λ (e : Entry). e.worker == w) (filter (bears_on w) l) ≡ filter (λ (e : Entry). e.worker == w) l
own_of_bears w [] = refl
own_of_bears w (e ∷ l) = by_test (bears_on w e) (e.worker == w) refl refl (own_of_bears w l)
  where
    by_test : (kept own : Bool) → bears_on w e ≡ kept → e.worker == w ≡ own → filter (λ (e : Entry). e.worker == w) (filter (bears_on w) l) ≡ filter (λ (e : Entry). e.worker == w) l →
        filter (λ (e : Entry). e.worker == w) (if kept then e ∷ filter (bears_on w) l else filter (bears_on w) l) ≡ (if own then e ∷ filter (λ (e : Entry). e.worker == w) l else filter (λ (e : Entry). e.worker == w) l)
    by_test true true is own rest = rw own (ap (λ k. e ∷ k) rest)
    by_test true false is own rest = rw own rest
    by_test false true is own rest = absurd (true_is_not (bears_on w e) (or_right (sets e) (e.worker == w) own) is)
    by_test false false is own rest = rest

steps_behind : (o : ChunkObject) (xs ys : List Entry) → EachStep object_step IsAnswered o (xs ++ ys) → EachStep object_step IsAnswered (final object_step o xs) ys
steps_behind o [] ys legal = legal
steps_behind o (x ∷ xs) ys legal = steps_behind (object_step o x) xs ys legal.1

-- the entries of workers
abbrev pub of_workers : List Entry → List Entry
of_workers = filter (λ (e : Entry). not (e.worker == 8))

skip_legal : (engines : ℕ) → engines ≤ 8 → (l : List Entry) (o : ChunkObject) → All (Behind engines) l → EachStep object_step IsAnswered o l → EachStep object_step IsAnswered o (of_workers l)
skip_legal engines few [] o all legal = tt
skip_legal engines few (e ∷ l) o all legal =
    by_test (e.worker == 8) refl (All-head (Behind engines) e l all).1 (λ p steps. skip_legal engines few l p (All-tail (Behind engines) e l all) steps)
  where
    by_test : (first : Bool) → e.worker == 8 ≡ first → (e.worker < engines) ⊎ ((e.worker ≡ 8) × ((p : ChunkObject) → after p e.call ≡ p)) →
        ((p : ChunkObject) → EachStep object_step IsAnswered p l → EachStep object_step IsAnswered p (of_workers l)) →
        EachStep object_step IsAnswered o (if not first then e ∷ of_workers l else of_workers l)
    by_test true is (inl below) rest = let eight = eqb-true e.worker 8 is in absurd (omega (arith, eight, below, few))
    by_test true is (inr quiet) rest = rest o (subst (λ p. EachStep object_step IsAnswered p l) (quiet.1 o) legal.1)
    by_test false is kind rest = (legal.0, rest (object_step o e) legal.1)

skip_calls : (x : ℕ) (l : List Entry) → x ≢ 8 → calls_of_worker x (of_workers l) ≡ calls_of_worker x l
skip_calls x [] not_first = refl
skip_calls x (e ∷ l) not_first = by_test (e.worker == 8) (e.worker == x) refl refl (skip_calls x l not_first)
  where
    by_test : (first own : Bool) → e.worker == 8 ≡ first → e.worker == x ≡ own → calls_of_worker x (of_workers l) ≡ calls_of_worker x l →
        calls_of_worker x (if not first then e ∷ of_workers l else of_workers l) ≡ calls_of_worker x (e ∷ l)
    by_test true true is own rest = absurd (not_first (sym (eqb-true e.worker x own) ∙ eqb-true e.worker 8 is))
    by_test true false is own rest = rest ∙ sym (calls_other e l x (eqb-false e.worker x own))
    by_test false true is own rest =
        calls_own e (of_workers l) x (eqb-true e.worker x own) ∙ ap (λ k. e.call ∷ k) rest ∙ sym (calls_own e l x (eqb-true e.worker x own))
    by_test false false is own rest = calls_other e (of_workers l) x (eqb-false e.worker x own) ∙ rest ∙ sym (calls_other e l x (eqb-false e.worker x own))

below_engines : (engines : ℕ) (e : Entry) → Behind engines e → not (e.worker == 8) ≡ true → e.worker < engines
below_engines engines e is kept = by_kind is.1
  where
    by_kind : (e.worker < engines) ⊎ ((e.worker ≡ 8) × ((p : ChunkObject) → after p e.call ≡ p)) → e.worker < engines
    by_kind (inl below) = below
    by_kind (inr quiet) = let first = eq-eqb e.worker 8 quiet.0 in absurd (grind (arith, first, kept))

no_row : (x : ℕ) (f : ℕ → Call) (a n : ℕ) → x ≢ 8 → calls_of_worker x (first_entries (map f (range_with_len a n))) ≡ []
no_row x f a zero not_first = refl
no_row x f a (suc n) not_first = calls_other (entry_of 0 8 (f a)) (first_entries (map f (range_with_len (a + 1) n))) x (λ equal. not_first (sym equal)) ∙ no_row x f (a + 1) n not_first

any_is_some : (l : List Entry) → any_set l ≡ some_entry sets_word l
any_is_some [] = refl
any_is_some (e ∷ l) = ap (λ t. sets e || t) (any_is_some l)

module _ (story : List Entry) (stands : StandsWhole story) (terms : Terms) (some_engine : 1 ≤ terms.engines) (few_engines : terms.engines ≤ 8) (some_part : 1 ≤ terms.partitions) (few : terms.partitions ≤ 64)
    (past : List Entry) (before : ℕ) (epoch : Epoch) (is : story ≡ past ++ epoch_entries terms before epoch) (duty : MeetsDuty terms epoch) where
  abbrev open_call : ℕ → ℕ → Call
  open_call engine partition = Open (cursor_of engine partition) (epoch.lens (cursor_of engine partition))

  abbrev opened_row : List Entry
  opened_row = first_entries (opens_of terms epoch.lens)

  abbrev greeted_row : List Entry
  greeted_row = first_entries (greets_of terms)

  abbrev ends : List Entry
  ends = first_entries (splits_of before terms.engines) ++ returns_of before 0 epoch.lists

  abbrev begins : List Entry
  begins = opened_row ++ greeted_row

  lists_ok : All (All (λ c. partition_of c < 64)) epoch.lists
  lists_ok = λ k d below.
      let there : k < terms.engines = omega (arith, below, duty.workers) in
      let parts = dutiful_parts terms k (list_of epoch k) (duty.each k there) in
      subst (All (λ c. partition_of c < 64)) (get_or_default epoch.lists k [] d below) (λ j e inside. omega (arith, parts j e inside, few))

  ends_all : All (Behind terms.engines) ends
  ends_all =
      All-append (Behind terms.engines) (first_entries (splits_of before terms.engines)) (returns_of before 0 epoch.lists)
      (row_all (Behind terms.engines) (λ worker. Split (suc (before + worker)) worker) (λ worker. (refl, inr (refl, λ o. refl))) 0 terms.engines)
      (returns_all terms.engines before 0 epoch.lists (omega (arith, duty.workers)) lists_ok)

  -- the story is cut behind its last greeting
  some_set : any_set (opened_row ++ (greeted_row ++ ends)) ≡ true
  some_set = any_is_some (opened_row ++ (greeted_row ++ ends))
      ∙ some_left sets_word opened_row (greeted_row ++ ends) (rows_some sets_word open_call terms.partitions 0 0 0 terms.engines refl some_part (omega arith) (omega (arith, some_engine)))

  cut_story : (front story ≡ past ++ begins) × (back story ≡ ends)
  cut_story =
      let free = none_front ends (all_free ends (All-weaker (Behind terms.engines) (λ (e : Entry). sets e ≡ false) (λ e b. b.0) ends ends_all)) in
      let greeted = cut_sets greeted_row ends (row_all (λ (e : Entry). sets e ≡ true) Greet (λ k. refl) 0 terms.partitions) in
      let opened = cut_sets opened_row (greeted_row ++ ends) (rows_all (λ (e : Entry). sets e ≡ true) open_call (λ e p. refl) terms.partitions 0 terms.engines) in
      let behind = cut_past past (opened_row ++ (greeted_row ++ ends)) some_set in (
        ap front is ∙ behind.0 ∙ ap (λ l. past ++ l) (opened.0 ∙ ap (λ l. opened_row ++ l) (greeted.0 ∙ ap (λ l. greeted_row ++ l) free.0 ∙ append-nil greeted_row)),
        ap back is ∙ behind.1 ∙ opened.1 ∙ greeted.1 ∙ free.1,
      )

  abbrev h : List Entry
  h = stands.history

  keeps : (w : ℕ) (e : Entry) → sets e ≡ true → bears_on w e ≡ true
  keeps w e set = or_left (sets e) (e.worker == w) set

  same_front : (w : ℕ) → filter (bears_on w) (front h) ≡ filter (bears_on w) (past ++ begins)
  same_front w = sym (cut_kept (bears_on w) (keeps w) h).0 ∙ ap front (stands.bears w) ∙ (cut_kept (bears_on w) (keeps w) story).0 ∙ ap (filter (bears_on w)) cut_story.0

  same_back : (w : ℕ) → filter (λ (e : Entry). e.worker == w) (back h) ≡ filter (λ (e : Entry). e.worker == w) ends
  same_back w =
      sym (own_of_bears w (back h))
      ∙ ap (filter (λ (e : Entry). e.worker == w)) (sym (cut_kept (bears_on w) (keeps w) h).1 ∙ ap back (stands.bears w) ∙ (cut_kept (bears_on w) (keeps w) story).1 ∙ ap (filter (bears_on w)) cut_story.1)
      ∙ own_of_bears w ends

  -- nothing is marked before the workers' calls
  clean : (starts hits : Call → Bool) (sure : (c : Call) → starts c ≡ true → sets_word c ≡ true) (m : Bool) → All (λ (e : Entry). hits e.call ≡ false) begins → some_entry starts begins ≡ true → final (mark starts hits sure) m (front h) ≡ false
  clean starts hits sure m none some = by_test (final (mark starts hits sure) m (front h)) refl
    where
      of_worker : (w : ℕ) (k : Bool) → final (mark_of starts hits sure w) k (front h) ≡ false
      of_worker w k =
          sym (mark_kept starts hits sure w (front h) k)
          ∙ ap (final (mark_of starts hits sure w) k) (same_front w)
          ∙ mark_kept starts hits sure w (past ++ begins) k
          ∙ final-append (mark_of starts hits sure w) k past begins
          ∙ no_mark starts hits sure w begins (final (mark_of starts hits sure w) k past) none
          ∙ ap (λ t. if t then false else final (mark_of starts hits sure w) k past) some

      by_test : (marked : Bool) → final (mark starts hits sure) m (front h) ≡ marked → final (mark starts hits sure) m (front h) ≡ false
      by_test true marked = let who = unmarked starts hits sure (front h) m (λ w. m) (λ made. (0, made)) marked in absurd (true_is_not (final (mark_of starts hits sure who.0) m (front h)) who.1 (of_worker who.0 m))
      by_test false marked = marked

  abbrev pub object : ChunkObject
  object = final object_step unopened (front h)

  has_open : (cursor : ℕ) → IsTheirs terms cursor → some_entry (opens cursor) begins ≡ true
  has_open cursor theirs =
      some_left (opens cursor) opened_row greeted_row
      (rows_some (opens cursor) open_call terms.partitions (cursor / 64) (cursor % 64) 0 terms.engines (eq-eqb (cursor_of (cursor / 64) (cursor % 64)) cursor (whole cursor)) theirs.1 (omega arith) (omega (arith, theirs.0)))

  has_greet : (partition : ℕ) → partition < terms.partitions → some_entry (greets partition) begins ≡ true
  has_greet partition below = some_right (greets partition) opened_row greeted_row (row_some (greets partition) Greet partition 0 terms.partitions (eq-eqb partition partition refl) (omega arith) (omega (arith, below)))

  opened : IsOpened terms epoch.lens object
  opened = record {
    next = λ cursor theirs.
        next_of_marks cursor (front h) unopened false (λ _. refl)
        (clean (opens cursor) (takes_any cursor) (opens_sets cursor) false
        (All-append (λ (e : Entry). takes_any cursor e.call ≡ false) opened_row greeted_row
        (rows_all (λ (e : Entry). takes_any cursor e.call ≡ false) open_call (λ e p. refl) terms.partitions 0 terms.engines)
        (row_all (λ (e : Entry). takes_any cursor e.call ≡ false) Greet (λ k. refl) 0 terms.partitions))
        (has_open cursor theirs));
    len = λ cursor theirs.
        len_of_run cursor (front h) unopened
        ∙ sym (len_kept cursor 8 (front h) 0) ∙ ap (final (len_step cursor) 0) (same_front 8) ∙ len_kept cursor 8 (past ++ begins) 0
        ∙ final-append (len_step cursor) 0 past begins
        ∙ len_agreed cursor (final (len_step cursor) 0 past) (epoch.lens cursor) begins (agreed cursor)
        ∙ ap (λ t. if t then epoch.lens cursor else final (len_step cursor) 0 past) (has_open cursor theirs);
    heads = λ partition below.
        heads_of_marks partition (front h) unopened true (λ never. absurd (true_is_not true refl never))
        (clean (greets partition) (admits partition) (greets_sets partition) true
        (All-append (λ (e : Entry). admits partition e.call ≡ false) opened_row greeted_row
        (rows_all (λ (e : Entry). admits partition e.call ≡ false) open_call (λ e p. refl) terms.partitions 0 terms.engines)
        (row_all (λ (e : Entry). admits partition e.call ≡ false) Greet (λ k. refl) 0 terms.partitions))
        (has_greet partition below));
  }
    where
      one_len : (cursor k at : ℕ) (same : Bool) → at == cursor ≡ same → (if same then epoch.lens at else k) ≡ (if same then epoch.lens cursor else k)
      one_len cursor k at true here = ap epoch.lens (eqb-true at cursor here)
      one_len cursor k at false here = refl

      agreed : (cursor : ℕ) → All (λ (e : Entry). (k : ℕ) → len_after cursor k e.call ≡ (if opens cursor e.call then epoch.lens cursor else k)) begins
      agreed cursor =
          All-append (λ (e : Entry). (k : ℕ) → len_after cursor k e.call ≡ (if opens cursor e.call then epoch.lens cursor else k)) opened_row greeted_row
          (rows_all (λ (e : Entry). (k : ℕ) → len_after cursor k e.call ≡ (if opens cursor e.call then epoch.lens cursor else k)) open_call
          (λ e p k. one_len cursor k (cursor_of e p) (cursor_of e p == cursor) refl) terms.partitions 0 terms.engines)
          (row_all (λ (e : Entry). (k : ℕ) → len_after cursor k e.call ≡ (if opens cursor e.call then epoch.lens cursor else k)) Greet (λ p k. refl) 0 terms.partitions)

  back_all : All (Behind terms.engines) (back h)
  back_all = by_workers (Behind terms.engines) (back h) (λ w. subst (All (Behind terms.engines)) (sym (same_back w)) (All-filter (λ (e : Entry). e.worker == w) (Behind terms.engines) ends ends_all))

  -- **The workers' calls behind the last greeting are a history of the epoch.**
  pub epoch_history : EpochHistory terms epoch object (of_workers (back h))
  epoch_history = record {
    opened = opened;
    legal = skip_legal terms.engines few_engines (back h) object back_all
        (steps_behind unopened (front h) (back h) (subst (EachStep object_step IsAnswered unopened) (sym (front_back h)) stands.is.legal));
    workers = λ k d below.
        below_engines terms.engines (get_or (of_workers (back h)) k d) (All-filter (λ (e : Entry). not (e.worker == 8)) (Behind terms.engines) (back h) back_all k d below)
        (filter_passes (λ (e : Entry). not (e.worker == 8)) (back h) k d below);
    lists = λ worker inside.
        let not_first : worker ≢ 8 = omega (arith, inside, few_engines) in
        skip_calls worker (back h) not_first
        ∙ ap (map (λ (e : Entry). e.call)) (same_back worker)
        ∙ calls_of-append worker (first_entries (splits_of before terms.engines)) (returns_of before 0 epoch.lists)
        ∙ ap (λ l. l ++ calls_of_worker worker (returns_of before 0 epoch.lists)) (no_row worker (λ w. Split (suc (before + w)) w) 0 terms.engines not_first)
        ∙ own_returns before 0 worker worker epoch.lists not_first (zero-add worker);
  }
