-- The merge over the chunks of a shelf is the merge over what was taken of it, where each chunk was taken once.
use Rattle.std.proofs.Common.{◌≡◌, ◌≢◌, ℕ, zero, suc, pred, ◌+◌, ◌==◌, ◌&&◌, not, if◌then◌else◌, Bool, true, false, List, [], ◌∷◌, ◌++◌, length, get_or, map, filter, flat_map, refl, sym, ◌∙◌, ap, subst, zero-add, arith, eq-eqb}
use Rattle.std.specs.List.{All, count_by, fold}
use Rattle.std.proofs.lemmas.Bool.{eqb-true, eqb-false, and_parts, ne_eqb}
use Rattle.std.proofs.lemmas.List.Elements.{All-head, All-tail, All-append, All-nil, All-weaker}
use Rattle.chunk_object.proofs.Covered.{count-cons}
use Rattle.gather_laws.specs.Laws.{MergeLaws}
use Rattle.gather_laws.proofs.MergeLemmas.{merged-append, merged_is_sum, left_commutes}
use Rattle.chunk_object.specs.History.{one_below}
use Rattle.chunk_object.specs.Epochs.{cursor_of}
use Rattle.chunk_model.specs.Chunks.{Chunk}
use Rattle.phase_model.specs.Shelves.{Shelf, at_cursor, lens_of, records_at, no_chunk}

-- the cursor of a chunk with its engine
abbrev pub cursor_at : {X : Type 0} → ℕ × Chunk X → ℕ
cursor_at c = cursor_of c.0 c.1.partition

-- whether a chunk that was taken is this one
abbrev pub is_chunk : (cursor place : ℕ) → ℕ × ℕ → Bool
is_chunk cursor place taken = taken.0 == cursor && taken.1 == place

module _ {X : Type 0} (c : ℕ × Chunk X) (made : Shelf X) (cursor : ℕ) where
  at_own : cursor_at c == cursor ≡ true → at_cursor (c ∷ made) cursor ≡ c.1 ∷ at_cursor made cursor
  at_own test = rw test refl

  at_other : cursor_at c == cursor ≡ false → at_cursor (c ∷ made) cursor ≡ at_cursor made cursor
  at_other test = rw test refl

  pub lens_own : cursor_at c == cursor ≡ true → lens_of (c ∷ made) cursor ≡ suc (lens_of made cursor)
  lens_own test = ap length (at_own test)

  pub lens_other : cursor_at c == cursor ≡ false → lens_of (c ∷ made) cursor ≡ lens_of made cursor
  lens_other test = ap length (at_other test)

  pub records_first : cursor_at c == cursor ≡ true → records_at (c ∷ made) cursor 0 ≡ c.1.items
  records_first test = ap (λ (l : List (Chunk X)). (get_or l 0 no_chunk).items) (at_own test)

  pub records_later : cursor_at c == cursor ≡ true → (place : ℕ) → records_at (c ∷ made) cursor (suc place) ≡ records_at made cursor place
  records_later test place = ap (λ (l : List (Chunk X)). (get_or l (suc place) no_chunk).items) (at_own test)

  pub records_other : cursor_at c == cursor ≡ false → (place : ℕ) → records_at (c ∷ made) cursor place ≡ records_at made cursor place
  records_other test place = ap (λ (l : List (Chunk X)). (get_or l place no_chunk).items) (at_other test)

-- what holds of the records of each chunk, and of none, holds of those at each place of a cursor
pub records_all : {X : Type 0} (P : ℕ → List X → Type 0) (made : Shelf X) → All (λ (c : ℕ × Chunk X). P (cursor_at c) c.1.items) made → (cursor place : ℕ) → P cursor [] → P cursor (records_at made cursor place)
records_all P [] all cursor place none = none
records_all {X} P (c ∷ made) all cursor place none = by_test (cursor_at c == cursor) refl (λ k. records_all P made (All-tail (λ (c : ℕ × Chunk X). P (cursor_at c) c.1.items) c made all) cursor k none)
  where
    first : P (cursor_at c) c.1.items
    first = All-head (λ (c : ℕ × Chunk X). P (cursor_at c) c.1.items) c made all

    own_place : cursor_at c == cursor ≡ true → (k : ℕ) → ((j : ℕ) → P cursor (records_at made cursor j)) → P cursor (records_at (c ∷ made) cursor k)
    own_place test zero rest = subst (P cursor) (sym (records_first c made cursor test)) (subst (λ k. P k c.1.items) (eqb-true (cursor_at c) cursor test) first)
    own_place test (suc k) rest = subst (P cursor) (sym (records_later c made cursor test k)) (rest k)

    by_test : (own : Bool) → cursor_at c == cursor ≡ own → ((j : ℕ) → P cursor (records_at made cursor j)) → P cursor (records_at (c ∷ made) cursor place)
    by_test true test rest = own_place test place rest
    by_test false test rest = subst (P cursor) (sym (records_other c made cursor test place)) (rest place)

-- how often a chunk stands in a list that was kept in part and moved
count_moved : {Y Z : Type 0} (keep : Y → Bool) (move : Y → Z) (test : Z → Bool) (other : Y → Bool) → ((y : Y) → (keep y ≡ true → test (move y) ≡ other y) × (keep y ≡ false → other y ≡ false)) →
    (ys : List Y) → count_by test (map move (filter keep ys)) ≡ count_by other ys
count_moved keep move test other each [] = refl
count_moved keep move test other each (y ∷ ys) = by_test (keep y) refl (count_moved keep move test other each ys)
  where
    by_test : (kept : Bool) → keep y ≡ kept → count_by test (map move (filter keep ys)) ≡ count_by other ys →
        count_by test (map move (if kept then y ∷ filter keep ys else filter keep ys)) ≡ count_by other (y ∷ ys)
    by_test true is rest =
        count-cons test (move y) (map move (filter keep ys))
        ∙ ap (λ b. (if b then 1 else 0) + count_by test (map move (filter keep ys))) ((each y).0 is)
        ∙ ap (λ k. (if other y then 1 else 0) + k) rest
        ∙ sym (count-cons other y ys)
    by_test false is rest =
        rest ∙ sym (count-cons other y ys ∙ ap (λ b. (if b then 1 else 0) + count_by other ys) ((each y).1 is) ∙ zero-add (count_by other ys))

-- two functions that agree on what is kept
same_kept : {Y Z W : Type 0} (keep : Y → Bool) (move : Y → Z) (f : Y → List W) (g : Z → List W) → ((y : Y) → keep y ≡ true → f y ≡ g (move y)) → (ys : List Y) → flat_map f (filter keep ys) ≡ flat_map g (map move (filter keep ys))
same_kept keep move f g same [] = refl
same_kept keep move f g same (y ∷ ys) = by_test (keep y) refl (same_kept keep move f g same ys)
  where
    by_test : (kept : Bool) → keep y ≡ kept → flat_map f (filter keep ys) ≡ flat_map g (map move (filter keep ys)) →
        flat_map f (if kept then y ∷ filter keep ys else filter keep ys) ≡ flat_map g (map move (if kept then y ∷ filter keep ys else filter keep ys))
    by_test true is rest = ap (λ front. front ++ flat_map f (filter keep ys)) (same y is) ∙ ap (λ back. g (move y) ++ back) rest
    by_test false is rest = rest

-- without this chunk
abbrev pub is_other : (cursor place : ℕ) → ℕ × ℕ → Bool
is_other cursor place taken = not (is_chunk cursor place taken)

-- nothing is left out where the chunk does not stand
none_out : (cursor place : ℕ) (taken : List (ℕ × ℕ)) → count_by (is_chunk cursor place) taken ≡ 0 → filter (is_other cursor place) taken ≡ taken
none_out cursor place [] none = refl
none_out cursor place (x ∷ taken) none = by_test (is_chunk cursor place x) refl (count-cons (is_chunk cursor place) x taken) (none_out cursor place taken)
  where
    by_test : (here : Bool) → is_chunk cursor place x ≡ here → count_by (is_chunk cursor place) (x ∷ taken) ≡ (if is_chunk cursor place x then 1 else 0) + count_by (is_chunk cursor place) taken →
        (count_by (is_chunk cursor place) taken ≡ 0 → filter (is_other cursor place) taken ≡ taken) → filter (is_other cursor place) (x ∷ taken) ≡ x ∷ taken
    by_test true is counted rest = let one = counted ∙ ap (λ b. (if b then 1 else 0) + count_by (is_chunk cursor place) taken) is in absurd (omega (arith, one, none))
    by_test false is counted rest =
        let zero_here = counted ∙ ap (λ b. (if b then 1 else 0) + count_by (is_chunk cursor place) taken) is in
        rw is (ap (λ back. x ∷ back) (rest (omega (arith, zero_here, none))))

-- the chunk of a pair of numbers that passes the test
one_chunk : (cursor place : ℕ) (x : ℕ × ℕ) → is_chunk cursor place x ≡ true → x ≡ (cursor, place)
one_chunk cursor place x is =
    let parts = and_parts (x.0 == cursor) (x.1 == place) is in
    ap (λ k. (k, x.1)) (eqb-true x.0 cursor parts.0) ∙ ap (λ k. (cursor, k)) (eqb-true x.1 place parts.1)

none_anywhere : {Y : Type 0} (f : Y → List ℕ) → ((y : Y) → f y ≡ []) → (ys : List Y) → flat_map f ys ≡ []
none_anywhere f none [] = refl
none_anywhere f none (y ∷ ys) = ap (λ front. front ++ flat_map f ys) (none y) ∙ none_anywhere f none ys

same_anywhere : {Y : Type 0} (f g : Y → List ℕ) → ((y : Y) → f y ≡ g y) → (ys : List Y) → flat_map f ys ≡ flat_map g ys
same_anywhere f g same [] = refl
same_anywhere f g same (y ∷ ys) = ap (λ front. front ++ flat_map f ys) (same y) ∙ ap (λ back. g y ++ back) (same_anywhere f g same ys)

-- behind the first chunk of a cursor each of its chunks has a number that is less by one
abbrev pub moved_up : ℕ → ℕ × ℕ → ℕ × ℕ
moved_up cursor chunk = (chunk.0, if chunk.0 == cursor then pred chunk.1 else chunk.1)

suc_tests : (b place : ℕ) → b == place ≡ (suc b == suc place)
suc_tests b place = grind arith

one_less : (n place : ℕ) → one_below (suc n) (suc place) ≡ one_below n place
one_less n place = grind arith

first_below : (n : ℕ) → one_below (suc n) 0 ≡ 1
first_below n = grind arith

-- the tests on a chunk of the cursor itself
own_by : (place b : ℕ) (t : Bool) → (not (t && b == 0) ≡ true → (t && (if t then pred b else b) == place) ≡ (t && b == suc place)) × (not (t && b == 0) ≡ false → (t && b == suc place) ≡ false)
own_by place b false = (λ kept. refl, λ out. refl)
own_by place zero true = (λ kept. grind arith, λ out. grind arith)
own_by place (suc b) true = (λ kept. suc_tests b place, λ out. grind arith)

own_tests : (k place : ℕ) (y : ℕ × ℕ) → (is_other k 0 y ≡ true → is_chunk k place (moved_up k y) ≡ is_chunk k (suc place) y) × (is_other k 0 y ≡ false → is_chunk k (suc place) y ≡ false)
own_tests k place (a, b) = own_by place b (a == k)

-- and on one of another cursor
other_by : (place b : ℕ) (t u : Bool) → (t ≡ true → u ≡ false) → (not (t && b == 0) ≡ true → (u && (if t then pred b else b) == place) ≡ (u && b == place)) × (not (t && b == 0) ≡ false → (u && b == place) ≡ false)
other_by place b true true apart = let never = apart refl in absurd (grind arith)
other_by place b true false apart = (λ kept. refl, λ out. refl)
other_by place b false u apart = (λ kept. refl, λ out. absurd (grind arith))

other_tests : (k cursor place : ℕ) → cursor ≢ k → (y : ℕ × ℕ) → (is_other k 0 y ≡ true → is_chunk cursor place (moved_up k y) ≡ is_chunk cursor place y) × (is_other k 0 y ≡ false → is_chunk cursor place y ≡ false)
other_tests k cursor place apart (a, b) = other_by place b (a == k) (a == cursor) (λ same. ne_eqb a cursor (λ equal. apart (sym equal ∙ eqb-true a k same)))

module _ (unit : ℕ) (merge : ℕ → ℕ → ℕ) (IsSum : ℕ → Type 0) (laws : MergeLaws unit merge IsSum) where
  -- the numbers of all that was taken are sums
  pub all_taken : {Y : Type 0} (f : Y → List ℕ) → ((y : Y) → All IsSum (f y)) → (taken : List Y) → All IsSum (flat_map f taken)
  all_taken f each [] = All-nil IsSum
  all_taken f each (y ∷ taken) = All-append IsSum (f y) (flat_map f taken) (each y) (all_taken f each taken)

  -- a chunk that was taken once is merged in once
  take_out : (f : ℕ × ℕ → List ℕ) → ((y : ℕ × ℕ) → All IsSum (f y)) → (cursor place : ℕ) (taken : List (ℕ × ℕ)) → count_by (is_chunk cursor place) taken ≡ 1 →
      fold merge unit (flat_map f taken) ≡ merge (fold merge unit (f (cursor, place))) (fold merge unit (flat_map f (filter (is_other cursor place) taken)))
  take_out f sums cursor place [] once = absurd (omega (arith, once))
  take_out f sums cursor place (x ∷ taken) once = by_test (is_chunk cursor place x) refl (count-cons (is_chunk cursor place) x taken) (take_out f sums cursor place taken)
    where
      others : List (ℕ × ℕ) → List ℕ
      others l = flat_map f (filter (is_other cursor place) l)

      by_test : (here : Bool) → is_chunk cursor place x ≡ here → count_by (is_chunk cursor place) (x ∷ taken) ≡ (if is_chunk cursor place x then 1 else 0) + count_by (is_chunk cursor place) taken →
          (count_by (is_chunk cursor place) taken ≡ 1 → fold merge unit (flat_map f taken) ≡ merge (fold merge unit (f (cursor, place))) (fold merge unit (flat_map f (filter (is_other cursor place) taken)))) →
          fold merge unit (flat_map f (x ∷ taken)) ≡ merge (fold merge unit (f (cursor, place))) (fold merge unit (flat_map f (filter (is_other cursor place) (x ∷ taken))))
      by_test true is counted rest =
          let here = counted ∙ ap (λ b. (if b then 1 else 0) + count_by (is_chunk cursor place) taken) is in
          let none : count_by (is_chunk cursor place) taken ≡ 0 = omega (arith, here, once) in
          let filtered : filter (is_other cursor place) (x ∷ taken) ≡ taken = rw is (none_out cursor place taken none) in
          merged-append unit merge IsSum laws (f x) (flat_map f taken) (sums x) (all_taken f sums taken)
          ∙ ap (λ y. merge (fold merge unit (f y)) (fold merge unit (flat_map f taken))) (one_chunk cursor place x is)
          ∙ ap (λ l. merge (fold merge unit (f (cursor, place))) (fold merge unit (flat_map f l))) (sym filtered)
      by_test false is counted rest =
          let away = counted ∙ ap (λ b. (if b then 1 else 0) + count_by (is_chunk cursor place) taken) is in
          let one : count_by (is_chunk cursor place) taken ≡ 1 = omega (arith, away, once) in
          let kept : List (ℕ × ℕ) = filter (is_other cursor place) taken in
          let filtered : filter (is_other cursor place) (x ∷ taken) ≡ x ∷ kept = rw is refl in
          let merged : List ℕ → ℕ = fold merge unit in
          merged-append unit merge IsSum laws (f x) (flat_map f taken) (sums x) (all_taken f sums taken)
          ∙ ap (merge (merged (f x))) (rest one)
          ∙ left_commutes unit merge IsSum laws (merged (f x)) (merged (f (cursor, place))) (merged (flat_map f kept)) (merged_is_sum unit merge IsSum laws (f x) (sums x))
          (merged_is_sum unit merge IsSum laws (f (cursor, place)) (sums (cursor, place))) (merged_is_sum unit merge IsSum laws (flat_map f kept) (all_taken f sums kept))
          ∙ ap (merge (merged (f (cursor, place)))) (sym (merged-append unit merge IsSum laws (f x) (flat_map f kept) (sums x) (all_taken f sums kept)))
          ∙ ap (λ l. merge (merged (f (cursor, place))) (merged (flat_map f l))) (sym filtered)

  -- what is merged of the chunks: `g` of their records, which is nothing for cursors that are not `mine`
  module _ {X : Type 0} (g : List X → List ℕ) (mine : ℕ → Bool) (nothing : g [] ≡ []) where
    pub record IsMerged (c : ℕ × Chunk X) : Type 0 where
      pub sums : All IsSum (g c.1.items)
      pub others : mine (cursor_at c) ≡ false → g c.1.items ≡ []

    abbrev pub of_shelf : Shelf X → ℕ × ℕ → List ℕ
    of_shelf made chunk = g (records_at made chunk.0 chunk.1)

    none_sums : All IsSum (g [])
    none_sums = subst (All IsSum) (sym nothing) (All-nil IsSum)

    shelf_sums : (made : Shelf X) → All IsMerged made → (chunk : ℕ × ℕ) → All IsSum (of_shelf made chunk)
    shelf_sums made all chunk = records_all (λ cursor records. All IsSum (g records)) made (All-weaker IsMerged (λ c. All IsSum (g c.1.items)) (λ c is. is.sums) made all) chunk.0 chunk.1 none_sums

    shelf_others : (made : Shelf X) → All IsMerged made → (cursor place : ℕ) → mine cursor ≡ false → g (records_at made cursor place) ≡ []
    shelf_others made all cursor place other =
        records_all (λ cursor records. mine cursor ≡ false → g records ≡ []) made (All-weaker IsMerged (λ c. mine (cursor_at c) ≡ false → g c.1.items ≡ []) (λ c is. is.others) made all) cursor place (λ _. nothing) other

    all_sums : (made : Shelf X) → All IsMerged made → All IsSum (flat_map (λ (c : ℕ × Chunk X). g c.1.items) made)
    all_sums [] all = All-nil IsSum
    all_sums (c ∷ made) all = All-append IsSum (g c.1.items) (flat_map (λ (c : ℕ × Chunk X). g c.1.items) made) (All-head IsMerged c made all).sums (all_sums made (All-tail IsMerged c made all))

    -- **The merge over what was taken, where each chunk of each cursor that is mine was taken once, is the merge over all chunks.**
    pub shelf_merged : (made : Shelf X) (taken : List (ℕ × ℕ)) → All IsMerged made → ((cursor place : ℕ) → mine cursor ≡ true → count_by (is_chunk cursor place) taken ≡ one_below (lens_of made cursor) place) →
        fold merge unit (flat_map (of_shelf made) taken) ≡ fold merge unit (flat_map (λ (c : ℕ × Chunk X). g c.1.items) made)
    shelf_merged [] taken all once = ap (fold merge unit) (none_anywhere (λ chunk. g []) (λ chunk. nothing) taken)
    shelf_merged (c ∷ made) taken all once =
        by_mine (mine (cursor_at c)) refl (λ others. shelf_merged made others (All-tail IsMerged c made all))
      where
        k : ℕ
        k = cursor_at c

        of_all : List (ℕ × Chunk X) → List ℕ
        of_all l = flat_map (λ (c : ℕ × Chunk X). g c.1.items) l

        f : ℕ × ℕ → List ℕ
        f = of_shelf (c ∷ made)

        sums : (y : ℕ × ℕ) → All IsSum (f y)
        sums = shelf_sums (c ∷ made) all

        kept : List (ℕ × ℕ)
        kept = filter (is_other k 0) taken

        -- what is left is taken of the chunks behind the first
        moved_place : (a b : ℕ) (same : Bool) → a == k ≡ same → not (same && b == 0) ≡ true → g (records_at (c ∷ made) a b) ≡ g (records_at made a (if same then pred b else b))
        moved_place a zero true same other = absurd (grind arith)
        moved_place a (suc b) true same other = ap g (records_later c made a (eq-eqb k a (sym (eqb-true a k same))) b)
        moved_place a b false same other = ap g (records_other c made a (ne_eqb k a (λ equal. eqb-false a k same (sym equal))) b)

        moved : (y : ℕ × ℕ) → is_other k 0 y ≡ true → f y ≡ of_shelf made (moved_up k y)
        moved (a, b) other = moved_place a b (a == k) refl other

        counted : (cursor place : ℕ) (same : Bool) → cursor == k ≡ same → mine cursor ≡ true → count_by (is_chunk cursor place) (map (moved_up k) kept) ≡ one_below (lens_of made cursor) place
        counted cursor place true same own =
            let here : cursor ≡ k = eqb-true cursor k same in
            subst (λ j. count_by (is_chunk j place) (map (moved_up k) kept) ≡ one_below (lens_of made j) place) (sym here)
            (count_moved (is_other k 0) (moved_up k) (is_chunk k place) (is_chunk k (suc place)) (own_tests k place) taken
            ∙ once k (suc place) (subst (λ j. mine j ≡ true) here own)
            ∙ ap (λ n. one_below n (suc place)) (lens_own c made k (eq-eqb k k refl))
            ∙ one_less (lens_of made k) place)
        counted cursor place false same own =
            let apart : cursor ≢ k = eqb-false cursor k same in
            count_moved (is_other k 0) (moved_up k) (is_chunk cursor place) (is_chunk cursor place) (other_tests k cursor place apart) taken
            ∙ once cursor place own
            ∙ ap (λ n. one_below n place) (lens_other c made cursor (ne_eqb k cursor (λ equal. apart (sym equal))))

        same_other : (y : ℕ × ℕ) (mine_too : Bool) → mine y.0 ≡ mine_too → mine k ≡ false → f y ≡ of_shelf made y
        same_other y true is own = ap g (records_other c made y.0 (ne_eqb k y.0 (λ equal. grind (arith, own, is, ap mine equal))) y.1)
        same_other y false is own = shelf_others (c ∷ made) all y.0 y.1 is ∙ sym (shelf_others made (All-tail IsMerged c made all) y.0 y.1 is)

        by_mine : (own : Bool) → mine k ≡ own →
            ((others : List (ℕ × ℕ)) → ((cursor place : ℕ) → mine cursor ≡ true → count_by (is_chunk cursor place) others ≡ one_below (lens_of made cursor) place) → fold merge unit (flat_map (of_shelf made) others) ≡ fold merge unit (of_all made)) →
            fold merge unit (flat_map (of_shelf (c ∷ made)) taken) ≡ fold merge unit (of_all (c ∷ made))
        by_mine true own rest =
            let first_once : count_by (is_chunk k 0) taken ≡ 1 = once k 0 own ∙ ap (λ n. one_below n 0) (lens_own c made k (eq-eqb k k refl)) ∙ first_below (lens_of made k) in
            let first : f (k, 0) ≡ g c.1.items = ap g (records_first c made k (eq-eqb k k refl)) in
            let merged : List ℕ → ℕ = fold merge unit in
            take_out f sums k 0 taken first_once
            ∙ ap (λ l. merge (merged l) (merged (flat_map f kept))) first
            ∙ ap (λ l. merge (merged (g c.1.items)) (merged l)) (same_kept (is_other k 0) (moved_up k) f (of_shelf made) moved taken)
            ∙ ap (merge (merged (g c.1.items))) (rest (map (moved_up k) kept) (λ cursor place own. counted cursor place (cursor == k) refl own))
            ∙ sym (merged-append unit merge IsSum laws (g c.1.items) (of_all made) (All-head IsMerged c made all).sums (all_sums made (All-tail IsMerged c made all)))
        by_mine false own rest =
            let others : (cursor : ℕ) → mine cursor ≡ true → k == cursor ≡ false = λ cursor mine_too. ne_eqb k cursor (λ equal. grind (arith, own, mine_too, ap mine equal)) in
            ap (fold merge unit) (same_anywhere f (of_shelf made) (λ y. same_other y (mine y.0) refl own) taken)
            ∙ rest taken (λ cursor place mine_too. once cursor place mine_too ∙ ap (λ n. one_below n place) (lens_other c made cursor (others cursor mine_too)))
            ∙ sym (ap (λ front. fold merge unit (front ++ of_all made)) ((All-head IsMerged c made all).others own))
