-- Tables in one list, and what one write does to them.
use Rattle.std.proofs.Common.{◌≡◌, ◌≢◌, ℕ, zero, suc, ◌+◌, ◌*◌, ◌/◌, ◌<◌, ◌≤◌, ◌==◌, nat_lt, if◌then◌else◌, Bool, true, false, List, length, get_or, set, replicate, refl, sym, ◌∙◌, ap, subst, arith}
use Rattle.std.proofs.Math.Path.{fun_ext}
use Rattle.std.proofs.Math.Nat.{mul-add-div, div-eq_of_lt, mul-le-mul_left}
use Rattle.std.proofs.lemmas.List.{get_or-set_same, get_or-set_other, get_or_default}
use Rattle.std.proofs.lemmas.Bool.{eqb-true, eqb-false, cond-true, lt-ltb}
use Rattle.chunk_object.specs.Object.{put_at}
use Rattle.chunk_object.specs.History.{one_below}
use Rattle.phase_core.specs.View.{entry}

-- a list as a function, after a write
written_at : {X : Type 0} (xs : List X) (place : ℕ) (x d : X) → place < length xs → (i : ℕ) (same : Bool) → i == place ≡ same → get_or (set xs place x) i d ≡ (if same then x else get_or xs i d)
written_at xs place x d below i true test = subst (λ k. get_or (set xs place x) k d ≡ x) (sym (eqb-true i place test)) (get_or-set_same xs place x d below)
written_at xs place x d below i false test = get_or-set_other xs place i x d (eqb-false i place test)

pub written : {X : Type 0} (xs : List X) (place : ℕ) (x d : X) → place < length xs → (λ i. get_or (set xs place x) i d) ≡ put_at place x (λ i. get_or xs i d)
written xs place x d below = fun_ext (λ i. written_at xs place x d below i (i == place) refl)

row_of : (width row place : ℕ) → place < width → (width * row + place) / width ≡ row
row_of width row place within =
    let some_width : zero < width = omega arith in
    let divided : (width * row + place) / width ≡ row + place / width = mul-add-div some_width row place in
    let small : place / width ≡ 0 = div-eq_of_lt within in
    omega (arith, divided, small)

-- two places are one place only in one row
one_row : (width row place other_row other : ℕ) → place < width → other < width → width * row + place ≡ width * other_row + other → row ≡ other_row
one_row width row place other_row other within also same =
    sym (row_of width row place within) ∙ ap (λ k. k / width) same ∙ row_of width other_row other also

-- a place of a row is one of the table
pub in_table : (width row rows place : ℕ) → place < width → row < rows → width * row + place < width * rows
in_table width row rows place within below =
    let next : width * (row + 1) ≤ width * rows = mul-le-mul_left width (omega arith) in
    let parts : width * (row + 1) ≡ width * row + width = grind arith in
    omega (arith, within, next, parts)

-- an entry of a row
pub entry-read : {X : Type 0} (width : ℕ) (d : X) (xs : List X) (row place : ℕ) (read : X) → place < width → width * row + place < length xs →
    read ≡ get_or xs (width * row + place) read → read ≡ entry width d xs row place
entry-read width d xs row place read within below is =
    is ∙ get_or_default xs (width * row + place) read d below ∙ sym (cond-true (nat_lt place width) (get_or xs (width * row + place) d) d (lt-ltb place width within))

module _ {X : Type 0} (width : ℕ) (d : X) (xs : List X) (row place : ℕ) (x : X) (within : place < width) (below : width * row + place < length xs) where
  same_row : (r p : ℕ) (same inside : Bool) → r ≡ row → p == place ≡ same → nat_lt p width ≡ inside →
      (if inside then get_or (set xs (width * row + place) x) (width * r + p) d else d) ≡ (if same then x else (if inside then get_or xs (width * row + p) d else d))
  same_row r p true true is_row is_place test =
      let here : width * r + p ≡ width * row + place = rw (is_row, eqb-true p place is_place) refl in
      subst (λ k. get_or (set xs (width * row + place) x) k d ≡ x) (sym here) (get_or-set_same xs (width * row + place) x d below)
  same_row r p true false is_row is_place test = let at : p ≡ place = eqb-true p place is_place in absurd (grind arith)
  same_row r p false true is_row is_place test =
      let apart : p ≢ place = eqb-false p place is_place in
      let here : width * r + p ≡ width * row + p = rw is_row refl in
      let other : width * row + p ≢ width * row + place = λ equal. apart (omega arith) in
      subst (λ k. get_or (set xs (width * row + place) x) k d ≡ get_or xs (width * row + p) d) (sym here) (get_or-set_other xs (width * row + place) (width * row + p) x d other)
  same_row r p false false is_row is_place test = refl

  other_row : (r p : ℕ) (inside : Bool) → r ≢ row → nat_lt p width ≡ inside →
      (if inside then get_or (set xs (width * row + place) x) (width * r + p) d else d) ≡ (if inside then get_or xs (width * r + p) d else d)
  other_row r p true apart test =
      let inside : p < width = grind arith in
      get_or-set_other xs (width * row + place) (width * r + p) x d (λ equal. apart (one_row width r p row place inside within equal))
  other_row r p false apart test = refl

  by_row : (r : ℕ) (same : Bool) → r == row ≡ same → entry width d (set xs (width * row + place) x) r ≡ (if same then put_at place x (entry width d xs row) else entry width d xs r)
  by_row r true test = fun_ext (λ p. same_row r p (p == place) (nat_lt p width) (eqb-true r row test) refl refl)
  by_row r false test = fun_ext (λ p. other_row r p (nat_lt p width) (eqb-false r row test) refl)

  -- **A write into a table changes one entry of one row.**
  pub entry-written : entry width d (set xs (width * row + place) x) ≡ put_at row (put_at place x (entry width d xs row)) (entry width d xs)
  entry-written = fun_ext (λ r. by_row r (r == row) refl)

-- a list of one value
pub same_everywhere : {X : Type 0} (n i : ℕ) (x : X) → get_or (replicate n x) i x ≡ x
same_everywhere zero i x = refl
same_everywhere (suc n) zero x = refl
same_everywhere (suc n) (suc i) x = same_everywhere n i x

entry_of_copies : {X : Type 0} (width n row place : ℕ) (x : X) (inside : Bool) → (if inside then get_or (replicate n x) (width * row + place) x else x) ≡ x
entry_of_copies width n row place x true = same_everywhere n (width * row + place) x
entry_of_copies width n row place x false = refl

pub entry-replicate : {X : Type 0} (width n : ℕ) (x : X) → entry width x (replicate n x) ≡ (λ row place. x)
entry-replicate width n x = fun_ext (λ row. fun_ext (λ place. entry_of_copies width n row place x (nat_lt place width)))

ones_at : (n i : ℕ) → get_or (replicate n 1) i 0 ≡ one_below n i
ones_at zero i = grind arith
ones_at (suc n) zero = grind arith
ones_at (suc n) (suc i) = ones_at n i ∙ grind arith

pub ones : (n : ℕ) → (λ i. get_or (replicate n 1) i 0) ≡ one_below n
ones n = fun_ext (ones_at n)
