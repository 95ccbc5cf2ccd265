-- Lemmas on lists that are wanted in several crates.
use Rattle.std.proofs.Common.{◌≡◌, ◌≢◌, ℕ, zero, suc, ◌+◌, ◌<◌, ◌==◌, Bool, true, false, List, [], ◌∷◌, ◌++◌, length, get_or, set, refl, sym, ◌∙◌, ap, subst, arith, zero-add, length-append, add-zero}
use Rattle.std.specs.List.{All, enumerate_from, range_with_len, sum_by}
use Rattle.std.proofs.lemmas.Bool.{eqb-true, eqb-false}
use Rattle.std.proofs.lemmas.List.{get_or-set_same, get_or-set_other, get_or_append_left, get_or-append-add}
use Rattle.std.proofs.lemmas.List.Sums.{sum_by_push}

-- an entry after a write: the new one, or the old one
at_set_by : {X : Type 0} (P : ℕ → X → Type 0) (xs : List X) (e k : ℕ) (new d : X) → e < length xs → (k ≡ e → P e new) → (k ≢ e → P k (get_or xs k d)) → (same : Bool) → (k == e) ≡ same → P k (get_or (set xs e new) k d)
at_set_by P xs e k new d within here other true is =
    let same : k ≡ e = eqb-true k e is in
    subst (λ j. P j (get_or (set xs e new) j d)) (sym same) (subst (P e) (sym (get_or-set_same xs e new d within)) (here same))
at_set_by P xs e k new d within here other false is =
    let apart : k ≢ e = eqb-false k e is in
    subst (P k) (sym (get_or-set_other xs e k new d apart)) (other apart)

pub at_set : {X : Type 0} (P : ℕ → X → Type 0) (xs : List X) (e k : ℕ) (new d : X) → e < length xs → (k ≡ e → P e new) → (k ≢ e → P k (get_or xs k d)) → P k (get_or (set xs e new) k d)
at_set P xs e k new d within here other = at_set_by P xs e k new d within here other (k == e) refl

pub enumerate-more : {X : Type 0} (n : ℕ) (xs : List X) (x : X) → enumerate_from n (xs ++ x ∷ []) ≡ enumerate_from n xs ++ (n + length xs, x) ∷ []
enumerate-more {X} n [] x = ap (λ (k : ℕ). (k, x) ∷ []) (omega arith)
enumerate-more {X} n (y ∷ xs) x =
    let next : n + 1 + length xs ≡ n + (suc (length xs)) = omega arith in
    ap (λ (rest : List (ℕ × X)). (n, y) ∷ rest) (enumerate-more (n + 1) xs x ∙ ap (λ (k : ℕ). enumerate_from (n + 1) xs ++ (k, x) ∷ []) next)

pub set-twice : {X : Type 0} (xs : List X) (p : ℕ) (x y : X) → set (set xs p x) p y ≡ set xs p y
set-twice [] p x y = refl
set-twice (z ∷ xs) zero x y = refl
set-twice (z ∷ xs) (suc p) x y = ap (λ rest. z ∷ rest) (set-twice xs p x y)

-- a fact of each element of a list is one of each element of its front and of its rest
pub All-front : {X : Type 0} (P : X → Type 0) (xs ys : List X) → All P (xs ++ ys) → All P xs
All-front P xs ys all k d below =
    subst P (get_or_append_left xs ys d k below) (all k d (simp length-append (omega arith)))

pub All-behind : {X : Type 0} (P : X → Type 0) (xs ys : List X) → All P (xs ++ ys) → All P ys
All-behind P xs ys all k d below =
    subst P (get_or-append-add xs ys k d) (all (length xs + k) d (simp length-append (omega arith)))

pub range_with_len-append : (a m n : ℕ) → range_with_len a m ++ range_with_len (a + m) n ≡ range_with_len a (m + n)
range_with_len-append a zero n = rw (add-zero a, zero-add n) refl
range_with_len-append a (suc m) n =
    let start : a + suc m ≡ a + 1 + m = omega arith in
    let len : suc m + n ≡ suc (m + n) = omega arith in
    rw (start, len) (ap (λ rest. a ∷ rest) (range_with_len-append (a + 1) m n))

-- a row that is longer by one has one more number at its end
pub range_with_len-more : (n : ℕ) → range_with_len 0 (n + 1) ≡ range_with_len 0 n ++ n ∷ []
range_with_len-more n = sym (subst (λ k. range_with_len 0 n ++ k ∷ [] ≡ range_with_len 0 (n + 1)) (zero-add n) (range_with_len-append 0 n 1))

-- and the sum over it one term more
pub sum_by_range-more : (f : ℕ → ℕ) (engines : ℕ) → sum_by f (range_with_len 0 (engines + 1)) ≡ sum_by f (range_with_len 0 engines) + f engines
sum_by_range-more f engines = ap (sum_by f) (range_with_len-more engines) ∙ sum_by_push f (range_with_len 0 engines) engines

-- a relation of two pairs, entry by entry
pub pair_related : {X Y : Type 0} (P : X → Y → Type 0) (a b : X) (x y : Y) → P a x → P b y → (w : ℕ) (r : X) (d : Y) → w < 2 → P (get_or (a ∷ b ∷ []) w r) (get_or (x ∷ y ∷ []) w d)
pair_related P a b x y p q zero r d below = p
pair_related P a b x y p q (suc zero) r d below = q
pair_related P a b x y p q (suc (suc w)) r d below = absurd (omega arith)
