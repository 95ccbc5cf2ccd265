-- Runs, filters and counts over lists of calls.
use Rattle.std.proofs.Common.{◌≡◌, ◌≢◌, ℕ, zero, suc, ◌+◌, ◌<◌, ◌≤◌, Bool, true, false, cond, ◌&&◌, eqb, List, [], ◌∷◌, ◌++◌, refl, ap, sym, ◌∙◌, ⊎_elim, arith, eq-eqb, ne_eqb}
use Rattle.std.specs.List.{All, filter}
use Rattle.std.proofs.lemmas.List.{append-nil}
use Rattle.std.proofs.lemmas.List.Elements.{All-head, All-tail, filter-append}
use Rattle.std.proofs.lemmas.Bool.{both_ways, cases_Bool, cases_lt, cond-true, cond-false, false_from_ne_true}
use Rattle.chunk_object.specs.declared.call.Entry.{Entry}
use Rattle.chunk_object.specs.Object.{put_at}
use Rattle.chunk_object.specs.History.{final, EachStep, count_step, count_from, total}

pub put_at_here : {X : Type 0} (key : ℕ) (x : X) (f : ℕ → X) (i : ℕ) → i ≡ key → put_at key x f i ≡ x
put_at_here key x f i e = cond-true (eqb i key) x (f i) (eq-eqb i key e)

pub put_at_else : {X : Type 0} (key : ℕ) (x : X) (f : ℕ → X) (i : ℕ) → i ≢ key → put_at key x f i ≡ f i
put_at_else key x f i ne = cond-false (eqb i key) x (f i) (ne_eqb i key ne)

-- runs of two parts
module _ {S E : Type 0} (next : S → E → S) where
  pub final-append : (s : S) (xs ys : List E) → final next s (xs ++ ys) ≡ final next (final next s xs) ys
  final-append s [] ys = refl
  final-append s (x ∷ xs) ys = final-append (next s x) xs ys

  pub final-push : (s : S) (xs : List E) (e : E) → final next s (xs ++ e ∷ []) ≡ next (final next s xs) e
  final-push s xs e = final-append s xs (e ∷ [])

  module _ (ok : S → E → Type 0) where
    pub EachStep-append : (s : S) (xs ys : List E) → EachStep next ok s xs → EachStep next ok (final next s xs) ys → EachStep next ok s (xs ++ ys)
    EachStep-append s [] ys left right = right
    EachStep-append s (x ∷ xs) ys left right = (left.0, EachStep-append (next s x) xs ys left.1 right)

    pub EachStep-push : (s : S) (xs : List E) (e : E) → EachStep next ok s xs → ok (final next s xs) e → EachStep next ok s (xs ++ e ∷ [])
    EachStep-push s xs e left here = EachStep-append s xs (e ∷ []) left (here, tt)

    pub EachStep-left : (s : S) (xs ys : List E) → EachStep next ok s (xs ++ ys) → EachStep next ok s xs
    EachStep-left s [] ys run = tt
    EachStep-left s (x ∷ xs) ys run = (run.0, EachStep-left (next s x) xs ys run.1)

    pub EachStep-right : (s : S) (xs ys : List E) → EachStep next ok s (xs ++ ys) → EachStep next ok (final next s xs) ys
    EachStep-right s [] ys run = run
    EachStep-right s (x ∷ xs) ys run = EachStep-right (next s x) xs ys run.1

-- filters
module _ {X : Type 0} (p : X → Bool) where
  pub filter-push : (xs : List X) (x : X) → p x ≡ true → filter p (xs ++ x ∷ []) ≡ filter p xs ++ x ∷ []
  filter-push xs x h = filter-append p xs (x ∷ []) ∙ ap (λ l. filter p xs ++ l) (cond-true (p x) (x ∷ []) [] h)

  pub filter_pass : (xs : List X) (x : X) → p x ≡ false → filter p (xs ++ x ∷ []) ≡ filter p xs
  filter_pass xs x h = filter-append p xs (x ∷ []) ∙ (ap (λ l. filter p xs ++ l) (cond-false (p x) (x ∷ []) [] h) ∙ append-nil (filter p xs))

  -- lists with the same elements of a kind, and more
  pub filter_both : (xs ys zs : List X) → filter p xs ≡ filter p ys → filter p (xs ++ zs) ≡ filter p (ys ++ zs)
  filter_both xs ys zs e = filter-append p xs zs ∙ (ap (λ l. l ++ filter p zs) e ∙ sym (filter-append p ys zs))

  pub filter_left : (xs ys : List X) → filter p ys ≡ [] → filter p (xs ++ ys) ≡ filter p xs
  filter_left xs ys e = filter-append p xs ys ∙ (ap (λ l. filter p xs ++ l) e ∙ append-nil (filter p xs))

  kept_again : (x : X) (xs : List X) → filter p xs ≡ xs → (b : Bool) → p x ≡ b → filter p (cond b (x ∷ xs) xs) ≡ cond b (x ∷ xs) xs
  kept_again x xs again true e = cond-true (p x) (x ∷ filter p xs) (filter p xs) e ∙ ap (λ l. x ∷ l) again
  kept_again x xs again false e = again

  pub filter-filter : (xs : List X) → filter p (filter p xs) ≡ filter p xs
  filter-filter [] = refl
  filter-filter (x ∷ xs) = kept_again x (filter p xs) (filter-filter xs) (p x) refl

  -- what one test keeps another does not, where they never agree
  none_kept : (q : X → Bool) → ((x : X) → q x ≡ true → p x ≡ false) → (x : X) (xs : List X) → filter p xs ≡ [] → (b : Bool) → q x ≡ b → filter p (cond b (x ∷ xs) xs) ≡ []
  none_kept q apart x xs none true e = cond-false (p x) (x ∷ filter p xs) (filter p xs) (apart x e) ∙ none
  none_kept q apart x xs none false e = none

  pub filter_apart : (q : X → Bool) → ((x : X) → q x ≡ true → p x ≡ false) → (xs : List X) → filter p (filter q xs) ≡ []
  filter_apart q apart [] = refl
  filter_apart q apart (x ∷ xs) = none_kept q apart x (filter q xs) (filter_apart q apart xs) (q x) refl

  -- what is not kept does not move the run
  pub final-filter : {S : Type 0} (next : S → X → S) → ((s : S) (x : X) → p x ≡ false → next s x ≡ s) → (s : S) (xs : List X) → final next s (filter p xs) ≡ final next s xs
  final-filter next skip s [] = refl
  final-filter next skip s (x ∷ xs) =
      ⊎_elim
      (λ kept. ap (final next s) (cond-true (p x) (x ∷ filter p xs) (filter p xs) kept) ∙ final-filter next skip (next s x) xs)
      (λ left. ap (final next s) (cond-false (p x) (x ∷ filter p xs) (filter p xs) left) ∙ (final-filter next skip s xs ∙ ap (λ t. final next t xs) (sym (skip s x left))))
      (cases_Bool (p x))

-- counts
module _ (starts hits : Entry → Bool) where
  pub count-append : (k : ℕ) (xs ys : List Entry) → count_from starts hits k (xs ++ ys) ≡ count_from starts hits (count_from starts hits k xs) ys
  count-append k xs ys = final-append (count_step starts hits) k xs ys

  pub count-push : (k : ℕ) (xs : List Entry) (e : Entry) → count_from starts hits k (xs ++ e ∷ []) ≡ count_step starts hits (count_from starts hits k xs) e
  count-push k xs e = final-push (count_step starts hits) k xs e

  count_skips : (p : Entry → Bool) → ((e : Entry) → starts e ≡ true → p e ≡ true) → ((e : Entry) → hits e ≡ true → p e ≡ true) → (k : ℕ) (e : Entry) → p e ≡ false → count_step starts hits k e ≡ k
  count_skips p from_start from_hit k e left =
      cond-false (starts e) 0 _ (false_from_ne_true (starts e) (λ h. both_ways (p e) left (from_start e h)))
      ∙ cond-false (hits e) (suc k) k (false_from_ne_true (hits e) (λ h. both_ways (p e) left (from_hit e h)))

  -- a count is the same of any part that has all starts and hits
  pub count-filter : (p : Entry → Bool) → ((e : Entry) → starts e ≡ true → p e ≡ true) → ((e : Entry) → hits e ≡ true → p e ≡ true) → (k : ℕ) (es : List Entry) → count_from starts hits k (filter p es) ≡ count_from starts hits k es
  count-filter p from_start from_hit k es = final-filter p (count_step starts hits) (count_skips p from_start from_hit) k es

-- totals
pub total_zero : (m : ℕ) (f : ℕ → ℕ) → ((n : ℕ) → f n ≡ 0) → total m f ≡ 0
total_zero zero f none = refl
total_zero (suc m) f none = omega (arith, total_zero m f none, none m)

pub total_same_below : (m : ℕ) (f g : ℕ → ℕ) → ((n : ℕ) → n < m → f n ≡ g n) → total m f ≡ total m g
total_same_below zero f g same = refl
total_same_below (suc m) f g same = omega (arith, total_same_below m f g (λ n h. same n (omega arith)), same m (omega arith))

pub total_same : (m : ℕ) (f g : ℕ → ℕ) → ((n : ℕ) → f n ≡ g n) → total m f ≡ total m g
total_same m f g same = total_same_below m f g (λ n h. same n)

pub total_small : (m : ℕ) (f : ℕ → ℕ) → ((n : ℕ) → f n ≤ 1) → total m f ≤ m
total_small zero f small = omega arith
total_small (suc m) f small = omega (arith, total_small m f small, small m)

-- two of the numbers that are added are 0
pub total_apart : (m : ℕ) (f : ℕ → ℕ) → ((n : ℕ) → f n ≤ 1) → (i j : ℕ) → i < j → j < m → f i ≡ 0 → f j ≡ 0 → total m f + 2 ≤ m
total_apart zero f small i j lt below zi zj = absurd (omega arith)
total_apart (suc m) f small i j lt below zi zj = ⊎_elim
    (λ less. omega (arith, total_apart m f small i j lt less zi zj, small m))
    (λ least. let e : m ≡ j = omega arith in omega (arith, total_once m f small i (omega arith) zi, ap f e, zj))
    (cases_lt j m)
  where
    total_once : (m : ℕ) (f : ℕ → ℕ) → ((n : ℕ) → f n ≤ 1) → (i : ℕ) → i < m → f i ≡ 0 → total m f + 1 ≤ m
    total_once zero f small i below zi = absurd (omega arith)
    total_once (suc m) f small i below zi = ⊎_elim
        (λ less. omega (arith, total_once m f small i less zi, small m))
        (λ least. let e : m ≡ i = omega arith in omega (arith, total_small m f small, ap f e, zi))
        (cases_lt i m)

-- one of the numbers is one more
pub total_one_more : (m i : ℕ) (f : ℕ → ℕ) → i < m → total m (λ n. cond (eqb i n) (suc (f n)) (f n)) ≡ suc (total m f)
total_one_more zero i f below = absurd (omega arith)
total_one_more (suc m) i f below = ⊎_elim
    (λ less. let here : cond (eqb i m) (suc (f m)) (f m) ≡ f m = cond-false (eqb i m) _ _ (ne_eqb i m (λ e. omega arith)) in omega (arith, total_one_more m i f less, here))
    (λ least.
    let here : cond (eqb i m) (suc (f m)) (f m) ≡ suc (f m) = cond-true (eqb i m) _ _ (eq-eqb i m (omega arith)) in
    let front : total m (λ n. cond (eqb i n) (suc (f n)) (f n)) ≡ total m f = total_same_below m _ f (λ n h. cond-false (eqb i n) _ _ (ne_eqb i n (λ e. omega arith))) in
    omega (arith, here, front))
    (cases_lt i m)

-- the hits of one worker
abbrev pub by : (Entry → Bool) → ℕ → Entry → Bool
by hits worker e = hits e && eqb e.worker worker

-- one step of a count, and of the counts by worker
step_by : (a b : Bool) (m u k : ℕ) (f : ℕ → ℕ) → u < m → k ≡ total m f → total m (λ n. cond a 0 (cond (b && eqb u n) (suc (f n)) (f n))) ≡ cond a 0 (cond b (suc k) k)
step_by true b m u k f below e = total_zero m _ (λ n. refl)
step_by false true m u k f below e = total_one_more m u f below ∙ ap suc (sym e)
step_by false false m u k f below e = sym e

-- a count is the total of the counts by worker
pub count_by_worker : (starts hits : Entry → Bool) (m k : ℕ) (f : ℕ → ℕ) (es : List Entry) → All (λ e. e.worker < m) es → k ≡ total m f → count_from starts hits k es ≡ total m (λ n. count_from starts (by hits n) (f n) es)
count_by_worker starts hits m k f [] small e = e
count_by_worker starts hits m k f (x ∷ es) small e =
    count_by_worker starts hits m (count_step starts hits k x) (λ n. count_step starts (by hits n) (f n) x) es (All-tail (λ (y : Entry). y.worker < m) x es small)
    (sym (step_by (starts x) (hits x) m x.worker k f (All-head (λ (y : Entry). y.worker < m) x es small) e))
