-- Lists that fill their slots, slot by slot.
use Rattle.std.proofs.Common.{◌≡◌, ◌≢◌, ℕ, zero, suc, ◌+◌, ◌-◌, ◌<◌, ◌≤◌, Bool, true, false, List, [], ◌∷◌, ◌++◌, refl, ap, sym, ◌∙◌, subst, ⊎_elim, arith, append_assoc}
use Rattle.std.specs.List.{All, filter}
use Rattle.std.proofs.lemmas.Bool.{cases_eq, cond-true, cond-false, false≢true, false_from_ne_true}
use Rattle.std.proofs.lemmas.List.{append-nil}
use Rattle.std.proofs.lemmas.List.Elements.{filter-append, All-append, All-nil, All-weaker, All-head, All-tail}
use Rattle.worker_duty.specs.Slots.{Fills}

pub filter_all : {X : Type 0} (p : X → Bool) (xs : List X) → All (λ x. p x ≡ true) xs → filter p xs ≡ xs
filter_all p [] all = refl
filter_all p (x ∷ xs) all = cond-true (p x) _ _ (All-head (λ x. p x ≡ true) x xs all) ∙ ap (λ l. x ∷ l) (filter_all p xs (All-tail (λ x. p x ≡ true) x xs all))

pub filter_none : {X : Type 0} (p : X → Bool) (xs : List X) → All (λ x. p x ≡ false) xs → filter p xs ≡ []
filter_none p [] all = refl
filter_none p (x ∷ xs) all = cond-false (p x) _ _ (All-head (λ x. p x ≡ false) x xs all) ∙ filter_none p xs (All-tail (λ x. p x ≡ false) x xs all)

module _ {X : Type 0} (belongs : ℕ → X → Bool) (mine : ℕ → Bool) (share : ℕ → List X → Type 0) where
  abbrev InSlot : ℕ → X → Type 0
  InSlot n x = (i : ℕ) × (i < n) × (mine i ≡ true) × (belongs i x ≡ true)

  pub fills_none : Fills belongs mine share 0 []
  fills_none = record { only = All-nil _; each = λ i below is. absurd (omega arith) }

  wider : (n : ℕ) (x : X) → InSlot n x → InSlot (n + 1) x
  wider n x at = let below : at.0 < n = at.1 in (at.0, omega arith, at.2, at.3)

  newest : (n : ℕ) → mine n ≡ true → (x : X) → belongs n x ≡ true → InSlot (n + 1) x
  newest n is_mine x at = (n, omega arith, is_mine, at)

  pub fills_skip : (n : ℕ) (xs : List X) → mine n ≡ false → Fills belongs mine share n xs → Fills belongs mine share (n + 1) xs
  fills_skip n xs not_mine fills = record {
    only = All-weaker (InSlot n) (InSlot (n + 1)) (wider n) xs fills.only;
    each = λ i below is. ⊎_elim (λ same. absurd (false≢true (sym not_mine ∙ (ap mine (sym same) ∙ is)))) (λ ne. fills.each i (omega arith) is) (cases_eq i n);
  }

  module _ (apart : (i j : ℕ) (x : X) → belongs i x ≡ true → belongs j x ≡ true → i ≡ j) where
    elsewhere : (i j : ℕ) → i ≢ j → (x : X) → belongs j x ≡ true → belongs i x ≡ false
    elsewhere i j ne x at = false_from_ne_true (belongs i x) (λ here. ne (apart i j x here at))

    lower : (n : ℕ) (x : X) → InSlot n x → belongs n x ≡ false
    lower n x at = let below : at.0 < n = at.1 in elsewhere n at.0 (λ (e : n ≡ at.0). omega arith) x at.3

    pub fills_more : (n : ℕ) (xs ys : List X) → mine n ≡ true → Fills belongs mine share n xs → All (λ x. belongs n x ≡ true) ys → share n ys → Fills belongs mine share (n + 1) (xs ++ ys)
    fills_more n xs ys is_mine fills all shares = record {
      only = All-append (InSlot (n + 1)) xs ys (All-weaker (InSlot n) (InSlot (n + 1)) (wider n) xs fills.only) (All-weaker (λ x. belongs n x ≡ true) (InSlot (n + 1)) (newest n is_mine) ys all);
      each = λ i below is. ⊎_elim
          (λ same.
          let none : filter (belongs n) xs ≡ [] = filter_none (belongs n) xs (All-weaker (InSlot n) (λ x. belongs n x ≡ false) (lower n) xs fills.only) in
          let whole : filter (belongs n) (xs ++ ys) ≡ ys = filter-append (belongs n) xs ys ∙ (ap (λ l. l ++ filter (belongs n) ys) none ∙ filter_all (belongs n) ys all) in
          subst (λ k. share k (filter (belongs k) (xs ++ ys))) (sym same) (subst (share n) (sym whole) shares))
          (λ ne.
          let none : filter (belongs i) ys ≡ [] = filter_none (belongs i) ys (All-weaker (λ x. belongs n x ≡ true) (λ x. belongs i x ≡ false) (λ x at. elsewhere i n ne x at) ys all) in
          let front : filter (belongs i) (xs ++ ys) ≡ filter (belongs i) xs = filter-append (belongs i) xs ys ∙ (ap (λ l. filter (belongs i) xs ++ l) none ∙ append-nil (filter (belongs i) xs)) in
          subst (share i) (sym front) (fills.each i (omega arith) is))
          (cases_eq i n);
    }

    -- slots that can be filled can all be filled
    pub fills_on : (k n : ℕ) (xs : List X) → ((i : ℕ) → i < k + n → mine i ≡ true → (piece : List X) × All (λ x. belongs i x ≡ true) piece × share i piece) → Fills belongs mine share k xs → (rest : List X) × Fills belongs mine share (k + n) (xs ++ rest)
    fills_on k zero xs some fills = ([], subst (λ l. Fills belongs mine share (k + 0) l) (sym (append-nil xs)) (let e : k ≡ k + 0 = omega arith in subst (λ m. Fills belongs mine share m xs) e fills))
    fills_on k (suc n) xs some fills = here (mine (k + n)) refl (fills_on k n xs (λ i below is. some i (omega arith) is) fills)
      where
        same : k + n + 1 ≡ k + suc n
        same = omega arith

        here : (is : Bool) → mine (k + n) ≡ is → (rest : List X) × Fills belongs mine share (k + n) (xs ++ rest) → (rest : List X) × Fills belongs mine share (k + suc n) (xs ++ rest)
        here true is_mine so_far =
            let piece = some (k + n) (omega arith) is_mine in
            (so_far.0 ++ piece.0, subst (λ m. Fills belongs mine share m (xs ++ (so_far.0 ++ piece.0))) same (subst (Fills belongs mine share (k + n + 1)) (append_assoc xs so_far.0 piece.0) (fills_more (k + n) (xs ++ so_far.0) piece.0 is_mine so_far.1 piece.1 piece.2)))
        here false not_mine so_far = (so_far.0, subst (λ m. Fills belongs mine share m (xs ++ so_far.0)) same (fills_skip (k + n) (xs ++ so_far.0) not_mine so_far.1))

    pub fills_all : (k n : ℕ) (xs : List X) → k ≤ n → ((i : ℕ) → i < n → mine i ≡ true → (piece : List X) × All (λ x. belongs i x ≡ true) piece × share i piece) → Fills belongs mine share k xs → (rest : List X) × Fills belongs mine share n (xs ++ rest)
    fills_all k n xs within some fills =
        let e : k + (n - k) ≡ n = omega arith in
        let on = fills_on k (n - k) xs (λ i below is. some i (omega arith) is) fills in
        (on.0, subst (λ m. Fills belongs mine share m (xs ++ on.0)) e on.1)
