-- Lists that go side by side, item by item.
use Rattle.std.proofs.Common.{◌≡◌, ℕ, zero, suc, ◌<◌, Bool, true, false, cond, List, [], ◌∷◌, ◌++◌, length, map, get_or, ap, arith, refl}

abbrev pub Paired : {A B : Type 0} → (A → B → Type 0) → List A → List B → Type 0
Paired R [] [] = Unit {0}
Paired R (x ∷ xs) (y ∷ ys) = R x y × Paired R xs ys
Paired R [] (y ∷ ys) = ⊥
Paired R (x ∷ xs) [] = ⊥

pub paired-append : {A B : Type 0} (R : A → B → Type 0) (xs xs' : List A) (ys ys' : List B) → Paired R xs ys → Paired R xs' ys' → Paired R (xs ++ xs') (ys ++ ys')
paired-append R [] xs' [] ys' first rest = rest
paired-append R (x ∷ xs) xs' (y ∷ ys) ys' first rest = (first.0, paired-append R xs xs' ys ys' first.1 rest)
paired-append R [] xs' (y ∷ ys) ys' first rest = absurd first
paired-append R (x ∷ xs) xs' [] ys' first rest = absurd first

pub paired-length : {A B : Type 0} (R : A → B → Type 0) (xs : List A) (ys : List B) → Paired R xs ys → length xs ≡ length ys
paired-length R [] [] pairs = refl
paired-length R (x ∷ xs) (y ∷ ys) pairs = ap suc (paired-length R xs ys pairs.1)
paired-length R [] (y ∷ ys) pairs = absurd pairs
paired-length R (x ∷ xs) [] pairs = absurd pairs

pub paired-at : {A B : Type 0} (R : A → B → Type 0) (xs : List A) (ys : List B) → Paired R xs ys → (t : ℕ) (a : A) (b : B) → t < length xs → R (get_or xs t a) (get_or ys t b)
paired-at R [] [] pairs t a b below = absurd (omega arith)
paired-at R (x ∷ xs) (y ∷ ys) pairs zero a b below = pairs.0
paired-at R (x ∷ xs) (y ∷ ys) pairs (suc t) a b below = paired-at R xs ys pairs.1 t a b (omega arith)
paired-at R [] (y ∷ ys) pairs t a b below = absurd pairs
paired-at R (x ∷ xs) [] pairs t a b below = absurd pairs

-- one item more of each where the two tests agree that it belongs
pub paired-if : {A A' B B' : Type 0} (R : A → B → Type 0) (f : A' → A) (g : B' → B) (test test' : Bool) (x : A') (y : B') (xs : List A') (ys : List B') → test ≡ test' → (test ≡ true → R (f x) (g y)) →
    Paired R (map f xs) (map g ys) → Paired R (map f (cond test (x ∷ xs) xs)) (map g (cond test' (y ∷ ys) ys))
paired-if R f g true true x y xs ys same here rest = (here refl, rest)
paired-if R f g false false x y xs ys same here rest = rest
paired-if R f g true false x y xs ys same here rest = let no : ⊥ = cc in absurd no
paired-if R f g false true x y xs ys same here rest = let no : ⊥ = cc in absurd no
