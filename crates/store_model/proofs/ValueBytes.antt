-- A value is known by its bytes.
use Rattle.std.proofs.Common.{◌≡◌, ℕ, ◌*◌, ◌^◌, ◌<◌, List, [], ◌∷◌, length, take, drop, Option, Some, IfSome, refl, sym, ◌∙◌, ap, subst, arith, length-append}
use Rattle.std.specs.List.{All}
use Rattle.std.specs.Int.{to_be_bytes, from_be_bytes, w64}
use Rattle.std.proofs.lemmas.Nat.{from_be_bytes-to_be_bytes_8}
use Rattle.std.proofs.lemmas.List.{take_at, drop_at}
use Rattle.std.proofs.lemmas.List.Elements.{All-head, All-tail}
use Rattle.graph_model.specs.declared.value.Value.{Value}
use Rattle.store_model.specs.Slots.{value_bytes, values_bytes}
use Rattle.store_model.proofs.SlotLemmas.{length-value_bytes}

pub length-values_bytes : (values : List Value) → length (values_bytes values) ≡ 16 * length values
length-values_bytes [] = refl
length-values_bytes (x ∷ xs) =
    omega (arith, length-append (value_bytes x) (values_bytes xs), length-value_bytes x, length-values_bytes xs)

-- the numbers of a value are below 2^64
abbrev pub Fits : Value → Type 0
Fits v = (v.main < 2 ^ 64) × (v.side < 2 ^ 64)

same_numbers : (m n : ℕ) → m < 2 ^ 64 → n < 2 ^ 64 → to_be_bytes w64 m ≡ to_be_bytes w64 n → m ≡ n
same_numbers m n fits_m fits_n same = sym (from_be_bytes-to_be_bytes_8 m fits_m) ∙ ap (from_be_bytes w64) same ∙ from_be_bytes-to_be_bytes_8 n fits_n

module _ (a b : Value) (fits_a : Fits a) (fits_b : Fits b) where
  -- a value is known by its bytes
  pub same_value_bytes : value_bytes a ≡ value_bytes b → a ≡ b
  unfolding value_bytes
  same_value_bytes same =
      let main : a.main ≡ b.main = same_numbers a.main b.main fits_a.0 fits_b.0
      (sym (take_at (to_be_bytes w64 a.main) (to_be_bytes w64 a.side) 8 refl) ∙ ap (take 8) same ∙ take_at (to_be_bytes w64 b.main) (to_be_bytes w64 b.side) 8 refl) in
      let side : a.side ≡ b.side = same_numbers a.side b.side fits_a.1 fits_b.1
      (sym (drop_at (to_be_bytes w64 a.main) (to_be_bytes w64 a.side) 8 refl) ∙ ap (drop 8) same ∙ drop_at (to_be_bytes w64 b.main) (to_be_bytes w64 b.side) 8 refl) in
      λ i. record { main = main i; side = side i }

-- and values by theirs
pub same_values_bytes : (xs ys : List Value) → All Fits xs → All Fits ys → length xs ≡ length ys → values_bytes xs ≡ values_bytes ys → xs ≡ ys
same_values_bytes [] [] fit_x fit_y long same = refl
same_values_bytes (x ∷ xs) (y ∷ ys) fit_x fit_y long same =
    let first : value_bytes x ≡ value_bytes y =
    sym (take_at (value_bytes x) (values_bytes xs) 16 (length-value_bytes x)) ∙ ap (take 16) same ∙ take_at (value_bytes y) (values_bytes ys) 16 (length-value_bytes y) in
    let rest : values_bytes xs ≡ values_bytes ys =
    sym (drop_at (value_bytes x) (values_bytes xs) 16 (length-value_bytes x)) ∙ ap (drop 16) same ∙ drop_at (value_bytes y) (values_bytes ys) 16 (length-value_bytes y) in
    ap (λ v. v ∷ xs) (same_value_bytes x y (All-head Fits x xs fit_x) (All-head Fits y ys fit_y) first)
    ∙ ap (λ vs. y ∷ vs) (same_values_bytes xs ys (All-tail Fits x xs fit_x) (All-tail Fits y ys fit_y) (omega arith) rest)
same_values_bytes [] (y ∷ ys) fit_x fit_y long same = absurd (omega arith)
same_values_bytes (x ∷ xs) [] fit_x fit_y long same = absurd (omega arith)

-- what holds of that which is told holds of that which was read
pub told_is : (x : Option (List ℕ)) (read : List ℕ) (P : List ℕ → Type 0) → x ≡ Some read → IfSome x P → P read
told_is x read P told holds = subst (λ (y : Option (List ℕ)). IfSome y P) told holds
