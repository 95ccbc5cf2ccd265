-- A number that `parse` reads, and the number of a text.
use Rattle.std.proofs.Common.{◌≡◌, ◌∙◌, ◌+◌, ◌^◌, ◌<◌, ◌≤◌, ◌&&◌, rules, Bool, true, false, cond, nat_lt, nat_le, ℕ, [], ◌∷◌, length, Some, None, Result, Ok, Err, refl, sym, ap, arith, lt-ltb, ltb-true, le-leb, leb-true, ◌⊎◌, inl, inr}
use Rattle.std.proofs.lemmas.Bool.{cases_lt, false_from_ne_true}
use Rattle.std.specs.List.{list_all}
use Rattle.std.specs.Char.{is_ascii_digit}
use Rattle.std.specs.Result.{OkIff, result_ok}
use Rattle.std.specs.Str.Parse.{ParsesUnsigned, digits_value}
use Rattle.std.proofs.lemmas.Str.Parse.{IsDigitsTest, IsNumeralModel, numerals_by_value, parse_digits}
use Rattle.graph_model.specs.EdgeText.{has_bytes, number}
use Rattle.graph_model.proofs.BoolLemmas.{true_is_not}
use Rattle.job_words.specs.Tables.{Text}
use Rattle.job_words.specs.Commands.{and_then, number_between}

abbrev HasDigits : Text → Type 0
HasDigits text = list_all is_ascii_digit text ≡ true

tells_digits : IsDigitsTest HasDigits
tells_digits = search rules

digits : IsNumeralModel HasDigits (digits_value 10)
digits = numerals_by_value HasDigits tells_digits

-- ---- bounds up to the greatest number of 64 bits

bounded : (value bound : ℕ) (spelled : Bool) → bound ≤ 2 ^ 64 → (is_below fits : Bool) → nat_lt value bound ≡ is_below → nat_lt value (2 ^ 64) ≡ fits
    → cond (spelled && is_below) (Some value) None ≡ and_then (cond (spelled && fits) (Some value) None) (λ n. cond (nat_lt n bound) (Some n) None)
bounded value bound false up true fits e f = refl
bounded value bound false up false fits e f = refl
bounded value bound true up true true e f = rw e refl
bounded value bound true up false true e f = rw e refl
bounded value bound true up false false e f = refl
bounded value bound true up true false e f =
    let small : value < bound = ltb-true value bound e in
    absurd (true_is_not (nat_lt value (2 ^ 64)) (lt-ltb value (2 ^ 64) (omega arith)) f)

assoc : (a b c : Bool) → (a && (b && c)) ≡ ((a && b) && c)
assoc true b c = refl
assoc false b c = refl

-- a smaller bound is a test on the number
number_below : (text : Text) (bound : ℕ) → bound ≤ 2 ^ 64
    → number bound text ≡ and_then (number (2 ^ 64) text) (λ n. cond (nat_lt n bound) (Some n) None)
unfolding number
number_below text bound up =
    let value : ℕ = digits_value 10 text in
    let spelled : Bool = has_bytes text && list_all is_ascii_digit text in
    ap (λ b. cond b (Some value) None) (assoc (has_bytes text) (list_all is_ascii_digit text) (nat_lt value bound))
    ∙ bounded value bound spelled up (nat_lt value bound) (nat_lt value (2 ^ 64)) refl refl
    ∙ ap (λ b. and_then (cond b (Some value) None) (λ n. cond (nat_lt n bound) (Some n) None))
    (sym (assoc (has_bytes text) (list_all is_ascii_digit text) (nat_lt value (2 ^ 64))))

pub below_none : (text : Text) (bound : ℕ) → bound ≤ 2 ^ 64 → None ≡ number (2 ^ 64) text → None ≡ number bound text
below_none text bound up none = sym (number_below text bound up ∙ ap (λ o. and_then o (λ n. cond (nat_lt n bound) (Some n) None)) (sym none))

pub below_some : (text : Text) (bound n : ℕ) → bound ≤ 2 ^ 64 → Some n ≡ number (2 ^ 64) text → n < bound → Some n ≡ number bound text
below_some text bound n up some small =
    sym (number_below text bound up ∙ ap (λ o. and_then o (λ k. cond (nat_lt k bound) (Some k) None)) (sym some)
    ∙ ap (λ b. cond b (Some n) None) (lt-ltb n bound small))

pub below_not : (text : Text) (bound n : ℕ) → bound ≤ 2 ^ 64 → Some n ≡ number (2 ^ 64) text → bound ≤ n → None ≡ number bound text
below_not text bound n up some large =
    sym (number_below text bound up ∙ ap (λ o. and_then o (λ k. cond (nat_lt k bound) (Some k) None)) (sym some)
    ∙ ap (λ b. cond b (Some n) None) (false_from_ne_true (nat_lt n bound) (λ t. let small : n < bound = ltb-true n bound t in absurd (omega arith))))

-- ---- from a least number

pub between_none : (text : Text) (least greatest : ℕ) → greatest < 2 ^ 64 → None ≡ number (2 ^ 64) text → None ≡ number_between least greatest text
between_none text least greatest up none =
    ap (λ o. and_then o (λ n. cond (nat_le least n) (Some n) None)) (below_none text (greatest + 1) (omega arith) none)

pub between_some : (text : Text) (least greatest n : ℕ) → greatest < 2 ^ 64 → Some n ≡ number (2 ^ 64) text → least ≤ n → n ≤ greatest
    → Some n ≡ number_between least greatest text
between_some text least greatest n up some large small =
    sym (ap (λ b. cond b (Some n) None) (le-leb least n large))
    ∙ ap (λ o. and_then o (λ k. cond (nat_le least k) (Some k) None)) (below_some text (greatest + 1) n (omega arith) some (omega arith))

between_low : (text : Text) (least greatest n : ℕ) → greatest < 2 ^ 64 → Some n ≡ number (2 ^ 64) text → n < least → None ≡ number_between least greatest text
between_low text least greatest n up some low = by_bound (cases_lt greatest n)
  where
    by_bound : (greatest < n) ⊎ (n ≤ greatest) → None ≡ number_between least greatest text
    by_bound (inr small) =
        sym (ap (λ b. cond b (Some n) None) (false_from_ne_true (nat_le least n) (λ t. let large : least ≤ n = leb-true least n t in absurd (omega arith))))
        ∙ ap (λ o. and_then o (λ k. cond (nat_le least k) (Some k) None)) (below_some text (greatest + 1) n (omega arith) some (omega arith))
    by_bound (inl large) =
        ap (λ o. and_then o (λ k. cond (nat_le least k) (Some k) None)) (below_not text (greatest + 1) n (omega arith) some (omega arith))

between_high : (text : Text) (least greatest n : ℕ) → greatest < 2 ^ 64 → Some n ≡ number (2 ^ 64) text → greatest < n → None ≡ number_between least greatest text
between_high text least greatest n up some high =
    ap (λ o. and_then o (λ k. cond (nat_le least k) (Some k) None)) (below_not text (greatest + 1) n (omega arith) some (omega arith))

pub between_not : (text : Text) (least greatest n : ℕ) → greatest < 2 ^ 64 → Some n ≡ number (2 ^ 64) text → ((least ≤ n) × (greatest < n)) ⊎ (n < least)
    → None ≡ number_between least greatest text
between_not text least greatest n up some (inl high) = between_high text least greatest n up some high.1
between_not text least greatest n up some (inr low) = between_low text least greatest n up some low

-- ---- what `parse` reads

pub not_digits : (text : Text) → list_all is_ascii_digit text ≡ false → None ≡ number (2 ^ 64) text
unfolding number
not_digits [] other = absurd (true_is_not true refl other)
not_digits (b ∷ text) other = rw other refl

parsed : {E : Type 0} (text : Text) (r : Result ℕ E) → list_all is_ascii_digit text ≡ true
    → OkIff r ((0 < length text) × (digits_value 10 text < 2 ^ 64)) (digits_value 10 text) → result_ok r ≡ number (2 ^ 64) text
unfolding number
parsed [] (Ok n) all h = absurd (omega arith)
parsed [] (Err e) all h = refl
parsed (b ∷ text) (Ok n) all h =
    let fits = lt-ltb (digits_value 10 (b ∷ text)) (2 ^ 64) h.0.1 in
    rw (all, fits) (ap Some h.1)
parsed (b ∷ text) (Err e) all h =
    let fits = false_from_ne_true (nat_lt (digits_value 10 (b ∷ text)) (2 ^ 64)) (λ t. h (omega arith, ltb-true (digits_value 10 (b ∷ text)) (2 ^ 64) t)) in
    rw (all, fits) refl

pub parsed_number : {E : Type 0} (text : Text) (r : Result ℕ E) → list_all is_ascii_digit text ≡ true → ParsesUnsigned 64 10 text r → result_ok r ≡ number (2 ^ 64) text
parsed_number text r all parses = parsed text r all (parse_digits digits 64 text r parses all)
