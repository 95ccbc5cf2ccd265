-- What is written of a number, as a field of an edge text.
use Rattle.std.proofs.Common.{◌≡◌, ℕ, zero, suc, ◌+◌, ◌*◌, ◌/◌, ◌%◌, ◌<◌, ◌≤◌, ◌==◌, nat_lt, List, [], ◌∷◌, true, false, Some, refl, arith}
use Rattle.std.specs.Prelude.{decimal}
use Rattle.std.specs.Char.{is_ascii_digit, digit_value}
use Rattle.std.specs.Fmt.{digits, digits_onto, digit_glyph}
use Rattle.std.specs.List.{list_all}
use Rattle.std.specs.Str.Parse.{digits_value, digits_value_after}
use Rattle.std.proofs.lemmas.Bool.{cond_both, and_from}
use Rattle.std.proofs.lemmas.Bool.Decides.{nat_tests}
use Rattle.graph_model.specs.EdgeText.{has_bytes, number}

-- a field of digits alone, whose value is at most so much
pub record IsFieldOf (n : ℕ) (field : List ℕ) : Type 0 where
  pub are_digits : list_all is_ascii_digit field ≡ true
  pub some : has_bytes field ≡ true
  pub value : digits_value 10 field ≤ n

abbrev last_digit : ℕ → ℕ
last_digit n = digit_glyph false (n % 10)

is_digit : (n : ℕ) → is_ascii_digit (last_digit n) ≡ true
is_digit n = grind (arith, nat_tests)

value_of_digit : (n : ℕ) → digit_value (last_digit n) ≡ n % 10
value_of_digit n = grind (arith, nat_tests)

-- so many digits at most, written before others, are digits
digits_before : (k n : ℕ) (behind : List ℕ) → list_all is_ascii_digit behind ≡ true → list_all is_ascii_digit (digits_onto k 10 false n behind) ≡ true
digits_before zero n behind are = are
digits_before (suc k) n behind are =
    let more : list_all is_ascii_digit (last_digit n ∷ behind) ≡ true = and_from (is_ascii_digit (last_digit n)) (list_all is_ascii_digit behind) (is_digit n) are in
    cond_both (n / 10 == 0) (last_digit n ∷ behind) (digits_onto k 10 false (n / 10) (last_digit n ∷ behind)) (λ ds. list_all is_ascii_digit ds ≡ true)
    (λ e. more) (λ e. digits_before k (n / 10) (last_digit n ∷ behind) more)

some_before : (k n b : ℕ) (behind : List ℕ) → has_bytes (digits_onto k 10 false n (b ∷ behind)) ≡ true
some_before zero n b behind = refl
some_before (suc k) n b behind =
    cond_both (n / 10 == 0) (last_digit n ∷ b ∷ behind) (digits_onto k 10 false (n / 10) (last_digit n ∷ b ∷ behind)) (λ ds. has_bytes ds ≡ true)
    (λ e. refl) (λ e. some_before k (n / 10) (last_digit n) (b ∷ behind))

some_written : (k n : ℕ) → has_bytes (digits_onto (suc k) 10 false n []) ≡ true
some_written k n =
    cond_both (n / 10 == 0) (last_digit n ∷ []) (digits_onto k 10 false (n / 10) (last_digit n ∷ [])) (λ ds. has_bytes ds ≡ true)
    (λ e. refl) (λ e. some_before k (n / 10) (last_digit n) [])

-- where not all of them are written, the value is less
value_before : (k n : ℕ) (behind : List ℕ) → (m : ℕ) × (m ≤ n) × (digits_value 10 (digits_onto k 10 false n behind) ≡ digits_value_after 10 m behind)
value_before zero n behind = (0, omega arith, refl)
value_before (suc k) n behind =
    let digit = value_of_digit n in
    let rest = value_before k (n / 10) (last_digit n ∷ behind) in
    cond_both (n / 10 == 0) (last_digit n ∷ behind) (digits_onto k 10 false (n / 10) (last_digit n ∷ behind))
    (λ ds. (m : ℕ) × (m ≤ n) × (digits_value 10 ds ≡ digits_value_after 10 m behind))
    (λ e. (0 * 10 + digit_value (last_digit n), omega (arith, digit), refl))
    (λ e. (rest.0 * 10 + digit_value (last_digit n), omega (arith, digit, rest.1), rest.2))

pub decimal_is_field : (n : ℕ) → IsFieldOf n (decimal n)
unfolding digits
decimal_is_field n =
    let value = value_before 64 n [] in
    record {
      are_digits = digits_before 64 n [] refl;
      some = some_written 63 n;
      value = omega (arith, value.1, value.2);
    }

-- it is read where the number is below the bound
pub number_read : (bound n : ℕ) (field : List ℕ) → IsFieldOf n field → n < bound → number bound field ≡ Some (digits_value 10 field)
unfolding number
number_read bound n field is below =
    let value = is.value in
    let small : nat_lt (digits_value 10 field) bound ≡ true = grind (arith, nat_tests) in
    rw (is.some, is.are_digits, small) refl
