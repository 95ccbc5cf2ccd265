-- Lines of three fields of digits, texts of such lines, and why they are not refused.
use Rattle.std.proofs.Common.{◌≡◌, ℕ, ◌+◌, ◌-◌, ◌<◌, ◌==◌, List, [], ◌∷◌, ◌++◌, length, take, drop, Bool, true, false, Option, Some, None, nat_le, nat_lt, refl, sym, ◌∙◌, ap, arith}
use Rattle.std.specs.Char.{is_ascii_digit}
use Rattle.std.specs.List.{slice_split, list_all, All, AllByRecursion, slice_index}
use Rattle.std.specs.Str.Lines.{strip_carriage_return}
use Rattle.std.specs.Str.Parse.{digits_value}
use Rattle.std.proofs.lemmas.Bool.{and_parts}
use Rattle.std.proofs.lemmas.Bool.Decides.{nat_tests}
use Rattle.std.proofs.lemmas.List.{take-append-drop}
use Rattle.std.proofs.lemmas.List.Elements.{All-from_recursion, All-append, All-cons}
use Rattle.std.proofs.lemmas.List.Splits.{slice_split_at, slice_split_none}
use Rattle.graph_model.specs.declared.edge.Meaning.TheVariants.{One}
use Rattle.graph_model.specs.declared.edge.TextFault.TheVariants.{BadLine}
use Rattle.graph_model.specs.declared.edge.TheConstants.{MAX_WEIGHT}
use Rattle.graph_model.specs.EdgeText.{is_line_feed, parts, all_but_last, last_of, ended_lines, last_part, last_line, lines, is_separator, fields, begins_comment, meaning_of_fields, meaning, first_malformed, refused_for, lines_within, refusal}
use Rattle.graph_model.proofs.TextLemmas.{has_parts, split_parts, ended_lines-append, first_malformed-append_some}
use Rattle.rmat_source.proofs.NumberFields.{IsFieldOf, number_read}

-- Of digits no byte passes a test that no digit passes.
digits_lack : (p : ℕ → Bool) → ((b : ℕ) → is_ascii_digit b ≡ true → p b ≡ false) → (field : List ℕ) → list_all is_ascii_digit field ≡ true
    → AllByRecursion (λ b. p b ≡ false) field
digits_lack p other [] are = tt
digits_lack p other (b ∷ bs) are =
    let both = and_parts (is_ascii_digit b) (list_all is_ascii_digit bs) are in
    (other b both.0, digits_lack p other bs both.1)

field_lacks : (p : ℕ → Bool) (n : ℕ) (field : List ℕ) → ((b : ℕ) → is_ascii_digit b ≡ true → p b ≡ false) → IsFieldOf n field → All (λ b. p b ≡ false) field
field_lacks p n field other is = All-from_recursion (λ b. p b ≡ false) field (digits_lack p other field is.are_digits)

no_separator : (b : ℕ) → is_ascii_digit b ≡ true → is_separator b ≡ false
no_separator b is = grind (arith, nat_tests)

no_line_feed : (b : ℕ) → is_ascii_digit b ≡ true → is_line_feed b ≡ false
no_line_feed b is = grind (arith, nat_tests)

no_return : (b : ℕ) → is_ascii_digit b ≡ true → (b == 13) ≡ false
no_return b is = grind (arith, nat_tests)

no_comment : (n : ℕ) (field : List ℕ) → IsFieldOf n field → begins_comment field ≡ false
no_comment n [] is = refl
no_comment n (b ∷ bs) is =
    let both = and_parts (is_ascii_digit b) (list_all is_ascii_digit bs) is.are_digits in
    let first = both.0 in
    grind (arith, nat_tests)

-- Three fields, with a space between two.
abbrev pub three_fields : (s d w : List ℕ) → List ℕ
three_fields s d w = s ++ 32 ∷ (d ++ 32 ∷ w)

module _ (s d w : List ℕ) (a b c : ℕ) (is_s : IsFieldOf a s) (is_d : IsFieldOf b d) (is_w : IsFieldOf c w) where
  line_lacks : (p : ℕ → Bool) → p 32 ≡ false → ((x : ℕ) → is_ascii_digit x ≡ true → p x ≡ false) → All (λ x. p x ≡ false) (three_fields s d w)
  line_lacks p space other =
      let P : ℕ → Type 0 = λ x. p x ≡ false in
      All-append P s (32 ∷ (d ++ 32 ∷ w)) (field_lacks p a s other is_s)
      (All-cons P 32 (d ++ 32 ∷ w) space
      (All-append P d (32 ∷ w) (field_lacks p b d other is_d) (All-cons P 32 w space (field_lacks p c w other is_w))))

  pub lacks_line_feed : All (λ x. is_line_feed x ≡ false) (three_fields s d w)
  lacks_line_feed = line_lacks is_line_feed refl no_line_feed

  split_fields : slice_split is_separator (three_fields s d w) ≡ s ∷ d ∷ w ∷ []
  split_fields =
      slice_split_at is_separator s 32 (d ++ 32 ∷ w) (field_lacks is_separator a s no_separator is_s) refl
      ∙ ap (λ ps. s ∷ ps) (slice_split_at is_separator d 32 w (field_lacks is_separator b d no_separator is_d) refl
      ∙ ap (λ ps. d ∷ ps) (slice_split_none is_separator w (field_lacks is_separator c w no_separator is_w)))

  fields_are : fields (three_fields s d w) ≡ s ∷ d ∷ w ∷ []
  fields_are = rw split_fields (rw (is_s.some, is_d.some, is_w.some) refl)

-- a line without carriage return stays as it is
strip_none : (line : List ℕ) → All (λ b. (b == 13) ≡ false) line → strip_carriage_return line ≡ line
strip_none [] lacks = refl
strip_none (b ∷ bs) lacks =
    let last : (slice_index (b ∷ bs) (length (b ∷ bs) - 1) == 13) ≡ false = lacks (length (b ∷ bs) - 1) 0 (omega arith) in
    rw last refl

-- **They say the edge of their values.**
pub three_fields_say : (vertices a b c : ℕ) (s d w : List ℕ) → IsFieldOf a s → IsFieldOf b d → IsFieldOf c w
    → a < vertices → b < vertices → c < MAX_WEIGHT + 1
    → meaning vertices (three_fields s d w) ≡ One (record { src = digits_value 10 s; dst = digits_value 10 d; weight = digits_value 10 w })
unfolding meaning
three_fields_say vertices a b c s d w is_s is_d is_w below_s below_d below_w =
    ap (λ line. meaning_of_fields vertices (fields line))
    (strip_none (three_fields s d w) (line_lacks s d w a b c is_s is_d is_w (λ x. x == 13) refl no_return))
    ∙ ap (meaning_of_fields vertices) (fields_are s d w a b c is_s is_d is_w)
    ∙ rw (no_comment a s is_s, number_read vertices a s is_s below_s, number_read vertices b d is_d below_d, number_read (MAX_WEIGHT + 1) c w is_w below_w) refl

-- The first line of a text.
ended_behind : (line : List ℕ) (ps : List (List ℕ)) → has_parts ps ≡ true → all_but_last (line ∷ ps) ≡ line ∷ all_but_last ps
ended_behind line [] some = absurd (cc)
ended_behind line (x ∷ more) some = refl

last_behind : (line : List ℕ) (ps : List (List ℕ)) → has_parts ps ≡ true → last_of (line ∷ ps) ≡ last_of ps
last_behind line [] some = absurd (cc)
last_behind line (x ∷ more) some = refl

pub ended_lines-first : (line text : List ℕ) → All (λ b. is_line_feed b ≡ false) line → ended_lines (line ++ 10 ∷ text) ≡ line ∷ ended_lines text
unfolding ended_lines
ended_lines-first line text lacks =
    ap all_but_last (slice_split_at is_line_feed line 10 text lacks refl) ∙ ended_behind line (parts text) (split_parts is_line_feed text)

pub last_part-first : (line text : List ℕ) → All (λ b. is_line_feed b ≡ false) line → last_part (line ++ 10 ∷ text) ≡ last_part text
unfolding last_part
last_part-first line text lacks =
    ap last_of (slice_split_at is_line_feed line 10 text lacks refl) ∙ last_behind line (parts text) (split_parts is_line_feed text)

-- Where no line is malformed, none of the first is.
none_by : (vertices : ℕ) (xs ys : List (List ℕ)) (found : Option ℕ) → first_malformed vertices xs ≡ found → first_malformed vertices (xs ++ ys) ≡ None → found ≡ None
none_by vertices xs ys None is none = refl
none_by vertices xs ys (Some k) is none = let first = first_malformed-append_some vertices k xs ys is in absurd (cc)

none_of_first : (vertices : ℕ) (xs ys : List (List ℕ)) → first_malformed vertices (xs ++ ys) ≡ None → first_malformed vertices xs ≡ None
none_of_first vertices xs ys none = none_by vertices xs ys (first_malformed vertices xs) refl none

none_within : (vertices limit : ℕ) (text : List ℕ) (short : Bool) → nat_le (length text) limit ≡ short → first_malformed vertices (lines text) ≡ None
    → first_malformed vertices (lines_within limit text) ≡ None
none_within vertices limit text true is none = rw is none
none_within vertices limit text false is none =
    let ended = ended_lines-append (take limit text) (drop limit text) in
    let whole : ended_lines text ≡ ended_lines (take limit text) ++ ended.0 = ap ended_lines (sym (take-append-drop limit text)) ∙ ended.1 in
    let of_ended = none_of_first vertices (ended_lines text) (last_line (last_part text)) none in
    rw is (none_of_first vertices (ended_lines (take limit text)) ended.0 (ap (first_malformed vertices) (sym whole) ∙ of_ended))

no_bad_line : (long : Bool) (line : ℕ) → refused_for None long ≡ Some (BadLine line) → ⊥
no_bad_line true line is = cc
no_bad_line false line is = cc

-- **A text of which no line is malformed is not refused for one, wherever a limit cuts it.**
pub not_refused_for_a_line : (vertices limit line : ℕ) (text : List ℕ) → first_malformed vertices (lines text) ≡ None
    → refusal vertices limit text ≡ Some (BadLine line) → ⊥
not_refused_for_a_line vertices limit line text none is =
    no_bad_line (nat_lt limit (length text)) line
    (ap (λ found. refused_for found (nat_lt limit (length text))) (sym (none_within vertices limit text (nat_le (length text) limit) refl none)) ∙ is)
