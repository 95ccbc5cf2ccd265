-- The bytes of a line, one at a time, give what the line says.
use Rattle.std.proofs.Common.{◌≡◌, ℕ, suc, ◌+◌, ◌-◌, ◌*◌, ◌^◌, ◌≤◌, List, [], ◌∷◌, ◌++◌, length, take, get_or, Bool, true, false, cond, ◌==◌, ◌&&◌, nat_lt, if◌then◌else◌, Option, Some, None, filter, fold, refl, sym, ◌∙◌, ap, arith}
use Rattle.std.specs.List.{slice_split, onto_first, list_all}
use Rattle.std.specs.Char.{is_ascii_digit, digit_value}
use Rattle.std.specs.Str.Parse.{digits_value_after}
use Rattle.std.specs.Str.Lines.{strip_carriage_return}
use Rattle.std.proofs.lemmas.Bool.Decides.{nat_tests}
use Rattle.std.proofs.lemmas.List.Sums.{fold-append}
use Rattle.graph_model.specs.declared.edge.Meaning.{Meaning}
use Rattle.graph_model.specs.declared.edge.Meaning.TheVariants.{Nothing, Malformed}
use Rattle.graph_model.specs.declared.edge.TheConstants.{MAX_WEIGHT}
use Rattle.graph_model.specs.EdgeText.{is_separator, has_bytes, number, edge_of, edge_of_fields, meaning_of_fields, meaning}
use Rattle.graph_model.proofs.TextLemmas.{has_parts, split_parts}
use Rattle.graph_model.proofs.BoolLemmas.{and_false}
use Rattle.edge_reader.specs.declared.line.Line.{Line}
use Rattle.edge_reader.specs.declared.line.Stage.{Stage}
use Rattle.edge_reader.specs.declared.line.Stage.TheVariants.{Blank, Comment, Source, AfterSource, Target, AfterTarget, Weight, AfterWeight, BlankReturn, EdgeReturn, Invalid}
use Rattle.edge_reader.specs.Line.{empty_line, grown, with_digit, with_other, with_separator, with_return, line_after_plain, line_after, line_of, line_end}

-- Numbers.
-- the number n with these digits behind it, where they are digits and it is below the bound
abbrev digits_on : ℕ → ℕ → List ℕ → Option ℕ
digits_on bound n x =
    if list_all is_ascii_digit x && nat_lt (digits_value_after 10 n x) bound then Some (digits_value_after 10 n x) else None

value_after-ge : (x : List ℕ) (n : ℕ) → n ≤ digits_value_after 10 n x
value_after-ge [] n = omega arith
value_after-ge (b ∷ x) n = let more = value_after-ge x (n * 10 + digit_value b) in omega arith

pub not_below : (a b : ℕ) → b ≤ a → nat_lt a b ≡ false
not_below a b h = grind (arith, nat_tests)

digits_on-large : (bound n : ℕ) (x : List ℕ) → bound ≤ n → digits_on bound n x ≡ None
digits_on-large bound n x h =
    let large : bound ≤ digits_value_after 10 n x = let more = value_after-ge x n in omega arith in
    rw (not_below (digits_value_after 10 n x) bound large) (rw (and_false (list_all is_ascii_digit x)) refl)

digits_on-cons : (bound n b : ℕ) (x : List ℕ) (digit : Bool) → is_ascii_digit b ≡ digit
    → digits_on bound n (b ∷ x) ≡ (if digit then digits_on bound (n * 10 + digit_value b) x else None)
digits_on-cons bound n b x true e = rw e refl
digits_on-cons bound n b x false e = rw e refl

value_of_digit : (b : ℕ) → is_ascii_digit b ≡ true → digit_value b ≡ b - 48
value_of_digit b e = grind (arith, nat_tests)

digits_on-grown : (bound n digit : ℕ) (x : List ℕ) (small : Bool) → bound ≤ 2 ^ 60 → nat_lt n (2 ^ 60) ≡ small
    → digits_on bound (n * 10 + digit) x ≡ digits_on bound (grown n digit) x
digits_on-grown bound n digit x true h e = rw e refl
digits_on-grown bound n digit x false h e =
    let large : 2 ^ 60 ≤ n = grind (arith, nat_tests) in
    rw e (digits_on-large bound (n * 10 + digit) x (omega arith) ∙ sym (digits_on-large bound n x (omega arith)))

-- one more digit, or another byte
digits_on-byte : (bound n b : ℕ) (x : List ℕ) (digit : Bool) → bound ≤ 2 ^ 60 → is_ascii_digit b ≡ digit
    → digits_on bound n (b ∷ x) ≡ (if digit then digits_on bound (grown n (b - 48)) x else None)
digits_on-byte bound n b x true h e =
    digits_on-cons bound n b x true e
    ∙ ap (λ d. digits_on bound (n * 10 + d) x) (value_of_digit b e)
    ∙ digits_on-grown bound n (b - 48) x (nat_lt n (2 ^ 60)) h refl
digits_on-byte bound n b x false h e = digits_on-cons bound n b x false e

-- a number from its first byte on
number-cons : (bound b : ℕ) (x : List ℕ) (digit : Bool) → is_ascii_digit b ≡ digit
    → number bound (b ∷ x) ≡ (if digit then digits_on bound (b - 48) x else None)
unfolding number
number-cons bound b x true e =
    let first : 0 * 10 + digit_value b ≡ b - 48 = let value = value_of_digit b e in omega arith in
    digits_on-cons bound 0 b x true e ∙ ap (λ n. digits_on bound n x) first
number-cons bound b x false e = digits_on-cons bound 0 b x false e

-- Fields.
-- what fields behind a source, a destination or a weight make; a weight that is not given is the one at hand
abbrev after_weight : Option ℕ → Option ℕ → Option ℕ → List (List ℕ) → Meaning
after_weight s t w [] = edge_of s t w
after_weight s t w (f ∷ fs) = Malformed

abbrev after_target : Option ℕ → Option ℕ → ℕ → List (List ℕ) → Meaning
after_target s t w [] = edge_of s t (Some w)
after_target s t w (f ∷ fs) = after_weight s t (number (MAX_WEIGHT + 1) f) fs

abbrev after_source : ℕ → Option ℕ → List (List ℕ) → Meaning
after_source v s [] = Malformed
after_source v s (f ∷ fs) = after_target s (number v f) 1 fs

edge_of_fields-cons : (v : ℕ) (f : List ℕ) (fs : List (List ℕ)) → edge_of_fields v (f ∷ fs) ≡ after_source v (number v f) fs
edge_of_fields-cons v f [] = refl
edge_of_fields-cons v f (t ∷ []) = refl
edge_of_fields-cons v f (t ∷ w ∷ []) = refl
edge_of_fields-cons v f (t ∷ w ∷ x ∷ xs) = refl

no_source : (v : ℕ) (fs : List (List ℕ)) → after_source v None fs ≡ Malformed
no_source v [] = refl
no_source v (t ∷ []) = refl
no_source v (t ∷ w ∷ []) = refl
no_source v (t ∷ w ∷ x ∷ xs) = refl

no_target : (s w : ℕ) (fs : List (List ℕ)) → after_target (Some s) None w fs ≡ Malformed
no_target s w [] = refl
no_target s w (f ∷ []) = refl
no_target s w (f ∷ g ∷ fs) = refl

no_weight : (s t : ℕ) (fs : List (List ℕ)) → after_weight (Some s) (Some t) None fs ≡ Malformed
no_weight s t [] = refl
no_weight s t (f ∷ fs) = refl

-- What a line says that has come to this stage and goes on with the rest x of a part and with more parts.
abbrev most : ℕ
most = MAX_WEIGHT + 1

abbrev goes_on_at : Stage → ℕ → Line → List ℕ → List (List ℕ) → Meaning
goes_on_at Blank v l x more = meaning_of_fields v (filter has_bytes (x ∷ more))
goes_on_at Comment v l x more = Nothing
goes_on_at Source v l x more = after_source v (digits_on v l.number x) (filter has_bytes more)
goes_on_at AfterSource v l x more = after_source v (Some l.source) (filter has_bytes (x ∷ more))
goes_on_at Target v l x more = after_target (Some l.source) (digits_on v l.number x) 1 (filter has_bytes more)
goes_on_at AfterTarget v l x more = after_target (Some l.source) (Some l.target) l.number (filter has_bytes (x ∷ more))
goes_on_at Weight v l x more = after_weight (Some l.source) (Some l.target) (digits_on most l.number x) (filter has_bytes more)
goes_on_at AfterWeight v l x more = after_weight (Some l.source) (Some l.target) (Some l.number) (filter has_bytes (x ∷ more))
goes_on_at BlankReturn v l x more = Malformed
goes_on_at EdgeReturn v l x more = Malformed
goes_on_at Invalid v l x more = Malformed

abbrev goes_on : ℕ → Line → List ℕ → List (List ℕ) → Meaning
goes_on v l x more = goes_on_at l.stage v l x more

-- no carriage return has come
abbrev is_open : Stage → Bool
is_open Blank = true
is_open Comment = true
is_open Source = true
is_open AfterSource = true
is_open Target = true
is_open AfterTarget = true
is_open Weight = true
is_open AfterWeight = true
is_open BlankReturn = false
is_open EdgeReturn = false
is_open Invalid = true

abbrev at : Stage → ℕ → ℕ → ℕ → Line
at stage s t n = record { stage = stage; source = s; target = t; number = n }

-- A separator ends the field.
separator_step : (v : ℕ) (stage : Stage) (s t n : ℕ) (x : List ℕ) (more : List (List ℕ)) (vertex light : Bool)
    → nat_lt n v ≡ vertex → nat_lt n most ≡ light → is_open stage ≡ true
    → goes_on v (at stage s t n) [] (x ∷ more) ≡ goes_on v (with_separator v (at stage s t n)) x more
separator_step v Blank s t n x more vertex light e f o = refl
separator_step v Comment s t n x more vertex light e f o = refl
separator_step v Source s t n x more true light e f o = rw e refl
separator_step v Source s t n x more false light e f o = rw e (no_source v (filter has_bytes (x ∷ more)))
separator_step v AfterSource s t n x more vertex light e f o = refl
separator_step v Target s t n x more true light e f o = rw e refl
separator_step v Target s t n x more false light e f o = rw e (no_target s 1 (filter has_bytes (x ∷ more)))
separator_step v AfterTarget s t n x more vertex light e f o = refl
separator_step v Weight s t n x more vertex true e f o = rw f refl
separator_step v Weight s t n x more vertex false e f o = rw f (no_weight s t (filter has_bytes (x ∷ more)))
separator_step v AfterWeight s t n x more vertex light e f o = refl
separator_step v BlankReturn s t n x more vertex light e f o = absurd (cc)
separator_step v EdgeReturn s t n x more vertex light e f o = absurd (cc)
separator_step v Invalid s t n x more vertex light e f o = refl

-- At the line's end too.
end_step : (v : ℕ) (stage : Stage) (s t n : ℕ) (vertex light : Bool)
    → nat_lt n v ≡ vertex → nat_lt n most ≡ light → is_open stage ≡ true
    → line_end v (at stage s t n) ≡ goes_on v (at stage s t n) [] []
end_step v Blank s t n vertex light e f o = refl
end_step v Comment s t n vertex light e f o = refl
end_step v Source s t n true light e f o = rw e refl
end_step v Source s t n false light e f o = rw e refl
end_step v AfterSource s t n vertex light e f o = refl
end_step v Target s t n true light e f o = rw e refl
end_step v Target s t n false light e f o = rw e refl
end_step v AfterTarget s t n vertex light e f o = refl
end_step v Weight s t n vertex true e f o = rw f refl
end_step v Weight s t n vertex false e f o = rw f refl
end_step v AfterWeight s t n vertex light e f o = refl
end_step v BlankReturn s t n vertex light e f o = absurd (cc)
end_step v EdgeReturn s t n vertex light e f o = absurd (cc)
end_step v Invalid s t n vertex light e f o = refl

-- A carriage return at the line's end changes nothing.
return_at_end : (v : ℕ) (stage : Stage) (s t n : ℕ) (vertex light : Bool)
    → nat_lt n v ≡ vertex → nat_lt n most ≡ light → is_open stage ≡ true
    → line_end v (with_return v (at stage s t n)) ≡ line_end v (at stage s t n)
return_at_end v Blank s t n vertex light e f o = refl
return_at_end v Comment s t n vertex light e f o = refl
return_at_end v Source s t n true light e f o = rw e refl
return_at_end v Source s t n false light e f o = rw e refl
return_at_end v AfterSource s t n vertex light e f o = refl
return_at_end v Target s t n true light e f o = rw e refl
return_at_end v Target s t n false light e f o = rw e refl
return_at_end v AfterTarget s t n vertex light e f o = refl
return_at_end v Weight s t n vertex true e f o = rw f refl
return_at_end v Weight s t n vertex false e f o = rw f refl
return_at_end v AfterWeight s t n vertex light e f o = refl
return_at_end v BlankReturn s t n vertex light e f o = absurd (cc)
return_at_end v EdgeReturn s t n vertex light e f o = absurd (cc)
return_at_end v Invalid s t n vertex light e f o = refl

-- A byte of a field.
abbrev with_byte : Bool → Line → ℕ → Line
with_byte digit l b = if digit then with_digit l (b - 48) else with_other l b

on_number : (v b : ℕ) (x : List ℕ) (digit : Bool) → is_ascii_digit b ≡ digit → (bound : ℕ)
    → (make : Option ℕ → Meaning) → make None ≡ Malformed
    → make (number bound (b ∷ x)) ≡ (if digit then make (digits_on bound (b - 48) x) else Malformed)
on_number v b x true e bound make none = ap make (number-cons bound b x true e)
on_number v b x false e bound make none = ap make (number-cons bound b x false e) ∙ none

on_digits : (n b : ℕ) (x : List ℕ) (digit : Bool) → is_ascii_digit b ≡ digit → (bound : ℕ) → bound ≤ 2 ^ 60
    → (make : Option ℕ → Meaning) → make None ≡ Malformed
    → make (digits_on bound n (b ∷ x)) ≡ (if digit then make (digits_on bound (grown n (b - 48)) x) else Malformed)
on_digits n b x true e bound h make none = ap make (digits_on-byte bound n b x true h e)
on_digits n b x false e bound h make none = ap make (digits_on-byte bound n b x false h e) ∙ none

digit_no_hash : (b : ℕ) → is_ascii_digit b ≡ true → (b == 35) ≡ false
digit_no_hash b e = grind (arith, nat_tests)

hash_no_digit : (b : ℕ) → (b == 35) ≡ true → is_ascii_digit b ≡ false
hash_no_digit b e = grind (arith, nat_tests)

first_step : (v s t n b : ℕ) (x : List ℕ) (more : List (List ℕ)) (digit hash : Bool) → is_ascii_digit b ≡ digit → (b == 35) ≡ hash
    → goes_on v (at Blank s t n) (b ∷ x) more ≡ goes_on v (with_byte digit (at Blank s t n) b) x more
first_step v s t n b x more true true e f = absurd (let no = digit_no_hash b e in cc)
first_step v s t n b x more true false e f =
    rw f (edge_of_fields-cons v (b ∷ x) (filter has_bytes more)
    ∙ on_number v b x true e v (λ r. after_source v r (filter has_bytes more)) (no_source v (filter has_bytes more)))
first_step v s t n b x more false true e f = rw f refl
first_step v s t n b x more false false e f =
    rw f (edge_of_fields-cons v (b ∷ x) (filter has_bytes more)
    ∙ on_number v b x false e v (λ r. after_source v r (filter has_bytes more)) (no_source v (filter has_bytes more)))

field_step : (v : ℕ) → v ≤ 2 ^ 60 → (stage : Stage) (s t n b : ℕ) (x : List ℕ) (more : List (List ℕ)) (digit : Bool)
    → is_ascii_digit b ≡ digit → is_open stage ≡ true
    → goes_on v (at stage s t n) (b ∷ x) more ≡ goes_on v (with_byte digit (at stage s t n) b) x more
field_step v h Blank s t n b x more digit e o = first_step v s t n b x more digit (b == 35) e refl
field_step v h Comment s t n b x more true e o = refl
field_step v h Comment s t n b x more false e o = refl
field_step v h Source s t n b x more true e o =
    on_digits n b x true e v h (λ r. after_source v r (filter has_bytes more)) (no_source v (filter has_bytes more))
field_step v h Source s t n b x more false e o =
    on_digits n b x false e v h (λ r. after_source v r (filter has_bytes more)) (no_source v (filter has_bytes more))
field_step v h AfterSource s t n b x more true e o =
    on_number v b x true e v (λ r. after_target (Some s) r 1 (filter has_bytes more)) (no_target s 1 (filter has_bytes more))
field_step v h AfterSource s t n b x more false e o =
    on_number v b x false e v (λ r. after_target (Some s) r 1 (filter has_bytes more)) (no_target s 1 (filter has_bytes more))
field_step v h Target s t n b x more true e o =
    on_digits n b x true e v h (λ r. after_target (Some s) r 1 (filter has_bytes more)) (no_target s 1 (filter has_bytes more))
field_step v h Target s t n b x more false e o =
    on_digits n b x false e v h (λ r. after_target (Some s) r 1 (filter has_bytes more)) (no_target s 1 (filter has_bytes more))
field_step v h AfterTarget s t n b x more true e o =
    on_number v b x true e most (λ r. after_weight (Some s) (Some t) r (filter has_bytes more)) (no_weight s t (filter has_bytes more))
field_step v h AfterTarget s t n b x more false e o =
    on_number v b x false e most (λ r. after_weight (Some s) (Some t) r (filter has_bytes more)) (no_weight s t (filter has_bytes more))
field_step v h Weight s t n b x more true e o =
    on_digits n b x true e most (omega arith) (λ r. after_weight (Some s) (Some t) r (filter has_bytes more)) (no_weight s t (filter has_bytes more))
field_step v h Weight s t n b x more false e o =
    on_digits n b x false e most (omega arith) (λ r. after_weight (Some s) (Some t) r (filter has_bytes more)) (no_weight s t (filter has_bytes more))
field_step v h AfterWeight s t n b x more true e o = refl
field_step v h AfterWeight s t n b x more false e o = refl
field_step v h BlankReturn s t n b x more digit e o = absurd (cc)
field_step v h EdgeReturn s t n b x more digit e o = absurd (cc)
field_step v h Invalid s t n b x more true e o = refl
field_step v h Invalid s t n b x more false e o = refl

-- Neither closes the line.
open_separator : (v : ℕ) (stage : Stage) (s t n : ℕ) (vertex light : Bool)
    → nat_lt n v ≡ vertex → nat_lt n most ≡ light → is_open stage ≡ true
    → is_open (with_separator v (at stage s t n)).stage ≡ true
open_separator v Blank s t n vertex light e f o = refl
open_separator v Comment s t n vertex light e f o = refl
open_separator v Source s t n true light e f o = rw e refl
open_separator v Source s t n false light e f o = rw e refl
open_separator v AfterSource s t n vertex light e f o = refl
open_separator v Target s t n true light e f o = rw e refl
open_separator v Target s t n false light e f o = rw e refl
open_separator v AfterTarget s t n vertex light e f o = refl
open_separator v Weight s t n vertex true e f o = rw f refl
open_separator v Weight s t n vertex false e f o = rw f refl
open_separator v AfterWeight s t n vertex light e f o = refl
open_separator v BlankReturn s t n vertex light e f o = absurd (cc)
open_separator v EdgeReturn s t n vertex light e f o = absurd (cc)
open_separator v Invalid s t n vertex light e f o = refl

open_digit : (stage : Stage) (s t n d : ℕ) → is_open (with_digit (at stage s t n) d).stage ≡ true
open_digit Blank s t n d = refl
open_digit Comment s t n d = refl
open_digit Source s t n d = refl
open_digit AfterSource s t n d = refl
open_digit Target s t n d = refl
open_digit AfterTarget s t n d = refl
open_digit Weight s t n d = refl
open_digit AfterWeight s t n d = refl
open_digit BlankReturn s t n d = refl
open_digit EdgeReturn s t n d = refl
open_digit Invalid s t n d = refl

open_other : (stage : Stage) (s t n b : ℕ) (hash : Bool) → (b == 35) ≡ hash → is_open (with_other (at stage s t n) b).stage ≡ true
open_other Blank s t n b true e = rw e refl
open_other Blank s t n b false e = rw e refl
open_other Comment s t n b hash e = refl
open_other Source s t n b hash e = refl
open_other AfterSource s t n b hash e = refl
open_other Target s t n b hash e = refl
open_other AfterTarget s t n b hash e = refl
open_other Weight s t n b hash e = refl
open_other AfterWeight s t n b hash e = refl
open_other BlankReturn s t n b hash e = refl
open_other EdgeReturn s t n b hash e = refl
open_other Invalid s t n b hash e = refl

-- Parts of a content.
abbrev parts_go_on : ℕ → Line → List (List ℕ) → Meaning
parts_go_on v l [] = Malformed
parts_go_on v l (x ∷ more) = goes_on v l x more

plain_step : (v : ℕ) → v ≤ 2 ^ 60 → (l : Line) (b : ℕ) (ps : List (List ℕ)) (cut : Bool) → is_separator b ≡ cut
    → has_parts ps ≡ true → is_open l.stage ≡ true
    → parts_go_on v l (cond cut ([] ∷ ps) (onto_first b ps)) ≡ parts_go_on v (line_after_plain v l b) ps
plain_step v h l b [] cut e p o = absurd (cc)
plain_step v h l b (x ∷ more) true e p o =
    rw e (separator_step v l.stage l.source l.target l.number x more (nat_lt l.number v) (nat_lt l.number most) refl refl o)
plain_step v h l b (x ∷ more) false e p o =
    rw e (field_step v h l.stage l.source l.target l.number b x more (is_ascii_digit b) refl o)

open_plain : (v : ℕ) (l : Line) (b : ℕ) (cut digit : Bool) → is_separator b ≡ cut → is_ascii_digit b ≡ digit → is_open l.stage ≡ true
    → is_open (line_after_plain v l b).stage ≡ true
open_plain v l b true digit e f o =
    rw e (open_separator v l.stage l.source l.target l.number (nat_lt l.number v) (nat_lt l.number most) refl refl o)
open_plain v l b false true e f o = rw e (rw f (open_digit l.stage l.source l.target l.number (b - 48)))
open_plain v l b false false e f o = rw e (rw f (open_other l.stage l.source l.target l.number b (b == 35) refl))

ends : (v : ℕ) (l : Line) → is_open l.stage ≡ true → line_end v l ≡ goes_on v l [] []
ends v l o = end_step v l.stage l.source l.target l.number (nat_lt l.number v) (nat_lt l.number most) refl refl o

-- A carriage return that is not the last byte.
cond_same : {X : Type 0} (a b c : Bool) (x : X) → cond a x (cond b x (cond c x x)) ≡ x
cond_same true b c x = refl
cond_same false true c x = refl
cond_same false false true x = refl
cond_same false false false x = refl

invalid_stays : (v s t n c : ℕ) → line_after v (at Invalid s t n) c ≡ at Invalid s t n
invalid_stays v s t n c = cond_same (c == 13) (is_separator c) (is_ascii_digit c) (at Invalid s t n)

comment_stays : (v s t n c : ℕ) → line_after v (at Comment s t n) c ≡ at Comment s t n
comment_stays v s t n c = cond_same (c == 13) (is_separator c) (is_ascii_digit c) (at Comment s t n)

fold_stays : (f : Line → ℕ → Line) (l : Line) (bytes : List ℕ) → ((c : ℕ) → f l c ≡ l) → fold f l bytes ≡ l
fold_stays f l [] h = refl
fold_stays f l (c ∷ bytes) h = ap (λ m. fold f m bytes) (h c) ∙ fold_stays f l bytes h

-- only malformed lines go on behind a return
closed_step : (v : ℕ) (stage : Stage) (s t n c : ℕ) → is_open stage ≡ false → line_after v (at stage s t n) c ≡ at Invalid s t n
closed_step v Blank s t n c o = absurd (cc)
closed_step v Comment s t n c o = absurd (cc)
closed_step v Source s t n c o = absurd (cc)
closed_step v AfterSource s t n c o = absurd (cc)
closed_step v Target s t n c o = absurd (cc)
closed_step v AfterTarget s t n c o = absurd (cc)
closed_step v Weight s t n c o = absurd (cc)
closed_step v AfterWeight s t n c o = absurd (cc)
closed_step v BlankReturn s t n c o = cond_same (c == 13) (is_separator c) (is_ascii_digit c) (at Invalid s t n)
closed_step v EdgeReturn s t n c o = cond_same (c == 13) (is_separator c) (is_ascii_digit c) (at Invalid s t n)
closed_step v Invalid s t n c o = absurd (cc)

-- what a line says that goes on behind a carriage return
abbrev said_past_return : Stage → Meaning
said_past_return Blank = Malformed
said_past_return Comment = Nothing
said_past_return Source = Malformed
said_past_return AfterSource = Malformed
said_past_return Target = Malformed
said_past_return AfterTarget = Malformed
said_past_return Weight = Malformed
said_past_return AfterWeight = Malformed
said_past_return BlankReturn = Malformed
said_past_return EdgeReturn = Malformed
said_past_return Invalid = Malformed

past_invalid : (v s t n c : ℕ) (bytes : List ℕ) → line_end v (fold (line_after v) (at Invalid s t n) bytes) ≡ Malformed
past_invalid v s t n c bytes = rw (fold_stays (line_after v) (at Invalid s t n) bytes (invalid_stays v s t n)) refl

past_comment : (v s t n c : ℕ) (bytes : List ℕ) → line_end v (fold (line_after v) (at Comment s t n) bytes) ≡ Nothing
past_comment v s t n c bytes = rw (fold_stays (line_after v) (at Comment s t n) bytes (comment_stays v s t n)) refl

past_closed : (v : ℕ) (stage : Stage) (s t n c : ℕ) (bytes : List ℕ) → is_open stage ≡ false
    → line_end v (fold (line_after v) (at stage s t n) (c ∷ bytes)) ≡ Malformed
past_closed v stage s t n c bytes o =
    ap (λ l. line_end v (fold (line_after v) l bytes)) (closed_step v stage s t n c o) ∙ past_invalid v s t n c bytes

past_return : (v : ℕ) (stage : Stage) (s t n c : ℕ) (bytes : List ℕ) (vertex light : Bool)
    → nat_lt n v ≡ vertex → nat_lt n most ≡ light → is_open stage ≡ true
    → line_end v (fold (line_after v) (with_return v (at stage s t n)) (c ∷ bytes)) ≡ said_past_return stage
past_return v Blank s t n c bytes vertex light e f o = past_closed v BlankReturn s t n c bytes refl
past_return v Comment s t n c bytes vertex light e f o = past_comment v s t n c (c ∷ bytes)
past_return v Source s t n c bytes true light e f o = rw e (past_invalid v n t n c (c ∷ bytes))
past_return v Source s t n c bytes false light e f o = rw e (past_invalid v s t n c (c ∷ bytes))
past_return v AfterSource s t n c bytes vertex light e f o = past_invalid v s t n c (c ∷ bytes)
past_return v Target s t n c bytes true light e f o = rw e (past_closed v EdgeReturn s n 1 c bytes refl)
past_return v Target s t n c bytes false light e f o = rw e (past_invalid v s t n c (c ∷ bytes))
past_return v AfterTarget s t n c bytes vertex light e f o = past_closed v EdgeReturn s t n c bytes refl
past_return v Weight s t n c bytes vertex true e f o = rw f (past_closed v EdgeReturn s t n c bytes refl)
past_return v Weight s t n c bytes vertex false e f o = rw f (past_invalid v s t n c (c ∷ bytes))
past_return v AfterWeight s t n c bytes vertex light e f o = past_closed v EdgeReturn s t n c bytes refl
past_return v BlankReturn s t n c bytes vertex light e f o = absurd (cc)
past_return v EdgeReturn s t n c bytes vertex light e f o = absurd (cc)
past_return v Invalid s t n c bytes vertex light e f o = past_invalid v s t n c (c ∷ bytes)

-- the same by the definition, where the return is a byte of a field
return_in_field : (v : ℕ) (stage : Stage) (s t n : ℕ) (x : List ℕ) (more : List (List ℕ))
    → is_open stage ≡ true → goes_on v (line_after_plain v (at stage s t n) 13) x more ≡ said_past_return stage
return_in_field v Blank s t n x more o = refl
return_in_field v Comment s t n x more o = refl
return_in_field v Source s t n x more o = refl
return_in_field v AfterSource s t n x more o = refl
return_in_field v Target s t n x more o = refl
return_in_field v AfterTarget s t n x more o = refl
return_in_field v Weight s t n x more o = refl
return_in_field v AfterWeight s t n x more o = refl
return_in_field v BlankReturn s t n x more o = absurd (cc)
return_in_field v EdgeReturn s t n x more o = absurd (cc)
return_in_field v Invalid s t n x more o = refl

return_in_parts : (v : ℕ) (l : Line) (ps : List (List ℕ)) → has_parts ps ≡ true → is_open l.stage ≡ true
    → parts_go_on v (line_after_plain v l 13) ps ≡ said_past_return l.stage
return_in_parts v l [] p o = absurd (cc)
return_in_parts v l (x ∷ more) p o = return_in_field v l.stage l.source l.target l.number x more o

-- The line without the return at its end.
strip_one : (b : ℕ) (return : Bool) → (b == 13) ≡ return → strip_carriage_return (b ∷ []) ≡ (if return then [] else b ∷ [])
strip_one b true e = rw e refl
strip_one b false e = rw e refl

strip_at : (xs : List ℕ) (k : ℕ) → length xs ≡ suc k → strip_carriage_return xs ≡ (if get_or xs k 0 == 13 then take k xs else xs)
strip_at xs k e = let last : length xs - 1 ≡ k = omega arith in rw last refl

cond_cons : (t : Bool) (b : ℕ) (xs ys : List ℕ) → cond t (b ∷ xs) (b ∷ ys) ≡ b ∷ cond t xs ys
cond_cons true b xs ys = refl
cond_cons false b xs ys = refl

strip_cons : (b c : ℕ) (bytes : List ℕ) → strip_carriage_return (b ∷ c ∷ bytes) ≡ b ∷ strip_carriage_return (c ∷ bytes)
strip_cons b c bytes =
    strip_at (b ∷ c ∷ bytes) (suc (length bytes)) refl
    ∙ cond_cons (get_or (c ∷ bytes) (length bytes) 0 == 13) b (take (length bytes) (c ∷ bytes)) (c ∷ bytes)
    ∙ ap (λ xs. b ∷ xs) (sym (strip_at (c ∷ bytes) (length bytes) refl))

after_return : (v : ℕ) (l : Line) (b : ℕ) → (b == 13) ≡ true → line_after v l b ≡ with_return v l
after_return v l b e = rw e refl

after_plain : (v : ℕ) (l : Line) (b : ℕ) → (b == 13) ≡ false → line_after v l b ≡ line_after_plain v l b
after_plain v l b e = rw e refl

-- **What a line says that goes on with these bytes.**
abbrev Says : ℕ → Line → List ℕ → Type 0
Says v l bytes = line_end v (fold (line_after v) l bytes) ≡ parts_go_on v l (slice_split is_separator (strip_carriage_return bytes))

says_last : (v : ℕ) → v ≤ 2 ^ 60 → (l : Line) (b : ℕ) (return : Bool) → (b == 13) ≡ return → is_open l.stage ≡ true → Says v l (b ∷ [])
says_last v h l b true e o =
    rw (strip_one b true e) (rw e
    (return_at_end v l.stage l.source l.target l.number (nat_lt l.number v) (nat_lt l.number most) refl refl o ∙ ends v l o))
says_last v h l b false e o =
    let open_still = open_plain v l b (is_separator b) (is_ascii_digit b) refl refl o in
    rw (strip_one b false e) (rw e
    (ends v (line_after_plain v l b) open_still
    ∙ sym (plain_step v h l b ([] ∷ []) (is_separator b) refl refl o)))

says_more : (v : ℕ) → v ≤ 2 ^ 60 → (l : Line) (b c : ℕ) (bytes : List ℕ) (return : Bool) → (b == 13) ≡ return → is_open l.stage ≡ true
    → Says v (line_after_plain v l b) (c ∷ bytes) → Says v l (b ∷ c ∷ bytes)
says_more v h l b c bytes true e o more =
    let ps : List (List ℕ) = slice_split is_separator (strip_carriage_return (c ∷ bytes)) in
    let some : has_parts ps ≡ true = split_parts is_separator (strip_carriage_return (c ∷ bytes)) in
    let is_return : b ≡ 13 = grind (arith, nat_tests) in
    ap (λ m. line_end v (fold (line_after v) m (c ∷ bytes))) (after_return v l b e)
    ∙ past_return v l.stage l.source l.target l.number c bytes (nat_lt l.number v) (nat_lt l.number most) refl refl o
    ∙ sym (return_in_parts v l ps some o)
    ∙ sym (ap (λ k. parts_go_on v (line_after_plain v l k) ps) is_return)
    ∙ sym (plain_step v h l b ps (is_separator b) refl some o)
    ∙ sym (ap (λ xs. parts_go_on v l (slice_split is_separator xs)) (strip_cons b c bytes))
says_more v h l b c bytes false e o more =
    let ps : List (List ℕ) = slice_split is_separator (strip_carriage_return (c ∷ bytes)) in
    let some : has_parts ps ≡ true = split_parts is_separator (strip_carriage_return (c ∷ bytes)) in
    ap (λ m. line_end v (fold (line_after v) m (c ∷ bytes))) (after_plain v l b e)
    ∙ more
    ∙ sym (plain_step v h l b ps (is_separator b) refl some o)
    ∙ sym (ap (λ xs. parts_go_on v l (slice_split is_separator xs)) (strip_cons b c bytes))

says : (v : ℕ) → v ≤ 2 ^ 60 → (bytes : List ℕ) (l : Line) → is_open l.stage ≡ true → Says v l bytes
says v h [] l o = ends v l o
says v h (b ∷ []) l o = says_last v h l b (b == 13) refl o
says v h (b ∷ c ∷ bytes) l o =
    says_more v h l b c bytes (b == 13) refl o
    (says v h (c ∷ bytes) (line_after_plain v l b) (open_plain v l b (is_separator b) (is_ascii_digit b) refl refl o))

blank_parts : (v : ℕ) (ps : List (List ℕ)) → has_parts ps ≡ true → parts_go_on v empty_line ps ≡ meaning_of_fields v (filter has_bytes ps)
blank_parts v [] p = absurd (cc)
blank_parts v (x ∷ more) p = refl

-- **The bytes of a line, one at a time, give what the line says.**
pub line_end-line_of : (v : ℕ) (line : List ℕ) → v ≤ 2 ^ 60 → line_end v (line_of v line) ≡ meaning v line
unfolding meaning
line_end-line_of v line h =
    says v h line empty_line refl
    ∙ blank_parts v (slice_split is_separator (strip_carriage_return line)) (split_parts is_separator (strip_carriage_return line))

-- One more byte of a line.
pub line_of-push : (v : ℕ) (line : List ℕ) (b : ℕ) → line_of v (line ++ b ∷ []) ≡ line_after v (line_of v line) b
line_of-push v line b = fold-append (line_after v) empty_line line (b ∷ [])
