-- General facts about the definitions of the edge text: texts that go on, lists of lines, and refusals.
use Rattle.std.proofs.Common.{◌≡◌, ℕ, zero, suc, ◌&&◌, if◌then◌else◌, ◌+◌, ◌<◌, ◌≤◌, List, [], ◌∷◌, ◌++◌, length, take, Bool, true, false, cond, nat_lt, nat_le, Option, Some, None, refl, sym, ◌∙◌, ap, append_assoc, arith, length-append}
use Rattle.std.specs.List.{slice_split, onto_first, list_all, All}
use Rattle.std.specs.Char.{is_ascii_digit}
use Rattle.std.specs.Str.Parse.{digits_value}
use Rattle.graph_model.specs.declared.edge.TheConstants.{MAX_WEIGHT}
use Rattle.std.specs.Option.{option_map, IfSome}
use Rattle.std.proofs.lemmas.Bool.Decides.{nat_tests}
use Rattle.std.proofs.lemmas.Grind.{flat_map-append}
use Rattle.std.proofs.lemmas.List.{append-nil, take_all, take-append-le}
use Rattle.std.proofs.lemmas.List.Elements.{All-append}
use Rattle.graph_model.specs.declared.edge.Edge.{Edge}
use Rattle.graph_model.specs.declared.edge.Meaning.TheVariants.{Nothing}
use Rattle.graph_model.specs.declared.edge.TextFault.{TextFault}
use Rattle.graph_model.specs.EdgeText.{is_line_feed, parts, all_but_last, last_of, ended_lines, last_part, last_line, lines, number, has_bytes, edge_of, edge_of_fields, begins_comment, fields, meaning_of_fields, meaning, directions, edges_said, edges_of_lines, is_malformed, first_malformed, refused_for, refusal_so_far, lines_within, refusal}
use Rattle.std.specs.Str.Lines.{strip_carriage_return}

-- Parts: there is always one.
abbrev pub has_parts : List (List ℕ) → Bool
has_parts [] = false
has_parts (x ∷ more) = true

onto_first_parts : (b : ℕ) (ps : List (List ℕ)) → has_parts (onto_first b ps) ≡ true
onto_first_parts b [] = refl
onto_first_parts b (x ∷ more) = refl

split_step_parts : (cut : Bool) (b : ℕ) (ps : List (List ℕ)) → has_parts (cond cut ([] ∷ ps) (onto_first b ps)) ≡ true
split_step_parts true b ps = refl
split_step_parts false b ps = onto_first_parts b ps

pub split_parts : (p : ℕ → Bool) (xs : List ℕ) → has_parts (slice_split p xs) ≡ true
split_parts p [] = refl
split_parts p (x ∷ xs) = split_step_parts (p x) x (slice_split p xs)

-- The parts of a text with one more byte.
abbrev onto_last : ℕ → List (List ℕ) → List (List ℕ)
onto_last b [] = (b ∷ []) ∷ []
onto_last b (x ∷ []) = (x ++ b ∷ []) ∷ []
onto_last b (x ∷ y ∷ ys) = x ∷ onto_last b (y ∷ ys)

abbrev pushed : Bool → ℕ → List (List ℕ) → List (List ℕ)
pushed cut b ps = cond cut (ps ++ [] ∷ []) (onto_last b ps)

pushed_step : (cut new : Bool) (a b : ℕ) (ps : List (List ℕ)) → has_parts ps ≡ true
    → cond cut ([] ∷ pushed new b ps) (onto_first a (pushed new b ps)) ≡ pushed new b (cond cut ([] ∷ ps) (onto_first a ps))
pushed_step cut new a b [] p = absurd (cc)
pushed_step true true a b (x ∷ more) p = refl
pushed_step true false a b (x ∷ more) p = refl
pushed_step false true a b (x ∷ more) p = refl
pushed_step false false a b (x ∷ []) p = refl
pushed_step false false a b (x ∷ y ∷ more) p = refl

pushed_nil : (cut : Bool) (b : ℕ) → cond cut ([] ∷ [] ∷ []) (onto_first b ([] ∷ [])) ≡ pushed cut b ([] ∷ [])
pushed_nil true b = refl
pushed_nil false b = refl

slice_split-push : (p : ℕ → Bool) (xs : List ℕ) (b : ℕ) → slice_split p (xs ++ b ∷ []) ≡ pushed (p b) b (slice_split p xs)
slice_split-push p [] b = pushed_nil (p b) b
slice_split-push p (a ∷ xs) b =
    ap (λ ps. cond (p a) ([] ∷ ps) (onto_first a ps)) (slice_split-push p xs b)
    ∙ pushed_step (p a) (p b) a b (slice_split p xs) (split_parts p xs)

all_but_last-new : (ps : List (List ℕ)) → has_parts ps ≡ true → all_but_last (ps ++ [] ∷ []) ≡ all_but_last ps ++ last_of ps ∷ []
all_but_last-new [] p = absurd (cc)
all_but_last-new (x ∷ []) p = refl
all_but_last-new (x ∷ y ∷ more) p = ap (λ ls. x ∷ ls) (all_but_last-new (y ∷ more) refl)

last_of-new : (ps : List (List ℕ)) → has_parts ps ≡ true → last_of (ps ++ [] ∷ []) ≡ []
last_of-new [] p = absurd (cc)
last_of-new (x ∷ []) p = refl
last_of-new (x ∷ y ∷ more) p = last_of-new (y ∷ more) refl

all_but_last-longer : (b : ℕ) (ps : List (List ℕ)) → has_parts ps ≡ true → all_but_last (onto_last b ps) ≡ all_but_last ps
all_but_last-longer b [] p = absurd (cc)
all_but_last-longer b (x ∷ []) p = refl
all_but_last-longer b (x ∷ y ∷ []) p = refl
all_but_last-longer b (x ∷ y ∷ z ∷ more) p = ap (λ ls. x ∷ ls) (all_but_last-longer b (y ∷ z ∷ more) refl)

last_of-longer : (b : ℕ) (ps : List (List ℕ)) → has_parts ps ≡ true → last_of (onto_last b ps) ≡ last_of ps ++ b ∷ []
last_of-longer b [] p = absurd (cc)
last_of-longer b (x ∷ []) p = refl
last_of-longer b (x ∷ y ∷ []) p = refl
last_of-longer b (x ∷ y ∷ z ∷ more) p = last_of-longer b (y ∷ z ∷ more) refl

-- A line feed ends the line.
pub ended_lines-feed : (text : List ℕ) → ended_lines (text ++ 10 ∷ []) ≡ ended_lines text ++ last_part text ∷ []
unfolding ended_lines last_part
ended_lines-feed text =
    ap all_but_last (slice_split-push is_line_feed text 10) ∙ all_but_last-new (parts text) (split_parts is_line_feed text)

pub last_part-feed : (text : List ℕ) → last_part (text ++ 10 ∷ []) ≡ []
unfolding last_part
last_part-feed text = ap last_of (slice_split-push is_line_feed text 10) ∙ last_of-new (parts text) (split_parts is_line_feed text)

-- Any other byte goes on with it.
pub ended_lines-byte : (text : List ℕ) (b : ℕ) → is_line_feed b ≡ false → ended_lines (text ++ b ∷ []) ≡ ended_lines text
unfolding ended_lines
ended_lines-byte text b e =
    ap all_but_last (slice_split-push is_line_feed text b ∙ ap (λ cut. pushed cut b (parts text)) e)
    ∙ all_but_last-longer b (parts text) (split_parts is_line_feed text)

pub last_part-byte : (text : List ℕ) (b : ℕ) → is_line_feed b ≡ false → last_part (text ++ b ∷ []) ≡ last_part text ++ b ∷ []
unfolding last_part
last_part-byte text b e =
    ap last_of (slice_split-push is_line_feed text b ∙ ap (λ cut. pushed cut b (parts text)) e)
    ∙ last_of-longer b (parts text) (split_parts is_line_feed text)

-- The empty text.
pub ended_lines-nil : ended_lines [] ≡ []
unfolding ended_lines
ended_lines-nil = refl

pub last_part-nil : last_part [] ≡ []
unfolding last_part
last_part-nil = refl

pub edges_of_nothing : (vertices : ℕ) (both : Bool) → edges_of_lines vertices both (ended_lines []) ≡ []
unfolding edges_of_lines ended_lines
edges_of_nothing vertices both = refl

-- The lines that have ended stay when the text goes on.
is_feed : (b : ℕ) → is_line_feed b ≡ true → b ≡ 10
is_feed b e = grind (arith, nat_tests)

ended_lines-push : (text : List ℕ) (b : ℕ) (feed : Bool) → is_line_feed b ≡ feed
    → (ls : List (List ℕ)) × (ended_lines (text ++ b ∷ []) ≡ ended_lines text ++ ls)
ended_lines-push text b true e =
    (last_part text ∷ [], ap (λ k. ended_lines (text ++ k ∷ [])) (is_feed b e) ∙ ended_lines-feed text)
ended_lines-push text b false e = ([], ended_lines-byte text b e ∙ sym (append-nil (ended_lines text)))

pub ended_lines-append : (text more : List ℕ) → (ls : List (List ℕ)) × (ended_lines (text ++ more) ≡ ended_lines text ++ ls)
ended_lines-append text [] = ([], ap ended_lines (append-nil text) ∙ sym (append-nil (ended_lines text)))
ended_lines-append text (b ∷ more) =
    let first = ended_lines-push text b (is_line_feed b) refl in
    let rest = ended_lines-append (text ++ b ∷ []) more in (
      first.0 ++ rest.0,
      ap ended_lines (sym (append_assoc text (b ∷ []) more)) ∙ rest.1 ∙ ap (λ ls. ls ++ rest.0) first.1
          ∙ append_assoc (ended_lines text) first.0 rest.0,
    )

-- There are no more lines than bytes.
abbrev counted : List (List ℕ) → ℕ
counted ps = length (all_but_last ps) + length (last_of ps)

counted_step : (cut : Bool) (b : ℕ) (ps : List (List ℕ)) → has_parts ps ≡ true → counted (cond cut ([] ∷ ps) (onto_first b ps)) ≤ counted ps + 1
counted_step cut b [] p = absurd (cc)
counted_step true b (x ∷ more) p = omega arith
counted_step false b (x ∷ []) p = omega arith
counted_step false b (x ∷ y ∷ more) p = omega arith

counted_split : (p : ℕ → Bool) (xs : List ℕ) → counted (slice_split p xs) ≤ length xs
counted_split p [] = omega arith
counted_split p (x ∷ xs) =
    let first = counted_step (p x) x (slice_split p xs) (split_parts p xs) in
    let rest = counted_split p xs in
    omega arith

pub length-ended_lines-le : (text : List ℕ) → length (ended_lines text) ≤ length text
unfolding ended_lines
length-ended_lines-le text = let count = counted_split is_line_feed text in omega arith

length-last_line-le : (last : List ℕ) → length (last_line last) ≤ length last
length-last_line-le [] = omega arith
length-last_line-le (b ∷ bs) = omega arith

pub length-lines-le : (text : List ℕ) → length (lines text) ≤ length text
unfolding ended_lines last_part
length-lines-le text =
    let count = counted_split is_line_feed text in
    let last = length-last_line-le (last_part text) in
    let both = length-append (ended_lines text) (last_line (last_part text)) in
    omega arith

-- Edges of lists of lines.
pub edges_of_lines-append : (vertices : ℕ) (both : Bool) (xs ys : List (List ℕ))
    → edges_of_lines vertices both (xs ++ ys) ≡ edges_of_lines vertices both xs ++ edges_of_lines vertices both ys
unfolding edges_of_lines
edges_of_lines-append vertices both xs ys = flat_map-append (λ line. edges_said both (meaning vertices line)) xs ys

pub edges_of_lines-nil : (vertices : ℕ) (both : Bool) → edges_of_lines vertices both [] ≡ []
unfolding edges_of_lines
edges_of_lines-nil vertices both = refl

pub edges_of_lines-one : (vertices : ℕ) (both : Bool) (line : List ℕ)
    → edges_of_lines vertices both (line ∷ []) ≡ edges_said both (meaning vertices line)
unfolding edges_of_lines
edges_of_lines-one vertices both line = append-nil (edges_said both (meaning vertices line))

-- the edges of the lines that have ended stay too
pub edges_of_ended-append : (vertices : ℕ) (both : Bool) (text more : List ℕ) → (es : List Edge)
    × (edges_of_lines vertices both (ended_lines (text ++ more)) ≡ edges_of_lines vertices both (ended_lines text) ++ es)
edges_of_ended-append vertices both text more =
    let ended = ended_lines-append text more in (
      edges_of_lines vertices both ended.0,
      ap (edges_of_lines vertices both) ended.1 ∙ edges_of_lines-append vertices both (ended_lines text) ended.0,
    )

-- The first malformed line is among the first lines, or comes after them.
pub first_malformed-cons : (vertices : ℕ) (line : List ℕ) (ls : List (List ℕ)) → first_malformed vertices (line ∷ ls)
    ≡ cond (is_malformed (meaning vertices line)) (Some 1) (option_map (λ k. k + 1) (first_malformed vertices ls))
unfolding first_malformed
first_malformed-cons vertices line ls = refl

pub first_malformed-nil : (vertices : ℕ) → first_malformed vertices [] ≡ None
unfolding first_malformed
first_malformed-nil vertices = refl

append_step : (bad : Bool) (k : ℕ) (a b : Option ℕ) → ((j : ℕ) → a ≡ Some j → b ≡ Some j)
    → cond bad (Some 1) (option_map (λ j. j + 1) a) ≡ Some k → cond bad (Some 1) (option_map (λ j. j + 1) b) ≡ Some k
append_step true k a b same e = e
append_step false k None b same e = absurd (cc)
append_step false k (Some j) b same e = ap (option_map (λ j. j + 1)) (same j refl) ∙ e

pub first_malformed-append_some : (vertices k : ℕ) (xs ys : List (List ℕ)) → first_malformed vertices xs ≡ Some k
    → first_malformed vertices (xs ++ ys) ≡ Some k
unfolding first_malformed
first_malformed-append_some vertices k [] ys e = absurd (cc)
first_malformed-append_some vertices k (line ∷ xs) ys e =
    append_step (is_malformed (meaning vertices line)) k (first_malformed vertices xs) (first_malformed vertices (xs ++ ys))
    (λ j h. first_malformed-append_some vertices j xs ys h) e

none_step : (bad : Bool) (a : Option ℕ) → cond bad (Some 1) (option_map (λ j. j + 1) a) ≡ None → (bad ≡ false) × (a ≡ None)
none_step true a e = absurd (cc)
none_step false None e = (refl, refl)
none_step false (Some j) e = absurd (cc)

from_first : (a : Option ℕ) → a ≡ option_map (λ k. 0 + k) a
from_first None = refl
from_first (Some k) = let e : k ≡ 0 + k = omega arith in ap Some e

from_next : (n : ℕ) (a : Option ℕ) → option_map (λ k. k + 1) (option_map (λ k. n + k) a) ≡ option_map (λ k. suc n + k) a
from_next n None = refl
from_next n (Some k) = let e : (n + k) + 1 ≡ suc n + k = omega arith in ap Some e

pub first_malformed-append_none : (vertices : ℕ) (xs ys : List (List ℕ)) → first_malformed vertices xs ≡ None
    → first_malformed vertices (xs ++ ys) ≡ option_map (λ k. length xs + k) (first_malformed vertices ys)
unfolding first_malformed
first_malformed-append_none vertices [] ys e = from_first (first_malformed vertices ys)
first_malformed-append_none vertices (line ∷ xs) ys e =
    let good = none_step (is_malformed (meaning vertices line)) (first_malformed vertices xs) e in
    ap (λ bad. cond bad (Some 1) (option_map (λ k. k + 1) (first_malformed vertices (xs ++ ys)))) good.0
    ∙ ap (option_map (λ k. k + 1)) (first_malformed-append_none vertices xs ys good.1)
    ∙ from_next (length xs) (first_malformed vertices ys)

some_step : (bad : Bool) (a : Option ℕ) (k n : ℕ) → ((j : ℕ) → a ≡ Some j → j ≤ n)
    → cond bad (Some 1) (option_map (λ j. j + 1) a) ≡ Some k → k ≤ n + 1
some_step true a k n below e = let one : k ≡ 1 = cc in omega arith
some_step false None k n below e = absurd (cc)
some_step false (Some j) k n below e = let last = below j refl in let next : k ≡ j + 1 = cc in omega arith

-- its number is among those of the lines
pub first_malformed-le : (vertices k : ℕ) (ls : List (List ℕ)) → first_malformed vertices ls ≡ Some k → k ≤ length ls
unfolding first_malformed
first_malformed-le vertices k [] e = absurd (cc)
first_malformed-le vertices k (line ∷ ls) e =
    let few = some_step (is_malformed (meaning vertices line)) (first_malformed vertices ls) k (length ls)
    (λ j h. first_malformed-le vertices j ls h) e in
    omega arith

-- The bytes within the limit stay when the text goes on.
take_goes_on : (limit : ℕ) (text more : List ℕ) → (rest : List ℕ) × (take limit (text ++ more) ≡ take limit text ++ rest)
take_goes_on zero text more = ([], refl)
take_goes_on (suc limit) [] more = (take (suc limit) more, refl)
take_goes_on (suc limit) (b ∷ text) more =
    let rest = take_goes_on limit text more in (rest.0, ap (λ bytes. b ∷ bytes) rest.1)

ended_within : (limit : ℕ) (text more : List ℕ)
    → (ls : List (List ℕ)) × (ended_lines (take limit (text ++ more)) ≡ ended_lines (take limit text) ++ ls)
ended_within limit text more =
    let bytes = take_goes_on limit text more in
    let ended = ended_lines-append (take limit text) bytes.0 in
    (ended.0, ap ended_lines bytes.1 ∙ ended.1)

-- and so do the lines within it
lines_within-append : (limit : ℕ) (text more : List ℕ) (short : Bool) → nat_le (length (text ++ more)) limit ≡ short
    → (ls : List (List ℕ)) × (lines_within limit (text ++ more) ≡ ended_lines (take limit text) ++ ls)
lines_within-append limit text more true e =
    let fits : length text ≤ limit = let sum = length-append text more in grind (arith, nat_tests) in
    let ended = ended_lines-append text more in (
      ended.0 ++ last_line (last_part (text ++ more)),
      rw e (ap (λ ls. ls ++ last_line (last_part (text ++ more))) (ended.1 ∙ ap (λ bytes. ended_lines bytes ++ ended.0) (sym (take_all limit text fits)))
          ∙ append_assoc (ended_lines (take limit text)) ended.0 (last_line (last_part (text ++ more)))),
    )
lines_within-append limit text more false e = let ended = ended_within limit text more in (ended.0, rw e ended.1)

longer_text : (limit : ℕ) (text more : List ℕ) → nat_lt limit (length text) ≡ true
    → (nat_lt limit (length (text ++ more)) ≡ true) × (nat_le (length (text ++ more)) limit ≡ false) × (limit ≤ length text)
longer_text limit text more e =
    let sum = length-append text more in
    (grind (arith, nat_tests), grind (arith, nat_tests), grind (arith, nat_tests))

refusal_stays_so : (vertices limit : ℕ) (text more : List ℕ) (fault : TextFault) (bad : Option ℕ) (long : Bool)
    → first_malformed vertices (ended_lines (take limit text)) ≡ bad → nat_lt limit (length text) ≡ long → refused_for bad long ≡ Some fault
    → refusal vertices limit (text ++ more) ≡ Some fault
refusal_stays_so vertices limit text more fault (Some k) long e f r =
    let kept = lines_within-append limit text more (nat_le (length (text ++ more)) limit) refl in
    ap (λ bad. refused_for bad (nat_lt limit (length (text ++ more))))
    (ap (first_malformed vertices) kept.1 ∙ first_malformed-append_some vertices k (ended_lines (take limit text)) kept.0 e)
    ∙ r
refusal_stays_so vertices limit text more fault None true e f r =
    let longer = longer_text limit text more f in
    let same : take limit (text ++ more) ≡ take limit text = take-append-le limit text more longer.2 in
    ap (λ ls. refused_for (first_malformed vertices ls) (nat_lt limit (length (text ++ more))))
    (rw longer.1 (ap ended_lines same))
    ∙ ap (λ bad. refused_for bad (nat_lt limit (length (text ++ more)))) e
    ∙ ap (refused_for None) longer.0
    ∙ r
refusal_stays_so vertices limit text more fault None false e f r = absurd (cc)

-- **What was refused of the front of a text is refused of the whole, with the same fault.**
pub refusal-stays : (vertices limit : ℕ) (text more : List ℕ) (fault : TextFault) → refusal_so_far vertices limit text ≡ Some fault
    → refusal vertices limit (text ++ more) ≡ Some fault
refusal-stays vertices limit text more fault e =
    refusal_stays_so vertices limit text more fault (first_malformed vertices (ended_lines (take limit text))) (nat_lt limit (length text)) refl refl e

-- Each edge of the text joins vertices of the graph, and its weight is in range.
abbrev IsStorable : ℕ → Edge → Type 0
IsStorable vertices e = (e.src < vertices) × (e.dst < vertices) × (e.weight ≤ MAX_WEIGHT)

below_bound : (bound n : ℕ) (fits : Bool) → (fits ≡ true → n < bound) → IfSome (if fits then Some n else None) (λ k. k < bound)
below_bound bound n true below = below refl
below_bound bound n false below = tt

and_right : (a b c : Bool) → (a && (b && c)) ≡ true → c ≡ true
and_right true true c e = e
and_right true false c e = absurd (cc)
and_right false b c e = absurd (cc)

number-below : (bound : ℕ) (field : List ℕ) → IfSome (number bound field) (λ k. k < bound)
unfolding number
number-below bound field =
    let value = digits_value 10 field in
    below_bound bound value (has_bytes field && (list_all is_ascii_digit field && nat_lt value bound))
    (λ e. let small : nat_lt value bound ≡ true = and_right (has_bytes field) (list_all is_ascii_digit field) (nat_lt value bound) e in
    grind (arith, nat_tests))

All-nil : (P : Edge → Type 0) → All P []
All-nil P k d h = absurd (omega arith)

All-one : (P : Edge → Type 0) (e : Edge) → P e → All P (e ∷ [])
All-one P e p zero d h = p
All-one P e p (suc k) d h = absurd (omega arith)

directions-storable : (vertices : ℕ) (both : Bool) (e : Edge) → IsStorable vertices e → All (IsStorable vertices) (directions both e)
directions-storable vertices false e p = All-one (IsStorable vertices) e p
directions-storable vertices true e p =
    All-append (IsStorable vertices) (e ∷ []) (record { src = e.dst; dst = e.src; weight = e.weight } ∷ [])
    (All-one (IsStorable vertices) e p)
    (All-one (IsStorable vertices) (record { src = e.dst; dst = e.src; weight = e.weight }) (p.1, p.0, p.2))

edge_of-storable : (vertices : ℕ) (both : Bool) (s d w : Option ℕ) → IfSome s (λ k. k < vertices) → IfSome d (λ k. k < vertices)
    → IfSome w (λ k. k < MAX_WEIGHT + 1) → All (IsStorable vertices) (edges_said both (edge_of s d w))
edge_of-storable vertices both (Some s) (Some d) (Some w) p q r =
    directions-storable vertices both (record { src = s; dst = d; weight = w }) (p, q, omega arith)
edge_of-storable vertices both (Some s) (Some d) None p q r = All-nil (IsStorable vertices)
edge_of-storable vertices both (Some s) None w p q r = All-nil (IsStorable vertices)
edge_of-storable vertices both None d w p q r = All-nil (IsStorable vertices)

edge_of_fields-storable : (vertices : ℕ) (both : Bool) (fs : List (List ℕ)) → All (IsStorable vertices) (edges_said both (edge_of_fields vertices fs))
edge_of_fields-storable vertices both [] = All-nil (IsStorable vertices)
edge_of_fields-storable vertices both (s ∷ []) = All-nil (IsStorable vertices)
edge_of_fields-storable vertices both (s ∷ d ∷ []) =
    edge_of-storable vertices both (number vertices s) (number vertices d) (Some 1) (number-below vertices s) (number-below vertices d) (omega arith)
edge_of_fields-storable vertices both (s ∷ d ∷ w ∷ []) =
    edge_of-storable vertices both (number vertices s) (number vertices d) (number (MAX_WEIGHT + 1) w)
    (number-below vertices s) (number-below vertices d) (number-below (MAX_WEIGHT + 1) w)
edge_of_fields-storable vertices both (s ∷ d ∷ w ∷ x ∷ xs) = All-nil (IsStorable vertices)

content-storable : (vertices : ℕ) (both : Bool) (fs : List (List ℕ)) (comment : Bool)
    → All (IsStorable vertices) (edges_said both (if comment then Nothing else edge_of_fields vertices fs))
content-storable vertices both fs true = All-nil (IsStorable vertices)
content-storable vertices both fs false = edge_of_fields-storable vertices both fs

fields-storable : (vertices : ℕ) (both : Bool) (fs : List (List ℕ)) → All (IsStorable vertices) (edges_said both (meaning_of_fields vertices fs))
fields-storable vertices both [] = All-nil (IsStorable vertices)
fields-storable vertices both (f ∷ fs) = content-storable vertices both (f ∷ fs) (begins_comment f)

meaning-storable : (vertices : ℕ) (both : Bool) (line : List ℕ) → All (IsStorable vertices) (edges_said both (meaning vertices line))
unfolding meaning
meaning-storable vertices both line = fields-storable vertices both (fields (strip_carriage_return line))

pub edges_of_lines-storable : (vertices : ℕ) (both : Bool) (ls : List (List ℕ))
    → All (λ (e : Edge). (e.src < vertices) × (e.dst < vertices) × (e.weight ≤ MAX_WEIGHT)) (edges_of_lines vertices both ls)
unfolding edges_of_lines
edges_of_lines-storable vertices both [] = All-nil (IsStorable vertices)
edges_of_lines-storable vertices both (line ∷ ls) =
    All-append (IsStorable vertices) (edges_said both (meaning vertices line)) (edges_of_lines vertices both ls)
    (meaning-storable vertices both line) (edges_of_lines-storable vertices both ls)

pub edges_of_lines-within : (vertices : ℕ) (both : Bool) (ls : List (List ℕ))
    → All (λ (e : Edge). (e.src < vertices) × (e.dst < vertices)) (edges_of_lines vertices both ls)
edges_of_lines-within vertices both ls = λ k d h. let e = edges_of_lines-storable vertices both ls k d h in (e.0, e.1)
