-- The rules of a built command that has the positional words, options and flags of the tables.
use Rattle.std.proofs.Common.{◌≡◌, ◌∙◌, ◌+◌, ◌&&◌, ◌||◌, Bool, true, false, not, cond, min, ℕ, List, [], ◌∷◌, ◌++◌, Option, Some, None, is_some, map, refl, sym, ap, find}
use Rattle.std.specs.List.{list_all, list_any}
use Rattle.std.specs.Str.{bytes_eq}
use Rattle.std.proofs.lemmas.Bool.{false_from_ne_true, not-true, not_from_false, and_parts, and_from}
use Rattle.clap.specs.Lexer.{usize_max}
use Rattle.clap.specs.Walk.{Rule, arg_by_id, arg_by_index, arg_by_long, arg_by_short, has_long}
use Rattle.clap.specs.Simple.{Shape, built, is_simple, new_rule}
use Rattle.clap.specs.Faults.{is_simple_and_free}
use Rattle.clap.specs.declared.builder.action.ArgAction.TheVariants.{Append, Set}
use Rattle.clap.specs.declared.builder.range.ValueRange.{ValueRange}
use Rattle.clap.specs.declared.builder.value_parser.ValueParser.TheVariants as vp
use Rattle.clap.proofs.OnLiterals.{clap_on_literals}
use Rattle.graph_model.proofs.BoolLemmas.{true_is_not, or_false}
use Rattle.job_words.specs.Tables.{Text, PositionRow, OptionRow, FlagRow, positions, options, flags}
use Rattle.job_words.specs.Reading.{is_flag, is_option}
use Rattle.job_words.specs.Reader.{reader}
use Rattle.job_words.proofs.BoolLemmas.{same_of, differs}

-- ---- what building makes of the rules

abbrev of_values : ℕ → Option ValueRange
of_values n = Some (record { start_inclusive = n; end_inclusive = n })

abbrev pub ready_position : ℕ → Text → Rule
ready_position place name = record (new_rule name) { index = Some place; action = Some Set; range = of_values 1; parser = Some vp.String }

abbrev pub ready_option : Text → Rule
ready_option name = record (new_rule name) { long = Some name; action = Some Append; range = of_values 1; parser = Some vp.String }

abbrev pub ready_flag : Text → Rule
ready_flag name = record (new_rule name) { long = Some name; action = Some Append; range = of_values 0; missing = [] ∷ []; parser = Some vp.String }

abbrev pub long_rule : Text → Option Rule
long_rule name = cond (is_option name) (Some (ready_option name)) (cond (is_flag name) (Some (ready_flag name)) None)

-- the first free place, and the places behind it
pub record Place (rules : List Rule) (place : ℕ) (row : PositionRow) (later : List PositionRow) : Type 0 where
  pub by_index : arg_by_index rules place ≡ Some (ready_position place row.name)
  pub by_id : arg_by_id rules row.name ≡ Some (ready_position place row.name)
  pub next : min (place + 1) usize_max ≡ place + 1
  pub no_option : is_option row.name ≡ false
  pub no_flag : is_flag row.name ≡ false
  pub other_names : list_all (λ (other : PositionRow). not (bytes_eq row.name other.name)) later ≡ true

abbrev pub Places : List Rule → ℕ → List PositionRow → Type 0
Places rules place [] = arg_by_index rules place ≡ None
Places rules place (row ∷ later) = Place rules place row later × Places rules (place + 1) later

-- a command that finds the rules of the tables
pub record Serves (s : Shape) : Type 0 where
  pub once : s.args_override_self ≡ false
  pub leaf : s.is_leaf ≡ true
  pub by_long : (name : Text) → arg_by_long s.rules name ≡ long_rule name
  pub by_short : (c : ℕ) → arg_by_short s.rules c ≡ None
  pub by_id : (name : Text) → is_option name ≡ true → arg_by_id s.rules name ≡ Some (ready_option name)
  pub places : Places s.rules 1 positions

-- options and flags have other names than the free places
pub named_apart : (p : Text → Bool) (name : Text) → p name ≡ true → (places : List PositionRow)
    → ((row : PositionRow) (later : List PositionRow) (place : ℕ) (rules : List Rule) → Place rules place row later → p row.name ≡ false)
    → (rules : List Rule) (place : ℕ) → Places rules place places
    → list_all (λ (row : PositionRow). not (bytes_eq name row.name)) places ≡ true
named_apart p name among [] apart rules place fits = refl
named_apart p name among (row ∷ later) apart rules place fits =
    let other : bytes_eq name row.name ≡ false = differs p name row.name among (apart row later place rules fits.0) in
    and_from _ _ (not_from_false _ other) (named_apart p name among later apart rules (place + 1) fits.1)

-- ---- the command of the tables finds them

abbrev pub top : Shape
top = (built reader).top

abbrev by_name : Text → Rule → Bool
by_name name a = not (is_some a.index) && has_long a name

abbrev by_same_id : Text → Rule → Bool
by_same_id name a = bytes_eq a.id name

abbrev option_rules : List OptionRow → List Rule
option_rules = map (λ (row : OptionRow). ready_option row.name)

abbrev flag_rules : List FlagRow → List Rule
flag_rules = map (λ (row : FlagRow). ready_flag row.name)

abbrev is_named : Text → List OptionRow → Bool
is_named name rows = list_any (λ (row : OptionRow). bytes_eq row.name name) rows

abbrev is_flag_of : Text → List FlagRow → Bool
is_flag_of name rows = list_any (λ (row : FlagRow). bytes_eq row.name name) rows

abbrev position_rules : ℕ → List PositionRow → List Rule
position_rules place [] = []
position_rules place (row ∷ rows) = ready_position place row.name ∷ position_rules (place + 1) rows

rules_are : top.rules ≡ position_rules 1 positions ++ (option_rules options ++ flag_rules flags)
rules_are = refl

-- one more option, whose test is the same in and_parts lists
option_step : (name own : Text) (is : Bool) → bytes_eq own name ≡ is → (among : Bool) (found more : Option Rule)
    → found ≡ cond among (Some (ready_option name)) more
    → cond is (Some (ready_option own)) found ≡ cond (is || among) (Some (ready_option name)) more
option_step name own true e among found more rest = ap (λ n. Some (ready_option n)) (same_of own name e)
option_step name own false e among found more rest = rest

flag_step : (name own : Text) (is : Bool) → bytes_eq own name ≡ is → (among : Bool) (found : Option Rule)
    → found ≡ cond among (Some (ready_flag name)) None
    → cond is (Some (ready_flag own)) found ≡ cond (is || among) (Some (ready_flag name)) None
flag_step name own true e among found rest = ap (λ n. Some (ready_flag n)) (same_of own name e)
flag_step name own false e among found rest = rest

options_by_name : (name : Text) (rows : List OptionRow) (more : List Rule)
    → find (by_name name) (option_rules rows ++ more) ≡ cond (is_named name rows) (Some (ready_option name)) (find (by_name name) more)
options_by_name name [] more = refl
options_by_name name (row ∷ rows) more =
    ap (λ is. cond is (Some (ready_option row.name)) (find (by_name name) (option_rules rows ++ more))) (or_false (bytes_eq row.name name))
    ∙ option_step name row.name (bytes_eq row.name name) refl (is_named name rows) _ _ (options_by_name name rows more)

flags_by_name : (name : Text) (rows : List FlagRow) → find (by_name name) (flag_rules rows) ≡ cond (is_flag_of name rows) (Some (ready_flag name)) None
flags_by_name name [] = refl
flags_by_name name (row ∷ rows) =
    ap (λ is. cond is (Some (ready_flag row.name)) (find (by_name name) (flag_rules rows))) (or_false (bytes_eq row.name name))
    ∙ flag_step name row.name (bytes_eq row.name name) refl (is_flag_of name rows) _ (flags_by_name name rows)

found_by_name : (name : Text) → arg_by_long top.rules name ≡ long_rule name
found_by_name name =
    options_by_name name options (flag_rules flags) ∙ ap (cond (is_option name) (Some (ready_option name))) (flags_by_name name flags)

options_by_id : (name : Text) (rows : List OptionRow) (more : List Rule)
    → find (by_same_id name) (option_rules rows ++ more) ≡ cond (is_named name rows) (Some (ready_option name)) (find (by_same_id name) more)
options_by_id name [] more = refl
options_by_id name (row ∷ rows) more = option_step name row.name (bytes_eq row.name name) refl (is_named name rows) _ _ (options_by_id name rows more)

no_position : (name : Text) → is_option name ≡ true → (rows : List PositionRow) → list_all (λ (row : PositionRow). not (is_option row.name)) rows ≡ true
    → (place : ℕ) (more : List Rule) → find (by_same_id name) (position_rules place rows ++ more) ≡ find (by_same_id name) more
no_position name among [] apart place more = refl
no_position name among (row ∷ rows) apart place more =
    let parts = and_parts _ _ apart in
    let other : bytes_eq row.name name ≡ false =
    false_from_ne_true (bytes_eq row.name name) (λ same. true_is_not (is_option name) among (sym (ap is_option (same_of row.name name same)) ∙ not-true _ parts.0)) in
    rw other (no_position name among rows parts.1 (place + 1) more)

found_by_id : (name : Text) → is_option name ≡ true → arg_by_id top.rules name ≡ Some (ready_option name)
found_by_id name among =
    no_position name among positions refl 1 (option_rules options ++ flag_rules flags) ∙ options_by_id name options (flag_rules flags)
    ∙ ap (λ is. cond is (Some (ready_option name)) (find (by_same_id name) (flag_rules flags))) among

here : {rules : List Rule} (place : ℕ) (row : PositionRow) (later : List PositionRow) → arg_by_index rules place ≡ Some (ready_position place row.name)
    → arg_by_id rules row.name ≡ Some (ready_position place row.name) → min (place + 1) usize_max ≡ place + 1 → is_option row.name ≡ false → is_flag row.name ≡ false
    → list_all (λ (other : PositionRow). not (bytes_eq row.name other.name)) later ≡ true → Place rules place row later
here place row later by_index by_id next no_option no_flag other_names =
    record { by_index = by_index; by_id = by_id; next = next; no_option = no_option; no_flag = no_flag; other_names = other_names }

places_are : Places top.rules 1 positions
places_are =
    (here 1 _ _ refl refl refl refl refl refl, (here 2 _ _ refl refl refl refl refl refl, (here 3 _ _ refl refl refl refl refl refl, refl)))

pub tables_serve : Serves top
tables_serve = record {
  once = refl;
  leaf = refl;
  by_long = found_by_name;
  by_short = λ c. refl;
  by_id = found_by_id;
  places = places_are;
}

-- clap's clauses hold for the command
pub reader_is_simple : is_simple reader ≡ true
unfolding clap_on_literals
reader_is_simple = refl

pub reader_is_free : is_simple_and_free reader ≡ true
unfolding clap_on_literals
reader_is_free = refl
