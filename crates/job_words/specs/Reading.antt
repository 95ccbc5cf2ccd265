-- What the words of a command line give, read from the first to the last: no range and no command is known here.
use Rattle.std.specs.Prelude.{ℕ, ◌==◌, List, [], ◌∷◌, ◌++◌, Bool, if◌then◌else◌, Option, Some, None, is_none, option_and_then, filter, fold, map}
use Rattle.std.specs.List.{list_any, before_first, after_first}
use Rattle.std.specs.Str.{bytes_eq}
use Rattle.job_words.specs.Tables.{Text, OptionRow, FlagRow, PositionRow, positions, options, flags}

-- How a word looks.
-- `plain`              it does not begin with a hyphen
-- `named name text`    it is `--name` or `--name=text`
-- `refused`            every other word that begins with a hyphen
pub data Shape : Type 0 where
  plain : Shape
  named : Text → Option Text → Shape
  refused : Shape

abbrev pub is_equals_sign : ℕ → Bool
is_equals_sign byte = byte == 61

-- by what stands behind two hyphens; the name ends at the first `=`
abbrev pub shape_of_name : Text → Shape
shape_of_name [] = refused
shape_of_name (byte ∷ rest) =
    named (before_first is_equals_sign (byte ∷ rest))
    (if list_any is_equals_sign (byte ∷ rest) then Some (after_first is_equals_sign (byte ∷ rest)) else None)

-- by what stands behind one hyphen
abbrev pub shape_behind_hyphen : Text → Shape
shape_behind_hyphen [] = refused
shape_behind_hyphen (byte ∷ rest) = if byte == 45 then shape_of_name rest else refused

abbrev pub shape_of : Text → Shape
shape_of [] = plain
shape_of (byte ∷ rest) = if byte == 45 then shape_behind_hyphen rest else plain

abbrev pub is_option : Text → Bool
is_option name = list_any (λ (row : OptionRow). bytes_eq row.name name) options

abbrev pub is_flag : Text → Bool
is_flag name = list_any (λ (row : FlagRow). bytes_eq row.name name) flags

-- What a word or two give: the name in the tables, and the text; a flag's text is empty.
pub record Given : Type 0 where
  pub name : Text
  pub text : Text

-- How far the words are read: what they gave, in order; the places that positional words have yet to take; and the
-- option, if there is one, that takes the next word as its text.
pub record Reading : Type 0 where
  pub given : List Given
  pub places : List PositionRow
  pub waiting : Option Text

abbrev pub nothing_read : Reading
nothing_read = record { given = []; places = positions; waiting = None }

abbrev pub with_given : List Given → Text → Text → List Given
with_given given name text = given ++ record { name = name; text = text } ∷ []

-- a positional word takes the first free place
abbrev pub after_positional : List Given → List PositionRow → Text → Option Reading
after_positional given [] word = None
after_positional given (row ∷ places) word =
    Some (record { given = with_given given row.name word; places = places; waiting = None })

abbrev pub after_option : Reading → Text → Option Text → Option Reading
after_option before name None = Some (record before { waiting = Some name })
after_option before name (Some text) = Some (record before { given = with_given before.given name text })

abbrev pub after_flag : Reading → Text → Option Text → Option Reading
after_flag before name None = Some (record before { given = with_given before.given name [] })
after_flag before name (Some text) = None

abbrev pub after_name : Reading → Text → Option Text → Option Reading
after_name before name text =
    if is_option name then after_option before name text
    else (if is_flag name then after_flag before name text else None)

-- the reading after one more word, by the option that waits and the word's shape; None where the word is refused
abbrev pub after_shape : Reading → Option Text → Shape → Text → Option Reading
after_shape before (Some name) plain word = Some (record { given = with_given before.given name word; places = before.places; waiting = None })
after_shape before (Some name) (named other text) word = None
after_shape before (Some name) refused word = None
after_shape before None plain word = after_positional before.given before.places word
after_shape before None (named name text) word = after_name before name text
after_shape before None refused word = None

abbrev pub after_word : Option Reading → Text → Option Reading
after_word None word = None
after_word (Some before) word = after_shape before before.waiting (shape_of word) word

abbrev pub reading_of : List Text → Option Reading
reading_of words = fold after_word (Some nothing_read) words

-- no option may be left without its text
abbrev pub given_by : Reading → Option (List Given)
given_by last = if is_none last.waiting then Some last.given else None

-- **What the words give, in order; None where a word is refused.**
abbrev pub given_of : List Text → Option (List Given)
given_of words = option_and_then given_by (reading_of words)

-- the texts that a name was given, in order
abbrev pub texts_of : Text → List Given → List Text
texts_of name given = map (λ (one : Given). one.text) (filter (λ (one : Given). bytes_eq one.name name) given)
