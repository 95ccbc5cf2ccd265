-- The one command of clap that reads the words, and what a reading by it is.
use Rattle.std.specs.Prelude.{◌≡◌, List, [], ◌∷◌, ◌++◌, Some, codes, map, fold, unwrap_or, Bool, true, ◌||◌}
use Rattle.std.specs.Str.{bytes_eq}
use Rattle.std.specs.Option.{option_map}
use Rattle.clap.specs.declared.builder.action.ArgAction.TheVariants.{Append}
use Rattle.clap.specs.declared.parser.matches.ArgMatches.{ArgMatches}
use Rattle.clap.specs.Words.{App, Rule, first_value, found_of, matched_of, new_app, new_rule, raw_values, with_rule}
use Rattle.job_words.specs.Tables.{Text, PositionRow, OptionRow, FlagRow, positions, options, flags}
use Rattle.job_words.specs.Reading.{Given, given_of, texts_of}
use Rattle.job_words.specs.Commands.{Texts}

-- Options and flags are appended, so that each time they are given is seen.
abbrev pub position_rule : Text → Rule
position_rule name = new_rule name

abbrev pub option_rule : Text → Rule
option_rule name = record (new_rule name) { long = Some name; action = Some Append }

abbrev pub flag_rule : Text → Rule
flag_rule name = record (new_rule name) {
  long = Some name;
  action = Some Append;
  range = Some (record { start_inclusive = 0; end_inclusive = 0 });
  missing = [] ∷ [];
}

abbrev pub with_rules : App → List Rule → App
with_rules app rules = fold with_rule app rules

-- no help, no version and no name of the program
abbrev pub bare_reader : App
bare_reader = record {
  top = record (new_app (codes "chaos_cli")).top { no_binary_name = true; disable_help_flag = true; disable_version_flag = true };
  subs = [];
}

abbrev pub reader : App
reader = with_rules bare_reader (map (λ (row : PositionRow). position_rule row.name) positions
    ++ map (λ (row : OptionRow). option_rule row.name) options
    ++ map (λ (row : FlagRow). flag_rule row.name) flags)

-- Two words that clap would take: `-` and `--`.
abbrev pub hyphen : Text
hyphen = 45 ∷ []

abbrev pub hyphens : Text
hyphens = 45 ∷ 45 ∷ []

abbrev pub is_lone : Text → Bool
is_lone word = bytes_eq word hyphen || bytes_eq word hyphens

-- the texts of a name, and the first of them
abbrev pub texts_in : ArgMatches → Text → List Text
texts_in matches name = unwrap_or (option_map raw_values (matched_of (found_of matches) name)) []

abbrev pub text_in : ArgMatches → Texts
text_in matches name = first_value (found_of matches) name

-- the matches have what the words give
abbrev pub IsReadAs : List Text → ArgMatches → Type 0
IsReadAs words matches =
    (given : List Given) × (given_of words ≡ Some given) × ((name : Text) → texts_in matches name ≡ texts_of name given)
