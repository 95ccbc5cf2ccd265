-- What a command has, as the code tests it.
use Rattle.std.proofs.Common.{◌≡◌, ◌∙◌, ◌||◌, Bool, true, false, cond, List, [], ◌∷◌, Option, Some, None, map, option_map, slice_get, unwrap_or, is_none, refl, sym, ap}
use Rattle.std.specs.List.{list_any}
use Rattle.std.specs.Str.{bytes_eq}
use Rattle.clap.proofs.WalkLemmas.{list_any-map}
use Rattle.job_words.specs.declared.tables.CommandName.{CommandName}
use Rattle.job_words.specs.Tables.{Text, is_among}
use Rattle.clap.specs.Words.{found_of, matched_of, raw_values}
use Rattle.clap.specs.declared.parser.matches.ArgMatches.{ArgMatches}
use Rattle.clap.specs.declared.parser.matches.MatchedArg.{MatchedArg}
use Rattle.std.specs.Borrow.{Bor}
use Rattle.job_words.specs.Reader.{IsReadAs, text_in, texts_in}
use Rattle.job_words.specs.Reading.{given_of, texts_of}
use Rattle.job_words.specs.Commands.{Texts, and_then, command_by, command_in, command_of, gives_once, has_or_lacks}
use Rattle.job_words.specs.Names.{name_of}

abbrev pub has_name : CommandName → List CommandName → Bool
has_name command commands = list_any (λ other. bytes_eq (name_of other) (name_of command)) commands

same_names : (command : CommandName) (commands : List CommandName) → has_name command commands ≡ is_among (name_of command) (map name_of commands)
same_names command commands = list_any-map (λ other. bytes_eq other (name_of command)) name_of commands

pub has_it : (command : CommandName) (texts : Texts) (commands : List CommandName) (name : Text) → true ≡ has_name command commands
    → true ≡ has_or_lacks (name_of command) texts (map name_of commands) name
has_it command texts commands name has = ap (λ b. b || is_none (texts name)) (has ∙ same_names command commands)

pub lacks_it : (command : CommandName) (texts : Texts) (commands : List CommandName) (name : Text) → false ≡ has_name command commands
    → is_none (texts name) ≡ has_or_lacks (name_of command) texts (map name_of commands) name
lacks_it command texts commands name has_not = ap (λ b. b || is_none (texts name)) (has_not ∙ same_names command commands)

-- ---- the texts of the matches

first_at : (values : List (Bor Text)) → option_map (λ s. s.now) (slice_get values 0) ≡ slice_get (map (λ s. s.now) values) 0
first_at [] = refl
first_at (value ∷ values) = refl

first_of : (m : ArgMatches) (name : Text) → text_in m name ≡ slice_get (texts_in m name) 0
first_of m name = by_entry (matched_of (found_of m) name)
  where
    by_entry : (o : Option MatchedArg) → and_then o (λ a. option_map (λ s. s.now) (slice_get a.vals.items 0)) ≡ slice_get (unwrap_or (option_map raw_values o) []) 0
    by_entry None = refl
    by_entry (Some a) = first_at a.vals.items

firsts : (m : ArgMatches) → command_in (text_in m) ≡ command_in (λ name. slice_get (texts_in m name) 0)
firsts m = let same : text_in m ≡ (λ name. slice_get (texts_in m name) 0) = λ i name. first_of m name i in ap command_in same

pub given_once : (m : ArgMatches) → true ≡ gives_once (texts_in m) → command_in (text_in m) ≡ command_by (texts_in m)
given_once m once = firsts m ∙ ap (λ b. cond b (command_in (λ name. slice_get (texts_in m name) 0)) None) once

pub command_read : (words : List Text) (m : ArgMatches) → IsReadAs words m → command_of words ≡ command_by (texts_in m)
command_read words m read =
    let same : (λ name. texts_of name read.0) ≡ texts_in m = λ i name. sym (read.2 name) i in
    ap (λ o. and_then o (λ given. command_by (λ name. texts_of name given))) read.1 ∙ ap command_by same

pub command_unread : (words : List Text) → given_of words ≡ None → command_of words ≡ None
command_unread words unread = ap (λ o. and_then o (λ given. command_by (λ name. texts_of name given))) unread
