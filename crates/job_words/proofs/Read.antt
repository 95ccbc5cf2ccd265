-- Clap takes the words exactly where they are read, and its matches have what the words give.
use Rattle.std.proofs.Common.{◌≡◌, ◌∙◌, Bool, true, false, cond, ℕ, List, [], ◌∷◌, map, Option, Some, None, is_some, is_none, refl, sym, ap, fold, subst, unwrap_or, String, string_bytes, inl, inr}
use Rattle.std.specs.List.{list_all, list_any}
use Rattle.std.proofs.lemmas.Str.{IsUtf8-had}
use Rattle.std.specs.Prelude.{option_and_then}
use Rattle.std.proofs.lemmas.Bool.{and_parts, or_parts}
use Rattle.clap.specs.Kinds.{HasKind, IsAmong, Kinds, or_else}
use Rattle.clap.specs.Values.{kind_of}
use Rattle.clap.specs.declared.error.Error.{Error}
use Rattle.clap.specs.declared.error.kind.ErrorKind.TheVariants.{OutOfMemory}
use Rattle.clap.specs.Walk.{Row, Rule, Text, Walk, finished, has_row, is_empty, nothing_held, rows_of, settled, settled_rows, walk, walk_from, with_default}
use Rattle.clap.specs.Simple.{App, HasMatchesOf, Shape, built, entered, matches_of}
use Rattle.clap.specs.Faults.{check_fault, default_fault, defaults_fault, entered_fault, fault_of, is_simple_and_free, settle_fault, walk_fault}
use Rattle.clap.specs.Matches.{found_of}
use Rattle.clap.specs.declared.error.kind.ErrorKind.{ErrorKind}
use Rattle.clap.specs.declared.parser.matches.ArgMatches.{ArgMatches}
use Rattle.clap.proofs.SimpleLemmas.{is_nil}
use Rattle.clap.proofs.WalkLemmas.{list_any-map, raw_values-rows}
use Rattle.graph_model.proofs.BoolLemmas.{or_true}
use Rattle.job_words.specs.Reading.{Given, Reading, given_by, given_of, nothing_read, after_word, is_option}
use Rattle.job_words.specs.Reader.{reader, texts_in, is_lone, IsReadAs}
use Rattle.job_words.proofs.ClapTexts.{Agrees, texts}
use Rattle.job_words.proofs.ClapRules.{Serves, reader_is_free, reader_is_simple, tables_serve, top}
use Rattle.job_words.proofs.Follow.{AreReadable, Follows, Goes, StandsAt, first_fault, follows, later_fault, lone_refused, no_fault, some_fault, wanting}

-- ---- no argument has a default

abbrev has_no_defaults : List Rule → Bool
has_no_defaults rules = list_all (λ a. is_empty a.defaults) rules

either : (b : Bool) (rows : List Row) → cond b rows rows ≡ rows
either true rows = refl
either false rows = refl

no_default : (rows : List Row) (a : Rule) → is_empty a.defaults ≡ true → with_default rows a ≡ rows
no_default rows a empty = let none = is_nil a.defaults empty in rw none (either (has_row a.id rows) rows)

default_faultless : (rows : List Row) (a : Rule) → is_empty a.defaults ≡ true → default_fault rows a ≡ []
default_faultless rows a empty = let always = or_true (has_row a.id rows) in rw (empty, always) refl

no_default_faults : (rules : List Rule) (rows : List Row) → has_no_defaults rules ≡ true → defaults_fault rows rules ≡ []
unfolding defaults_fault
no_default_faults [] rows none = refl
no_default_faults (a ∷ rules) rows none =
    let parts = and_parts _ _ none in
    no_fault (default_fault rows a) (defaults_fault (with_default rows a) rules) (default_faultless rows a parts.0) (no_default_faults rules (with_default rows a) parts.1)

no_default_rows : (rules : List Rule) (rows : List Row) → has_no_defaults rules ≡ true → fold with_default rows rules ≡ rows
no_default_rows [] rows none = refl
no_default_rows (a ∷ rules) rows none =
    let parts = and_parts _ _ none in ap (λ before. fold with_default before rules) (no_default rows a parts.0) ∙ no_default_rows rules rows parts.1

-- ---- there is no subcommand

no_entered_fault : (stop : Option (Text × List Text)) → entered_fault (built reader) stop ≡ []
no_entered_fault None = refl
no_entered_fault (Some p) = refl

none_entered : (stop : Option (Text × List Text)) → is_some (entered (built reader) stop) ≡ false
none_entered None = refl
none_entered (Some p) = refl

-- ---- behind the last word

-- the words are refused with a fault, or taken with what they give
abbrev pub Ends : Option (List Given) → Kinds → List Row → Type 0
Ends None faults rows = faults ≡ [] → ⊥
Ends (Some given) faults rows = (faults ≡ []) × Agrees given rows

module _ (s : Shape) (serves : Serves s) (none : has_no_defaults s.rules ≡ true) (below : Kinds) (has_entered : Bool) (nothing_below : below ≡ [])
    (nothing_wanted : (rows : List Row) → check_fault s rows has_entered ≡ []) where
  abbrev last_faults : Kinds → Walk → Kinds
  last_faults faults end = or_else faults
      (or_else below (or_else (settle_fault s.rules s.args_override_self end.held)
      (or_else (defaults_fault (settled s.rules end.held).rows s.rules) (check_fault s (finished s.rules end.held) has_entered))))

  -- an option at the end lacks its text
  unfinished : (rows : List Row) (name : Text) (place : ℕ) → is_option name ≡ true
      → settle_fault s.rules s.args_override_self (wanting s serves rows name place).held ≡ [] → ⊥
  unfinished rows name place among = let found = serves.by_id name among in rw found (some_fault _ _)

  ends_at : (given : List Given) (waiting : Option Text) (rows : List Row) (place : ℕ) (faults : Kinds) (end : Walk)
      → faults ≡ [] → Agrees given rows → StandsAt s serves waiting rows place end
      → Ends (cond (is_none waiting) (Some given) None) (last_faults faults end) (finished s.rules end.held)
  ends_at given None rows place faults end fine agrees stands =
      let settles = stands.2 in
      let settled_fine : settle_fault s.rules s.args_override_self end.held ≡ [] =
      ap (λ (w : Walk). settle_fault s.rules s.args_override_self w.held) stands.1 ∙ settles.fine in
      let rows_are : finished s.rules end.held ≡ rows =
      no_default_rows s.rules (settled s.rules end.held).rows none
      ∙ ap (λ (w : Walk). settled_rows s.rules w.held.pending w.held.rows) stands.1 ∙ settles.rows_are in (
        no_fault faults _ fine (no_fault below _ nothing_below (no_fault _ _ settled_fine
            (no_fault _ _ (no_default_faults s.rules (settled s.rules end.held).rows none) (nothing_wanted (finished s.rules end.held))))),
        λ id. ap (texts id) rows_are ∙ agrees id,
      )
  ends_at given (Some name) rows place faults end fine agrees stands =
      later_fault faults _ fine (later_fault below _ nothing_below (first_fault (settle_fault s.rules s.args_override_self end.held) _
      (λ e. unfinished rows name place stands.1 (sym (ap (λ (w : Walk). settle_fault s.rules s.args_override_self w.held) stands.0) ∙ e))))

  ends : (o : Option Reading) (faults : Kinds) (end : Walk) → Goes s serves o faults end
      → Ends (option_and_then given_by o) (last_faults faults end) (finished s.rules end.held)
  ends None faults end goes = first_fault faults _ goes
  ends (Some r) faults end goes = ends_at r.given r.waiting goes.1.rows goes.1.place faults end goes.0 goes.1.agrees goes.1.stands

-- ---- the command of the tables

-- nothing is required
nothing_required : (has_entered : Bool) → has_entered ≡ false → (rows : List Row) → check_fault top rows has_entered ≡ []
nothing_required has_entered none rows = rw none refl

starts : Follows top tables_serve nothing_read (walk_from nothing_held)
starts = record {
  rows = [];
  place = 1;
  agrees = λ id. refl;
  free = refl;
  fits = tables_serve.places;
  stands = (nothing_held, refl, record { skips_none = refl; rows_are = refl; fine = refl });
}

pub reads : (words : List Text) → AreReadable words → Ends (given_of words) (fault_of reader words) (matches_of reader words)
reads words readable =
    let stop = (walk top.rules [] nothing_held words).stopped in
    ends top tables_serve refl (entered_fault (built reader) stop) (is_some (entered (built reader) stop)) (no_entered_fault stop)
    (nothing_required (is_some (entered (built reader) stop)) (none_entered stop))
    (fold after_word (Some nothing_read) words) (walk_fault top [] (walk_from nothing_held) words) (walk top.rules [] nothing_held words)
    (follows top tables_serve words readable nothing_read (walk_from nothing_held) starts)

-- ---- what a call of clap gives

by_fault : (o : Option (List Given)) (faults : Kinds) (rows : List Row) (k : ErrorKind) → Ends o faults rows → IsAmong k faults → o ≡ None
by_fault None faults rows k end among = refl
by_fault (Some given) faults rows k end among = absurd (subst (IsAmong k) end.0 among)

-- words with a fault are refused
fault_refused : (words : List Text) (k : ErrorKind) → AreReadable words → IsAmong k (fault_of reader words) → given_of words ≡ None
fault_refused words k readable among = by_fault (given_of words) (fault_of reader words) (matches_of reader words) k (reads words readable) among

texts_are : (m : ArgMatches) (name : Text) → texts_in m name ≡ texts name (rows_of (found_of m))
texts_are m name = ap (λ o. unwrap_or o []) (raw_values-rows (found_of m) name)

by_no_fault : (words : List Text) (m : ArgMatches) (o : Option (List Given)) (rows : List Row) (faults : Kinds) → given_of words ≡ o → Ends o faults rows
    → faults ≡ [] → rows_of (found_of m) ≡ rows → IsReadAs words m
by_no_fault words m None rows faults is end none same = absurd (end none)
by_no_fault words m (Some given) rows faults is end none same = (given, is, λ name. texts_are m name ∙ ap (texts name) same ∙ end.1 name)

-- words without a fault are read as the matches say
no_fault_read : (words : List Text) (m : ArgMatches) → AreReadable words → fault_of reader words ≡ [] → rows_of (found_of m) ≡ matches_of reader words → IsReadAs words m
no_fault_read words m readable none same =
    by_no_fault words m (given_of words) (matches_of reader words) (fault_of reader words) refl (reads words readable) none same

-- words that are refused before clap sees them
pub lone_unread : {Z : Type 0} (words : List (String Z)) → list_any (λ word. is_lone (string_bytes word)) words ≡ true → given_of (map string_bytes words) ≡ None
lone_unread words lone =
    ap (option_and_then given_by) (lone_refused (map string_bytes words) (sym (list_any-map is_lone string_bytes words) ∙ lone) (Some nothing_read))

-- words that clap is handed
are_readable : {Z : Type 0} (words : List (String Z)) → list_any (λ word. is_lone (string_bytes word)) words ≡ false → AreReadable (map string_bytes words)
are_readable [] none = tt
are_readable (word ∷ words) none =
    let parts = or_parts (is_lone (string_bytes word)) (list_any (λ w. is_lone (string_bytes w)) words) none in
    (record { utf8 = IsUtf8-had (string_bytes word) word.ok; not_lone = parts.0 }, are_readable words parts.1)

pub taken : {Z : Type 0} (app : App) (words : List (String Z)) (m : ArgMatches) → app ≡ reader → list_any (λ word. is_lone (string_bytes word)) words ≡ false
    → HasMatchesOf app (map string_bytes words) m → (is_simple_and_free app ≡ true → fault_of app (map string_bytes words) ≡ []) → IsReadAs (map string_bytes words) m
taken app words m is none matches kinds =
    let have : HasMatchesOf reader (map string_bytes words) m = subst (λ (a : App). HasMatchesOf a (map string_bytes words) m) is matches in
    let faultless : fault_of reader (map string_bytes words) ≡ [] =
    sym (ap (λ (a : App). fault_of a (map string_bytes words)) is) ∙ kinds (ap is_simple_and_free is ∙ reader_is_free) in
    no_fault_read (map string_bytes words) m (are_readable words none) faultless (have reader_is_simple).0

pub refused : {Z : Type 0} (app : App) (words : List (String Z)) (e : Error) → app ≡ reader → list_any (λ word. is_lone (string_bytes word)) words ≡ false
    → (is_simple_and_free app ≡ true → HasKind (fault_of app (map string_bytes words)) e) → (kind_of e ≡ OutOfMemory → ⊥) → given_of (map string_bytes words) ≡ None
refused app words e is none kinds memory = by_kind (kinds (ap is_simple_and_free is ∙ reader_is_free))
  where
    by_kind : HasKind (fault_of app (map string_bytes words)) e → given_of (map string_bytes words) ≡ None
    by_kind (inl out) = absurd (memory out)
    by_kind (inr among) =
        fault_refused (map string_bytes words) (kind_of e) (are_readable words none)
        (subst (λ (a : App). IsAmong (kind_of e) (fault_of a (map string_bytes words))) is among)
