-- Word by word, clap's walk follows the reading.
use Rattle.std.proofs.Common.{◌≡◌, ◌∙◌, ◌+◌, ◌||◌, Bool, true, false, not, ℕ, List, [], ◌∷◌, Option, Some, None, refl, sym, ap, fold, slice_get, subst, arith}
use Rattle.std.specs.List.{list_all, list_any}
use Rattle.std.specs.Str.{IsUtf8, bytes_eq, chars}
use lib.Utf8.{encodes, scalars}
use Rattle.std.proofs.lemmas.Str.{IsUtf8-drop, IsCharBoundary-after_ascii, chars-encodes}
use Rattle.std.proofs.lemmas.Bool.{not-true, and_parts}
use Rattle.clap.specs.Lexer.{long_of, short_of}
use Rattle.clap.specs.Kinds.{Kinds, or_else}
use Rattle.clap.specs.Walk.{Held, Row, Text, Walk, idle, option, settled_rows, walked, with_values, has_row}
use Rattle.clap.specs.Simple.{Shape}
use Rattle.clap.specs.Faults.{flags_fault, settle_fault, turn_fault, walk_fault}
use Rattle.clap.specs.declared.builder.value_parser.Reading.TheVariants as how
use Rattle.clap.specs.declared.error.kind.ErrorKind.{ErrorKind}
use Rattle.clap.specs.declared.parser.matches.ValueSource.TheVariants.{CommandLine}
use Rattle.graph_model.proofs.BoolLemmas.{true_is_not, and_false}
use Rattle.job_words.specs.Tables.{PositionRow}
use Rattle.job_words.specs.Reading.{Given, Reading, refused, after_word, after_name, after_positional, after_shape, is_flag, is_option, shape_of, with_given}
use Rattle.job_words.proofs.BoolLemmas.{same_eq, same_of}
use Rattle.job_words.proofs.Shapes.{Look, looks_plain, looks_named, looks_short, looks_lone, look_of}
use Rattle.job_words.specs.Reader.{is_lone, hyphen, hyphens}
use Rattle.job_words.proofs.ClapTexts.{Agrees, agrees_more, free_more, without_none}
use Rattle.job_words.proofs.ClapRules.{Place, Places, Serves, named_apart}

-- ---- faults

pub first_fault : (a b : Kinds) → (a ≡ [] → ⊥) → or_else a b ≡ [] → ⊥
first_fault [] b some e = some refl
first_fault (k ∷ ks) b some e = some e

pub later_fault : (a b : Kinds) → a ≡ [] → (b ≡ [] → ⊥) → or_else a b ≡ [] → ⊥
later_fault a b none some e = some (sym (ap (λ x. or_else x b) none) ∙ e)

pub no_fault : (a b : Kinds) → a ≡ [] → b ≡ [] → or_else a b ≡ []
no_fault a b none none' = ap (λ x. or_else x b) none ∙ none'

pub some_fault : (k : ErrorKind) (ks : Kinds) → k ∷ ks ≡ [] → ⊥
some_fault k ks e = cc

-- the rows with one more text
abbrev pub more_rows : Text → Text → List Row → List Row
more_rows name text rows = with_values name how.AsWritten CommandLine (text ∷ []) rows

abbrev pub Free : List Row → List PositionRow → Type 0
Free rows places = list_all (λ (row : PositionRow). not (has_row row.name rows)) places ≡ true

-- a word that can be handed to clap
pub record IsReadable (word : Text) : Type 0 where
  pub utf8 : IsUtf8 word
  pub not_lone : is_lone word ≡ false

abbrev pub AreReadable : List Text → Type 0
AreReadable [] = Unit {0}
AreReadable (word ∷ words) = IsReadable word × AreReadable words

-- words that are refused stay refused
pub refused_stays : (words : List Text) → fold after_word None words ≡ None
refused_stays [] = refl
refused_stays (word ∷ words) = refused_stays words

-- `-` and `--` are refused
lone_is : (word : Text) → is_lone word ≡ true → shape_of word ≡ refused
lone_is word lone = either (bytes_eq word hyphen) refl
  where
    either : (is : Bool) → bytes_eq word hyphen ≡ is → shape_of word ≡ refused
    either true same = ap shape_of (same_of word hyphen same)
    either false other = let same : bytes_eq word hyphens ≡ true = sym (ap (λ b. b || bytes_eq word hyphens) other) ∙ lone in ap shape_of (same_of word hyphens same)

refused_next : (r : Reading) (waiting : Option Text) (word : Text) → shape_of word ≡ refused → after_shape r waiting (shape_of word) word ≡ None
refused_next r None word shape = rw shape refl
refused_next r (Some name) word shape = rw shape refl

pub lone_refused : (words : List Text) → list_any is_lone words ≡ true → (o : Option Reading) → fold after_word o words ≡ None
lone_refused [] some o = absurd (true_is_not true refl (sym some))
lone_refused (word ∷ words) some None = refused_stays words
lone_refused (word ∷ words) some (Some r) = by_word (is_lone word) refl (λ later. lone_refused words later (after_word (Some r) word))
  where
    by_word : (is : Bool) → is_lone word ≡ is → (list_any is_lone words ≡ true → fold after_word (after_word (Some r) word) words ≡ None)
        → fold after_word (after_word (Some r) word) words ≡ None
    by_word true lone rest = ap (λ o. fold after_word o words) (refused_next r r.waiting word (lone_is word lone)) ∙ refused_stays words
    by_word false other rest = rest (sym (ap (λ b. b || list_any is_lone words) other) ∙ some)

module _ (s : Shape) (serves : Serves s) where
  -- no option waits
  abbrev pub resting : Held → ℕ → Walk
  resting h place = record { held = h; waiting = idle; position = place; is_trailing = false; stopped = None }

  -- the option waits for its text
  abbrev pub wanting : List Row → Text → ℕ → Walk
  wanting rows name place = record {
    held = record { rows = rows; pending = Some (name, []); skip = 0 };
    waiting = option name;
    position = place;
    is_trailing = false;
    stopped = None;
  }

  -- once what is pending is settled, these are the rows
  pub record Settles (h : Held) (rows : List Row) : Type 0 where
    pub skips_none : h.skip ≡ 0
    pub rows_are : settled_rows s.rules h.pending h.rows ≡ rows
    pub fine : settle_fault s.rules s.args_override_self h ≡ []

  abbrev pub StandsAt : Option Text → List Row → ℕ → Walk → Type 0
  StandsAt None rows place w = (h : Held) × (w ≡ resting h place) × Settles h rows
  StandsAt (Some name) rows place w = (w ≡ wanting rows name place) × (is_option name ≡ true)

  -- the walk stands where the reading stands
  pub record Follows (r : Reading) (w : Walk) : Type 0 where
    pub rows : List Row
    pub place : ℕ
    pub agrees : Agrees r.given rows
    pub free : Free rows r.places
    pub fits : Places s.rules place r.places
    pub stands : StandsAt r.waiting rows place w

  -- what clap makes of words that give the reading, or are refused
  abbrev pub Goes : Option Reading → Kinds → Walk → Type 0
  Goes None faults w = faults ≡ [] → ⊥
  Goes (Some r) faults w = (faults ≡ []) × Follows r w

  -- ---- what is pending is settled

  position_settles : (before rows : List Row) (skip place : ℕ) (row : PositionRow) (later : List PositionRow) (word : Text)
      → skip ≡ 0 → before ≡ rows → has_row row.name rows ≡ false → Place s.rules place row later
      → Settles (record { rows = before; pending = Some (row.name, word ∷ []); skip = skip }) (more_rows row.name word rows)
  position_settles before rows skip place row later word none is absent here = record {
    skips_none = none;
    rows_are = let same = without_none row.name rows absent in rw (is, here.by_id, same) refl;
    fine = rw (is, here.by_id, absent) refl;
  }

  option_settles : (before rows : List Row) (skip : ℕ) (name word : Text) → skip ≡ 0 → before ≡ rows → is_option name ≡ true
      → Settles (record { rows = before; pending = Some (name, word ∷ []); skip = skip }) (more_rows name word rows)
  option_settles before rows skip name word none is among =
      let found = serves.by_id name among in
      record { skips_none = none; rows_are = rw (is, found) refl; fine = rw (is, found) refl }

  nothing_pending : (before rows : List Row) (skip : ℕ) → skip ≡ 0 → before ≡ rows → Settles (record { rows = before; pending = None; skip = skip }) rows
  nothing_pending before rows skip none is = record { skips_none = none; rows_are = is; fine = refl }

  -- ---- nothing waits

  module _ (h : Held) (rows : List Row) (given : List Given) (place : ℕ) (places : List PositionRow)
      (settles : Settles h rows) (agrees : Agrees given rows) (free : Free rows places) (fits : Places s.rules place places) where
    abbrev here : Reading
    here = record { given = given; places = places; waiting = None }

    -- an option or a flag gives a text
    after_named : (name text : Text) (before : List Row) → before ≡ more_rows name text rows
        → list_all (λ (row : PositionRow). not (bytes_eq name row.name)) places ≡ true
        → Follows (record { given = with_given given name text; places = places; waiting = None }) (resting (record { rows = before; pending = None; skip = h.skip }) place)
    after_named name text before is apart = record {
      rows = more_rows name text rows;
      place = place;
      agrees = agrees_more given rows name text how.AsWritten CommandLine agrees;
      free = free_more name how.AsWritten CommandLine (text ∷ []) places rows free apart;
      fits = fits;
      stands = (record { rows = before; pending = None; skip = h.skip }, refl, nothing_pending before (more_rows name text rows) h.skip settles.skips_none is);
    }

    option_apart : (name : Text) → is_option name ≡ true → list_all (λ (row : PositionRow). not (bytes_eq name row.name)) places ≡ true
    option_apart name among = named_apart is_option name among places (λ row later place rules fit. fit.no_option) s.rules place fits

    flag_apart : (name : Text) → is_flag name ≡ true → list_all (λ (row : PositionRow). not (bytes_eq name row.name)) places ≡ true
    flag_apart name among = named_apart is_flag name among places (λ row later place rules fit. fit.no_flag) s.rules place fits

    resting_named : (word name : Text) (text : Option Text) (is_known is_set : Bool) → is_option name ≡ is_known → is_flag name ≡ is_set
        → bytes_eq word hyphens ≡ false → long_of word ≡ Some (name, text)
        → Goes (after_name here name text) (turn_fault s [] (resting h place) word) (walked s.rules [] (resting h place) word)
    unfolding walked
    resting_named word name (Some text) true is_set among flag dashes long =
        rw (dashes, long, serves.by_long name, among, settles.fine)
        (refl, after_named name text _ (ap (more_rows name text) settles.rows_are) (option_apart name among))
    resting_named word name None true is_set among flag dashes long =
        rw (dashes, long, serves.by_long name, among, settles.fine) (
          refl,
          record {
            rows = rows;
            place = place;
            agrees = agrees;
            free = free;
            fits = fits;
            stands = (
              λ i. record {
                held = record { rows = settles.rows_are i; pending = Some (name, []); skip = settles.skips_none i };
                waiting = option name;
                position = place;
                is_trailing = false;
                stopped = None;
              },
              among,
            );
          },
        )
    resting_named word name (Some text) false true among flag dashes long =
        rw (dashes, long, serves.by_long name, among, flag) (some_fault _ _)
    resting_named word name None false true among flag dashes long =
        rw (dashes, long, serves.by_long name, among, flag, settles.fine)
        (refl, after_named name [] _ (ap (more_rows name []) settles.rows_are) (flag_apart name flag))
    resting_named word name text false false among flag dashes long =
        rw (dashes, long, serves.by_long name, among, flag) (some_fault _ _)

  resting_plain : (h : Held) (rows : List Row) (given : List Given) (place : ℕ) (row : PositionRow) (later : List PositionRow) (word : Text)
      → Settles h rows → Agrees given rows → Free rows (row ∷ later) → Places s.rules place (row ∷ later)
      → bytes_eq word hyphens ≡ false → long_of word ≡ None → short_of word ≡ None
      → Goes (Some (record { given = with_given given row.name word; places = later; waiting = None })) (turn_fault s [] (resting h place) word) (walked s.rules [] (resting h place) word)
  unfolding walked
  resting_plain h rows given place row later word settles agrees free fits dashes long short =
      let parts = and_parts _ _ free in
      rw (dashes, long, short, fits.0.by_index, and_false, settles.fine, fits.0.next) (
        refl,
        record {
          rows = more_rows row.name word rows;
          place = place + 1;
          agrees = agrees_more given rows row.name word how.AsWritten CommandLine agrees;
          free = free_more row.name how.AsWritten CommandLine (word ∷ []) later rows parts.1 fits.0.other_names;
          fits = fits.1;
          stands = (
            record { rows = settled_rows s.rules h.pending h.rows; pending = Some (row.name, word ∷ []); skip = h.skip },
            refl,
            position_settles _ rows h.skip place row later word settles.skips_none settles.rows_are (not-true _ parts.0) fits.0,
          );
        },
      )

  resting_no_place : (h : Held) (place : ℕ) (word : Text) → Places s.rules place [] → bytes_eq word hyphens ≡ false → long_of word ≡ None → short_of word ≡ None
      → turn_fault s [] (resting h place) word ≡ [] → ⊥
  resting_no_place h place word none dashes long short = rw (dashes, long, short, none, serves.leaf) (some_fault _ _)

  -- ---- an option waits

  wanting_plain : (rows : List Row) (given : List Given) (name : Text) (place : ℕ) (places : List PositionRow) (word : Text) → is_option name ≡ true
      → Agrees given rows → Free rows places → Places s.rules place places → bytes_eq word hyphens ≡ false → long_of word ≡ None → short_of word ≡ None
      → Goes (Some (record { given = with_given given name word; places = places; waiting = None })) (turn_fault s [] (wanting rows name place) word)
      (walked s.rules [] (wanting rows name place) word)
  unfolding walked
  wanting_plain rows given name place places word among agrees free fits dashes long short =
      let found = serves.by_id name among in
      let apart = named_apart is_option name among places (λ row later place rules fit. fit.no_option) s.rules place fits in
      rw (dashes, long, short, found, same_eq) (
        refl,
        record {
          rows = more_rows name word rows;
          place = place;
          agrees = agrees_more given rows name word how.AsWritten CommandLine agrees;
          free = free_more name how.AsWritten CommandLine (word ∷ []) places rows free apart;
          fits = fits;
          stands = (record { rows = rows; pending = Some (name, word ∷ []); skip = 0 }, refl, option_settles rows rows 0 name word refl refl among);
        },
      )

  wanting_named : (rows : List Row) (name : Text) (place : ℕ) (word other : Text) (text : Option Text) (is_known is_set : Bool) → is_option name ≡ true
      → is_option other ≡ is_known → is_flag other ≡ is_set → bytes_eq word hyphens ≡ false → long_of word ≡ Some (other, text)
      → turn_fault s [] (wanting rows name place) word ≡ [] → ⊥
  wanting_named rows name place word other (Some text) true is_set among known set dashes long =
      let found = serves.by_id name among in rw (dashes, long, serves.by_long other, known, found) (some_fault _ _)
  wanting_named rows name place word other None true is_set among known set dashes long =
      let found = serves.by_id name among in rw (dashes, long, serves.by_long other, known, found) (some_fault _ _)
  wanting_named rows name place word other (Some text) false true among known set dashes long =
      rw (dashes, long, serves.by_long other, known, set) (some_fault _ _)
  wanting_named rows name place word other None false true among known set dashes long =
      let found = serves.by_id name among in rw (dashes, long, serves.by_long other, known, set, found) (some_fault _ _)
  wanting_named rows name place word other text false false among known set dashes long =
      rw (dashes, long, serves.by_long other, known, set) (some_fault _ _)

  -- ---- a word that begins with one hyphen

  resting_short : (h : Held) (place b x : ℕ) (rest word : Text) → h.skip ≡ 0 → slice_get (chars (b ∷ rest)) 0 ≡ Some x
      → bytes_eq word hyphens ≡ false → long_of word ≡ None → short_of word ≡ Some (b ∷ rest) → turn_fault s [] (resting h place) word ≡ [] → ⊥
  unfolding flags_fault
  resting_short h place b x rest word none char dashes long short =
      rw (dashes, long, short, char, none, serves.by_short x) (some_fault _ _)

  wanting_short : (rows : List Row) (name : Text) (place b x : ℕ) (rest word : Text) → slice_get (chars (b ∷ rest)) 0 ≡ Some x
      → bytes_eq word hyphens ≡ false → long_of word ≡ None → short_of word ≡ Some (b ∷ rest) → turn_fault s [] (wanting rows name place) word ≡ [] → ⊥
  unfolding flags_fault
  wanting_short rows name place b x rest word char dashes long short =
      rw (dashes, long, short, char, serves.by_short x) (some_fault _ _)

  -- ---- one more word

  first_char : (b : ℕ) (rest : Text) → IsUtf8 (b ∷ rest) → (x : ℕ) × (slice_get (chars (b ∷ rest)) 0 ≡ Some x)
  first_char b rest utf8 = read utf8.0 utf8.1.0 utf8.1.1
    where
      read : (cs : List ℕ) → scalars cs ≡ true → encodes cs ≡ b ∷ rest → (x : ℕ) × (slice_get (chars (b ∷ rest)) 0 ≡ Some x)
      read [] are is = absurd (let no : [] ≡ b ∷ rest = is in cc)
      read (x ∷ cs) are is = (x, ap (λ t. slice_get t 0) (sym (ap chars is) ∙ chars-encodes (x ∷ cs) are))

  behind_hyphen : (b : ℕ) (rest word : Text) → IsUtf8 word → word ≡ 45 ∷ b ∷ rest → IsUtf8 (b ∷ rest)
  behind_hyphen b rest word utf8 is =
      let whole : IsUtf8 (45 ∷ b ∷ rest) = subst IsUtf8 is utf8 in
      IsUtf8-drop (45 ∷ b ∷ rest) 1 whole (IsCharBoundary-after_ascii (45 ∷ b ∷ rest) 0 whole (omega arith) (omega arith))

  module _ (given : List Given) (places : List PositionRow) (word : Text) (readable : IsReadable word) (rows : List Row) (place : ℕ)
      (agrees : Agrees given rows) (free : Free rows places) (fits : Places s.rules place places) where
    rest_step : Look word → (h : Held) → Settles h rows
        → Goes (after_shape (record { given = given; places = places; waiting = None }) None (shape_of word) word) (turn_fault s [] (resting h place) word) (walked s.rules [] (resting h place) word)
    rest_step (looks_plain shape dashes long short) h settles = rw shape (by_place places free fits)
      where
        by_place : (places : List PositionRow) → Free rows places → Places s.rules place places
            → Goes (after_positional given places word) (turn_fault s [] (resting h place) word) (walked s.rules [] (resting h place) word)
        by_place [] free fits = resting_no_place h place word fits dashes long short
        by_place (row ∷ later) free fits = resting_plain h rows given place row later word settles agrees free fits dashes long short
    rest_step (looks_named name text shape dashes long) h settles =
        rw shape (resting_named h rows given place places settles agrees free fits word name text (is_option name) (is_flag name) refl refl dashes long)
    rest_step (looks_short b rest shape dashes long short is) h settles =
        let char = first_char b rest (behind_hyphen b rest word readable.utf8 is) in
        rw shape (resting_short h place b char.0 rest word settles.skips_none char.1 dashes long short)
    rest_step (looks_lone shape lone) h settles = absurd (true_is_not (is_lone word) lone readable.not_lone)

    want_step : Look word → (name : Text) → is_option name ≡ true
        → Goes (after_shape (record { given = given; places = places; waiting = Some name }) (Some name) (shape_of word) word) (turn_fault s [] (wanting rows name place) word) (walked s.rules [] (wanting rows name place) word)
    want_step (looks_plain shape dashes long short) name among = rw shape (wanting_plain rows given name place places word among agrees free fits dashes long short)
    want_step (looks_named other text shape dashes long) name among =
        rw shape (wanting_named rows name place word other text (is_option other) (is_flag other) among refl refl dashes long)
    want_step (looks_short b rest shape dashes long short is) name among =
        let char = first_char b rest (behind_hyphen b rest word readable.utf8 is) in
        rw shape (wanting_short rows name place b char.0 rest word char.1 dashes long short)
    want_step (looks_lone shape lone) name among = absurd (true_is_not (is_lone word) lone readable.not_lone)

    by_waiting : (waiting : Option Text) (w : Walk) → StandsAt waiting rows place w
        → Goes (after_shape (record { given = given; places = places; waiting = waiting }) waiting (shape_of word) word) (turn_fault s [] w word) (walked s.rules [] w word)
    by_waiting None w stands = rw stands.1 (rest_step (look_of word) stands.0 stands.2)
    by_waiting (Some name) w stands = rw stands.0 (want_step (look_of word) name stands.1)

  step : (r : Reading) (w : Walk) (word : Text) → IsReadable word → Follows r w → Goes (after_word (Some r) word) (turn_fault s [] w word) (walked s.rules [] w word)
  step r w word readable f = by_waiting r.given r.places word readable f.rows f.place f.agrees f.free f.fits r.waiting w f.stands

  -- ---- all words

  more : (o : Option Reading) (faults : Kinds) (w : Walk) (words : List Text) → Goes o faults w
      → ((r : Reading) → Follows r w → Goes (fold after_word (Some r) words) (walk_fault s [] w words) (fold (walked s.rules []) w words))
      → Goes (fold after_word o words) (or_else faults (walk_fault s [] w words)) (fold (walked s.rules []) w words)
  more None faults w words goes rest = rw refused_stays (first_fault faults (walk_fault s [] w words) goes)
  more (Some r) faults w words goes rest = let none = goes.0 in rw none (rest r goes.1)

  pub follows : (words : List Text) → AreReadable words → (r : Reading) (w : Walk) → Follows r w
      → Goes (fold after_word (Some r) words) (walk_fault s [] w words) (fold (walked s.rules []) w words)
  unfolding walk_fault
  follows [] readable r w f = (refl, f)
  follows (word ∷ words) readable r w f =
      more (after_word (Some r) word) (turn_fault s [] w word) (walked s.rules [] w word) words (step r w word readable.0 f)
      (λ r' f'. follows words readable.1 r' (walked s.rules [] w word) f')
