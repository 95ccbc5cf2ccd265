-- The texts of a name in the rows of clap.
use Rattle.std.proofs.Common.{◌≡◌, ◌∙◌, ◌||◌, ◌++◌, Bool, true, false, not, cond, List, [], ◌∷◌, refl, sym, ap, append-nil, unwrap_or, map, filter}
use Rattle.std.specs.List.{list_all}
use Rattle.std.specs.Str.{bytes_eq}
use Rattle.std.proofs.lemmas.List.{map-append}
use Rattle.std.proofs.lemmas.List.Elements.{filter-append}
use Rattle.std.proofs.lemmas.Bool.{false_from_ne_true, not-true, and_parts, and_from, or_parts}
use Rattle.clap.specs.Walk.{Row, all_of, has_row, with_values, without}
use Rattle.clap.specs.declared.builder.value_parser.Reading.{Reading}
use Rattle.clap.specs.declared.parser.matches.ValueSource.{ValueSource}
use Rattle.graph_model.proofs.BoolLemmas.{true_is_not}
use Rattle.job_words.specs.Tables.{Text, PositionRow}
use Rattle.job_words.specs.Reading.{Given, texts_of, with_given}
use Rattle.job_words.proofs.BoolLemmas.{same_of}

abbrev pub texts : Text → List Row → List Text
texts id rows = unwrap_or (all_of id rows) []

-- ---- one more use

other_text : (what id : Text) (r : Row) → bytes_eq r.id what ≡ true → bytes_eq r.id id ≡ false → bytes_eq what id ≡ false
other_text what id r same miss = ap (λ w. bytes_eq w id) (sym (same_of r.id what same)) ∙ miss

same_text : (what id : Text) (r : Row) → bytes_eq r.id what ≡ true → bytes_eq r.id id ≡ true → bytes_eq what id ≡ true
same_text what id r same hit = ap (λ w. bytes_eq w id) (sym (same_of r.id what same)) ∙ hit

own_text : (what id : Text) (r : Row) → bytes_eq r.id what ≡ false → bytes_eq r.id id ≡ true → bytes_eq what id ≡ false
own_text what id r other hit =
    false_from_ne_true (bytes_eq what id) (λ same. true_is_not (bytes_eq r.id what) (ap (bytes_eq r.id) (same_of what id same) ∙ hit) other)

module _ (what : Text) (how : Reading) (source : ValueSource) (values : List Text) where
  abbrev used_rows : List Row → List Row
  used_rows rows = with_values what how source values rows

  texts_step : (id : Text) (r : Row) (rs : List Row) (same : Bool) → bytes_eq r.id what ≡ same → (hit : Bool) → bytes_eq r.id id ≡ hit
      → texts id (used_rows rs) ≡ texts id rs ++ cond (bytes_eq what id) values []
      → texts id (used_rows (r ∷ rs)) ≡ texts id (r ∷ rs) ++ cond (bytes_eq what id) values []
  texts_step id r rs true e true h rest = let w = same_text what id r e h in rw (e, h, w) refl
  texts_step id r rs true e false h rest = let w = other_text what id r e h in rw (e, h, w) (sym (append-nil (texts id rs)))
  texts_step id r rs false e true h rest = let w = own_text what id r e h in rw (e, h, w) (sym (append-nil r.values))
  texts_step id r rs false e false h rest = rw (e, h) rest

  new_text : (id : Text) (hit : Bool) → bytes_eq what id ≡ hit → texts id (used_rows []) ≡ cond (bytes_eq what id) values []
  new_text id true h = rw h refl
  new_text id false h = rw h refl

  -- the values stand behind those that were there
  pub texts_more : (id : Text) (rows : List Row) → texts id (used_rows rows) ≡ texts id rows ++ cond (bytes_eq what id) values []
  texts_more id [] = new_text id (bytes_eq what id) refl
  texts_more id (r ∷ rs) = texts_step id r rs (bytes_eq r.id what) refl (bytes_eq r.id id) refl (texts_more id rs)

  row_step : (id : Text) (r : Row) (rs : List Row) (same : Bool) → bytes_eq r.id what ≡ same → bytes_eq what id ≡ false
      → has_row id (used_rows rs) ≡ has_row id rs → has_row id (used_rows (r ∷ rs)) ≡ has_row id (r ∷ rs)
  row_step id r rs true e other rest = rw e refl
  row_step id r rs false e other rest = rw e (ap (λ b. bytes_eq r.id id || b) rest)

  -- no other row comes
  pub has_row_more : (id : Text) (rows : List Row) → bytes_eq what id ≡ false → has_row id (used_rows rows) ≡ has_row id rows
  has_row_more id [] other = rw other refl
  has_row_more id (r ∷ rs) other = row_step id r rs (bytes_eq r.id what) refl other (has_row_more id rs other)

  -- none of the places has a row
  pub free_more : (places : List PositionRow) (rows : List Row) → list_all (λ (row : PositionRow). not (has_row row.name rows)) places ≡ true
      → list_all (λ (row : PositionRow). not (bytes_eq what row.name)) places ≡ true
      → list_all (λ (row : PositionRow). not (has_row row.name (used_rows rows))) places ≡ true
  free_more [] rows free others = refl
  free_more (row ∷ places) rows free others =
      let here = and_parts _ _ free in
      let other = and_parts _ _ others in
      let same : has_row row.name (used_rows rows) ≡ has_row row.name rows = has_row_more row.name rows (not-true _ other.0) in
      and_from _ _ (ap not same ∙ here.0) (free_more places rows here.1 other.1)

-- ---- a name without a row

without_step : (id : Text) (r : Row) (rs : List Row) → bytes_eq r.id id ≡ false → without id rs ≡ rs → without id (r ∷ rs) ≡ r ∷ rs
without_step id r rs other rest = rw other (ap (λ xs. r ∷ xs) rest)

pub without_none : (id : Text) (rows : List Row) → has_row id rows ≡ false → without id rows ≡ rows
without_none id [] none = refl
without_none id (r ∷ rs) none = let parts = or_parts _ _ none in without_step id r rs parts.0 (without_none id rs parts.1)

-- ---- the rows and what was given

abbrev pub Agrees : List Given → List Row → Type 0
Agrees given rows = (id : Text) → texts id rows ≡ texts_of id given

given_step : (given : List Given) (name text id : Text) (hit : Bool) → bytes_eq name id ≡ hit
    → texts_of id (with_given given name text) ≡ texts_of id given ++ cond (bytes_eq name id) (text ∷ []) []
given_step given name text id hit e =
    ap (map (λ (g : Given). g.text)) (filter-append (λ (g : Given). bytes_eq g.name id) given (record { name = name; text = text } ∷ []))
    ∙ map-append (λ (g : Given). g.text) (filter (λ (g : Given). bytes_eq g.name id) given) _
    ∙ ap (λ xs. texts_of id given ++ xs) (last hit e)
  where
    last : (b : Bool) → bytes_eq name id ≡ b
        → map (λ (g : Given). g.text) (filter (λ (g : Given). bytes_eq g.name id) (record { name = name; text = text } ∷ [])) ≡ cond (bytes_eq name id) (text ∷ []) []
    last true h = rw h refl
    last false h = rw h refl

pub agrees_more : (given : List Given) (rows : List Row) (name text : Text) (how : Reading) (source : ValueSource) → Agrees given rows
    → Agrees (with_given given name text) (with_values name how source (text ∷ []) rows)
agrees_more given rows name text how source agrees id =
    texts_more name how source (text ∷ []) id rows ∙ ap (λ xs. xs ++ cond (bytes_eq name id) (text ∷ []) []) (agrees id)
    ∙ sym (given_step given name text id (bytes_eq name id) refl)
