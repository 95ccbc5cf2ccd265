-- The edge text: its lines, what each says, and when the text is refused. A text is a list of bytes.
use Rattle.std.specs.Prelude.{ℕ, ◌+◌, ◌*◌, ◌^◌, List, [], ◌∷◌, ◌++◌, length, take, Bool, true, false, ◌==◌, ◌&&◌, ◌||◌, nat_lt, nat_le, if◌then◌else◌, Option, Some, None, filter, min}
use Rattle.std.specs.List.{slice_split, list_all, flat_map}
use Rattle.std.specs.Option.{option_map}
use Rattle.std.specs.Char.{is_ascii_digit}
use Rattle.std.specs.Str.Lines.{strip_carriage_return}
use Rattle.std.specs.Str.Parse.{digits_value}
use Rattle.graph_model.specs.declared.edge.Edge.{Edge}
use Rattle.graph_model.specs.declared.edge.Meaning.{Meaning}
use Rattle.graph_model.specs.declared.edge.Meaning.TheVariants.{Nothing, One, Malformed}
use Rattle.graph_model.specs.declared.edge.TextFault.{TextFault}
use Rattle.graph_model.specs.declared.edge.TextFault.TheVariants.{BadLine, TooLong}
use Rattle.graph_model.specs.declared.edge.TheConstants.{MAX_WEIGHT}

-- Lines.
abbrev pub is_line_feed : ℕ → Bool
is_line_feed b = b == 10

-- what stands between the line feeds, before the first and behind the last
abbrev pub parts : List ℕ → List (List ℕ)
parts text = slice_split is_line_feed text

abbrev pub all_but_last : List (List ℕ) → List (List ℕ)
all_but_last [] = []
all_but_last (x ∷ []) = []
all_but_last (x ∷ y ∷ ys) = x ∷ all_but_last (y ∷ ys)

abbrev pub last_of : List (List ℕ) → List ℕ
last_of [] = []
last_of (x ∷ []) = x
last_of (x ∷ y ∷ ys) = last_of (y ∷ ys)

-- the lines that a line feed ends
unfoldable pub ended_lines : List ℕ → List (List ℕ)
ended_lines text = all_but_last (parts text)

-- what stands behind the last line feed
unfoldable pub last_part : List ℕ → List ℕ
last_part text = last_of (parts text)

-- an empty last part is no line
abbrev pub last_line : List ℕ → List (List ℕ)
last_line [] = []
last_line (b ∷ bs) = (b ∷ bs) ∷ []

-- the lines of a whole text
abbrev pub lines : List ℕ → List (List ℕ)
lines text = ended_lines text ++ last_line (last_part text)

-- What a line says.
abbrev pub is_separator : ℕ → Bool
is_separator b = b == 32 || b == 9

abbrev pub has_bytes : List ℕ → Bool
has_bytes [] = false
has_bytes (b ∷ bs) = true

-- the fields: what stands between separators, and has bytes
abbrev pub fields : List ℕ → List (List ℕ)
fields content = filter has_bytes (slice_split is_separator content)

-- a decimal number below the bound
unfoldable pub number : ℕ → List ℕ → Option ℕ
number bound field =
    if has_bytes field && (list_all is_ascii_digit field && nat_lt (digits_value 10 field) bound)
    then Some (digits_value 10 field)
    else None

abbrev pub edge_of : Option ℕ → Option ℕ → Option ℕ → Meaning
edge_of (Some s) (Some d) (Some w) = One (record { src = s; dst = d; weight = w })
edge_of (Some s) (Some d) None = Malformed
edge_of (Some s) None w = Malformed
edge_of None d w = Malformed

-- two fields make an edge of weight 1, three an edge of the third's weight
abbrev pub edge_of_fields : ℕ → List (List ℕ) → Meaning
edge_of_fields vertices [] = Malformed
edge_of_fields vertices (s ∷ []) = Malformed
edge_of_fields vertices (s ∷ d ∷ []) = edge_of (number vertices s) (number vertices d) (Some 1)
edge_of_fields vertices (s ∷ d ∷ w ∷ []) = edge_of (number vertices s) (number vertices d) (number (MAX_WEIGHT + 1) w)
edge_of_fields vertices (s ∷ d ∷ w ∷ x ∷ xs) = Malformed

-- a comment begins with `#`
abbrev pub begins_comment : List ℕ → Bool
begins_comment [] = false
begins_comment (b ∷ bs) = b == 35

abbrev pub meaning_of_fields : ℕ → List (List ℕ) → Meaning
meaning_of_fields vertices [] = Nothing
meaning_of_fields vertices (f ∷ fs) = if begins_comment f then Nothing else edge_of_fields vertices (f ∷ fs)

-- what a line says in a graph of so many vertices; one carriage return at its end is no part of it
unfoldable pub meaning : ℕ → List ℕ → Meaning
meaning vertices line = meaning_of_fields vertices (fields (strip_carriage_return line))

-- The edges of lines, in order.
abbrev pub directions : Bool → Edge → List Edge
directions false e = e ∷ []
directions true e = e ∷ record { src = e.dst; dst = e.src; weight = e.weight } ∷ []

abbrev pub edges_said : Bool → Meaning → List Edge
edges_said both Nothing = []
edges_said both (One e) = directions both e
edges_said both Malformed = []

unfoldable pub edges_of_lines : ℕ → Bool → List (List ℕ) → List Edge
edges_of_lines vertices both ls = flat_map (λ line. edges_said both (meaning vertices line)) ls

-- the edges of a whole text, each in both directions where that is asked for
abbrev pub edges_of_text : ℕ → Bool → List ℕ → List Edge
edges_of_text vertices both text = edges_of_lines vertices both (lines text)

-- When a text is refused.
abbrev pub is_malformed : Meaning → Bool
is_malformed Nothing = false
is_malformed (One e) = false
is_malformed Malformed = true

-- the number, from 1, of the first malformed line
unfoldable pub first_malformed : ℕ → List (List ℕ) → Option ℕ
first_malformed vertices [] = None
first_malformed vertices (line ∷ ls) =
    if is_malformed (meaning vertices line) then Some 1 else option_map (λ k. k + 1) (first_malformed vertices ls)

-- a malformed line comes before the length
abbrev pub refused_for : Option ℕ → Bool → Option TextFault
refused_for (Some k) long = Some (BadLine k)
refused_for None true = Some TooLong
refused_for None false = None

-- of a text that may go on: a line counts where its line feed stands within the limit
abbrev pub refusal_so_far : ℕ → ℕ → List ℕ → Option TextFault
refusal_so_far vertices limit text =
    refused_for (first_malformed vertices (ended_lines (take limit text))) (nat_lt limit (length text))

-- of a whole text: a last line without line feed counts where the text's end stands within the limit
abbrev pub lines_within : ℕ → List ℕ → List (List ℕ)
lines_within limit text = if nat_le (length text) limit then lines text else ended_lines (take limit text)

-- why a whole text is refused, if it is
abbrev pub refusal : ℕ → ℕ → List ℕ → Option TextFault
refusal vertices limit text =
    refused_for (first_malformed vertices (lines_within limit text)) (nat_lt limit (length text))

-- the most bytes of a text whose chunks have so many records
abbrev pub text_limit : ℕ → ℕ
text_limit chunk = min (2 ^ 40) (2 ^ 31 * chunk)
