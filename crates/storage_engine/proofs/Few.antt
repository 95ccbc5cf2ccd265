-- A text has few edges: a line that says one has three bytes at least, and a line feed ends each line but the last.
use Rattle.std.proofs.Common.{◌≡◌, ◌∙◌, ℕ, zero, suc, flat_map, ◌+◌, ◌-◌, ◌*◌, ◌<◌, ◌==◌, get_or, ◌≤◌, List, [], ◌∷◌, ◌++◌, length, take, Bool, true, false, cond, Option, Some, None, refl, ap, arith, length-append}
use Rattle.std.specs.Prelude.{filter}
use Rattle.std.specs.List.{All, slice_split, onto_first, range_with_len}
use Rattle.std.specs.Str.Lines.{strip_carriage_return}
use Rattle.std.proofs.Math.Nat.{le_of_mul-le-mul_right}
use Rattle.std.proofs.lemmas.List.{length-take}
use Rattle.std.proofs.lemmas.List.Elements.{All-nil, All-cons, All-weaker}
use Rattle.graph_model.specs.declared.job.Job.{Job}
use Rattle.graph_model.specs.Jobs.{IsWellFormedJob, parts_of}
use Rattle.ports.specs.Disk.{DiskState}
use Rattle.seeded_place.specs.Placing.{Placing}
use Rattle.chunk_model.specs.Chunks.{full_chunks, chunk_of, left_over}
use Rattle.chunk_file.specs.declared.index.Place.{Place}
use Rattle.chunk_file.specs.declared.index.TheConstants.{MOST_PLACES}
use Rattle.chunk_file.specs.Places.{total_of}
use Rattle.store_model.specs.Graphs.{home_of}
use Rattle.storage_engine.specs.Making.{AreFew, HasMade, IsMaking}
use Rattle.storage_engine.proofs.Flushing.{rests_below}
use Rattle.chunk_model.proofs.Counted.{full_chunks_few}
use Rattle.graph_model.specs.declared.edge.Edge.{Edge}
use Rattle.graph_model.specs.declared.edge.Meaning.TheVariants.{Nothing}
use Rattle.graph_model.specs.EdgeText.{is_line_feed, is_separator, has_bytes, fields, parts, all_but_last, last_of, last_line, ended_lines, last_part, meaning, meaning_of_fields, edge_of_fields, edge_of, edges_said, edges_of_lines, edges_of_text, begins_comment, number, directions}
use Rattle.graph_model.specs.declared.edge.TheConstants.{MAX_WEIGHT}
use Rattle.graph_model.proofs.TextLemmas.{has_parts, split_parts, edges_of_lines-append, edges_of_lines-one, edges_of_lines-nil}

-- the bytes of parts, and one more for each
abbrev spread : List (List ℕ) → ℕ
spread [] = 0
spread (x ∷ xs) = length x + 1 + spread xs

spread-append : (xs ys : List (List ℕ)) → spread (xs ++ ys) ≡ spread xs + spread ys
spread-append [] ys = omega arith
spread-append (x ∷ xs) ys = omega (arith, spread-append xs ys)

spread_step : (cut : Bool) (b : ℕ) (ps : List (List ℕ)) → has_parts ps ≡ true → spread (cond cut ([] ∷ ps) (onto_first b ps)) ≡ spread ps + 1
spread_step cut b [] p = absurd (cc)
spread_step true b (x ∷ more) p = omega arith
spread_step false b (x ∷ more) p = omega arith

spread_split : (p : ℕ → Bool) (xs : List ℕ) → spread (slice_split p xs) ≡ length xs + 1
spread_split p [] = omega arith
spread_split p (x ∷ xs) = omega (arith, spread_step (p x) x (slice_split p xs) (split_parts p xs), spread_split p xs)

-- parts with bytes
with_bytes : (ps : List (List ℕ)) → 2 * length (filter has_bytes ps) ≤ spread ps
with_bytes [] = omega arith
with_bytes ([] ∷ ps) = omega (arith, with_bytes ps)
with_bytes ((b ∷ bs) ∷ ps) = omega (arith, with_bytes ps)

fields_few : (content : List ℕ) → 2 * length (fields content) ≤ length content + 1
fields_few content = omega (arith, with_bytes (slice_split is_separator content), spread_split is_separator content)

-- An edge takes two fields.
one_edge : (both : Bool) (e : Edge) → length (directions both e) ≤ 2
one_edge false e = omega arith
one_edge true e = omega arith

edges_two : (both : Bool) (s d w : Option ℕ) → length (edges_said both (edge_of s d w)) ≤ 2
edges_two both (Some s) (Some d) (Some w) = one_edge both (record { src = s; dst = d; weight = w })
edges_two both (Some s) (Some d) None = omega arith
edges_two both (Some s) None w = omega arith
edges_two both None d w = omega arith

edges_by_fields : (both : Bool) (vertices : ℕ) (fs : List (List ℕ)) → length (edges_said both (edge_of_fields vertices fs)) ≤ length fs
edges_by_fields both vertices [] = omega arith
edges_by_fields both vertices (s ∷ []) = omega arith
edges_by_fields both vertices (s ∷ d ∷ []) = omega (arith, edges_two both (number vertices s) (number vertices d) (Some 1))
edges_by_fields both vertices (s ∷ d ∷ w ∷ []) = omega (arith, edges_two both (number vertices s) (number vertices d) (number (MAX_WEIGHT + 1) w))
edges_by_fields both vertices (s ∷ d ∷ w ∷ x ∷ xs) = omega arith

comment_or : (comment : Bool) (both : Bool) (vertices : ℕ) (fs : List (List ℕ)) → length (edges_said both (cond comment Nothing (edge_of_fields vertices fs))) ≤ length fs
comment_or true both vertices fs = omega arith
comment_or false both vertices fs = edges_by_fields both vertices fs

edges_of_meaning : (both : Bool) (vertices : ℕ) (fs : List (List ℕ)) → length (edges_said both (meaning_of_fields vertices fs)) ≤ length fs
edges_of_meaning both vertices [] = omega arith
edges_of_meaning both vertices (f ∷ fs) = comment_or (begins_comment f) both vertices (f ∷ fs)

cut_no_longer : (cut : Bool) (n : ℕ) (xs : List ℕ) → length (cond cut (take n xs) xs) ≤ length xs
cut_no_longer true n xs = omega (arith, length-take n xs)
cut_no_longer false n xs = omega arith

strip_no_longer : (line : List ℕ) → length (strip_carriage_return line) ≤ length line
strip_no_longer line = cut_no_longer (get_or line (length line - 1) 0 == 13) (length line - 1) line

line_few : (vertices : ℕ) (both : Bool) (line : List ℕ) → 2 * length (edges_said both (meaning vertices line)) ≤ length line + 1
unfolding meaning
line_few vertices both line =
    omega (arith, edges_of_meaning both vertices (fields (strip_carriage_return line)), fields_few (strip_carriage_return line), strip_no_longer line)

lines_few : (vertices : ℕ) (both : Bool) (ls : List (List ℕ)) → 2 * length (edges_of_lines vertices both ls) ≤ spread ls
lines_few vertices both [] = omega (arith, ap length (edges_of_lines-nil vertices both))
lines_few vertices both (line ∷ ls) =
    omega (
      arith,
      ap length (edges_of_lines-append vertices both (line ∷ []) ls ∙ ap (λ es. es ++ edges_of_lines vertices both ls) (edges_of_lines-one vertices both line)),
      length-append (edges_said both (meaning vertices line)) (edges_of_lines vertices both ls),
      line_few vertices both line,
      lines_few vertices both ls,
    )

all_but : (ps : List (List ℕ)) → has_parts ps ≡ true → spread (all_but_last ps) + length (last_of ps) + 1 ≡ spread ps
all_but [] p = absurd (cc)
all_but (x ∷ []) p = omega arith
all_but (x ∷ y ∷ ys) p = omega (arith, all_but (y ∷ ys) refl)

-- **The lines that have ended have at most one edge for two bytes.**
pub ended_few : (vertices : ℕ) (both : Bool) (text : List ℕ) → 2 * length (edges_of_lines vertices both (ended_lines text)) ≤ length text
unfolding ended_lines
ended_few vertices both text =
    omega (arith, lines_few vertices both (all_but_last (parts text)), all_but (parts text) (split_parts is_line_feed text), spread_split is_line_feed text)

last_spread : (last : List ℕ) → spread (last_line last) ≤ length last + 1
last_spread [] = omega arith
last_spread (b ∷ bs) = omega arith

-- **So has a whole text, but for its last line.**
pub text_few : (vertices : ℕ) (both : Bool) (text : List ℕ) → 2 * length (edges_of_text vertices both text) ≤ length text + 1
unfolding ended_lines last_part
text_few vertices both text =
    omega (
      arith,
      lines_few vertices both (all_but_last (parts text) ++ last_line (last_of (parts text))),
      spread-append (all_but_last (parts text)) (last_line (last_of (parts text))),
      last_spread (last_of (parts text)),
      all_but (parts text) (split_parts is_line_feed text),
      spread_split is_line_feed text,
    )

-- Homes of some items have a bound.
bounded : {X : Type 0} (home : X → ℕ) (xs : List X) → (b : ℕ) × All (λ x. home x < b) xs
bounded home [] = (0, All-nil (λ x. home x < 0))
bounded home (x ∷ xs) =
    let rest = bounded home xs in
    let more : ℕ = home x + 1 + rest.0 in
    (more, All-cons (λ y. home y < more) x xs (omega arith) (All-weaker (λ y. home y < rest.0) (λ y. home y < more) (λ y below. omega (arith, below)) xs rest.1))

-- **Few edges fill few chunks.**
pub full_few : {X : Type 0} (size most : ℕ) (home : X → ℕ) (xs : List X) → 1 ≤ size → length xs ≤ most * size → length (full_chunks size home [] xs) ≤ most
full_few size most home xs some few =
    let all = bounded home xs in
    le_of_mul-le-mul_right {k = size} (omega (arith, full_chunks_few size home all.0 xs some all.1, few)) (omega arith)

-- what is left over of a partition is one chunk at most
one_rest : (p : ℕ) (items : List Edge) → length (chunk_of p items) ≤ 1
one_rest p [] = omega arith
one_rest p (x ∷ xs) = omega arith

rests_few : (job : Job) (edges : List Edge) (first n : ℕ) → length (flat_map (λ p. chunk_of p (left_over job.chunk (home_of job) edges p)) (range_with_len first n)) ≤ n
rests_few job edges first zero = omega arith
rests_few job edges first (suc n) =
    omega (
      arith,
      one_rest first (left_over job.chunk (home_of job) edges first),
      rests_few job edges (first + 1) n,
      length-append (chunk_of first (left_over job.chunk (home_of job) edges first)) (flat_map (λ p. chunk_of p (left_over job.chunk (home_of job) edges p)) (range_with_len (first + 1) n)),
    )

-- **An index has room for one chunk more while few edges are given.**
pub room_while_given : {X : Type 0} (state : X → DiskState) (job : Job) (edges more : List Edge) (buffers : List (List Edge)) (placer : Placing) (index : List (List Place)) (graphs : List X)
    → IsWellFormedJob job → IsMaking state job edges buffers placer index graphs → AreFew job (edges ++ more) → total_of index < MOST_PLACES
room_while_given state job edges more buffers placer index graphs well making few =
    let fewer : length edges ≤ 1073741824 * job.chunk = omega (arith, few, length-append edges more) in
    let made : length (full_chunks job.chunk (home_of job) [] edges) ≤ 1073741824 = full_few job.chunk 1073741824 (home_of job) edges well.chunk.0 fewer in
    omega (arith, making.made.places.total, made)

-- **And while what is left over is written.**
pub room_while_written : {X : Type 0} (state : X → DiskState) (job : Job) (edges : List Edge) (i : ℕ) (placer : Placing) (index : List (List Place)) (graphs : List X)
    → IsWellFormedJob job → i ≤ parts_of job → HasMade state job (full_chunks job.chunk (home_of job) [] edges ++ rests_below job edges i) placer index graphs → AreFew job edges → total_of index < MOST_PLACES
room_while_written state job edges i placer index graphs well below made few =
    let full : length (full_chunks job.chunk (home_of job) [] edges) ≤ 1073741824 = full_few job.chunk 1073741824 (home_of job) edges well.chunk.0 few in
    omega (arith, made.places.total, full, rests_few job edges 0 i, length-append (full_chunks job.chunk (home_of job) [] edges) (rests_below job edges i), well.few_parts)
