-- The lines of a made text: each says the edge that its words draw.
use Rattle.std.proofs.Common.{◌≡◌, ℕ, zero, suc, ◌+◌, ◌%◌, ◌^◌, ◌<◌, ◌≤◌, List, [], ◌∷◌, ◌++◌, Bool, false, Some, None, refl, ◌∙◌, ap, append_assoc, arith}
use Rattle.std.specs.Prelude.{decimal}
use Rattle.std.specs.List.{All, flat_map}
use Rattle.std.specs.Str.Parse.{digits_value}
use Rattle.std.proofs.lemmas.Fmt.{decimal_is_IsNumeral}
use Rattle.std.proofs.lemmas.List.{append-nil}
use Rattle.graph_model.specs.declared.edge.Edge.{Edge}
use Rattle.graph_model.specs.declared.edge.Meaning.TheVariants.{One}
use Rattle.graph_model.specs.declared.edge.TextFault.TheVariants.{BadLine}
use Rattle.graph_model.specs.EdgeText.{is_line_feed, ended_lines, last_part, last_line, lines, meaning, directions, edges_said, edges_of_lines, edges_of_text, is_malformed, first_malformed, refusal}
use Rattle.graph_model.proofs.TextLemmas.{ended_lines-nil, last_part-nil, first_malformed-cons, first_malformed-nil}
use Rattle.rmat_source.specs.Words.{text_key, word_of}
use Rattle.rmat_source.specs.Rmat.{source_bit, destination_bit, end_of, lines_from, rmat_text}
use Rattle.rmat_source.specs.Edges.{edge_from, edges_from, rmat_edges}
use Rattle.rmat_source.proofs.NumberFields.{decimal_is_field}
use Rattle.rmat_source.proofs.WellFormedLines.{three_fields, lacks_line_feed, three_fields_say, ended_lines-first, last_part-first, not_refused_for_a_line}

source_is_bit : (y : ℕ) → source_bit y ≤ 1
source_is_bit y = grind arith

destination_is_bit : (y : ℕ) → destination_bit y ≤ 1
destination_is_bit y = grind arith

-- The line of an edge without its line feed, and the edge that is read of it.
abbrev content : Edge → List ℕ
content edge = three_fields (decimal edge.src) (decimal edge.dst) (decimal edge.weight)

abbrev read_again : Edge → Edge
read_again edge = record {
  src = digits_value 10 (decimal edge.src);
  dst = digits_value 10 (decimal edge.dst);
  weight = digits_value 10 (decimal edge.weight);
}

no_line_feed : (edge : Edge) → All (λ b. is_line_feed b ≡ false) (content edge)
no_line_feed edge =
    lacks_line_feed (decimal edge.src) (decimal edge.dst) (decimal edge.weight) edge.src edge.dst edge.weight
    (decimal_is_field edge.src) (decimal_is_field edge.dst) (decimal_is_field edge.weight)

ends_line : (s d w rest : List ℕ) → (s ++ 32 ∷ d ++ 32 ∷ w ++ 10 ∷ []) ++ rest ≡ three_fields s d w ++ 10 ∷ rest
ends_line s d w rest = simp append_assoc refl

module _ (word : ℕ → ℕ) where
  -- so many bits make a number below that power of 2
  end_below : (bit : ℕ → ℕ) → ((y : ℕ) → bit y ≤ 1) → (place count : ℕ) → end_of word bit place count < 2 ^ count
  end_below bit is_bit place zero = omega arith
  end_below bit is_bit place (suc count) =
      let front = end_below bit is_bit place count in
      let last = is_bit (word (place + count) % 100) in
      omega arith

  says_one : (vertices scale place : ℕ) → 2 ^ scale ≤ vertices → meaning vertices (content (edge_from word scale place)) ≡ One (read_again (edge_from word scale place))
  says_one vertices scale place fits =
      let edge = edge_from word scale place in
      let source = end_below source_bit source_is_bit place scale in
      let destination = end_below destination_bit destination_is_bit place scale in
      three_fields_say vertices edge.src edge.dst edge.weight (decimal edge.src) (decimal edge.dst) (decimal edge.weight)
      (decimal_is_field edge.src) (decimal_is_field edge.dst) (decimal_is_field edge.weight) (omega arith) (omega arith) (omega arith)

  is_read_again : (vertices scale place : ℕ) → 2 ^ scale ≤ vertices → vertices ≤ 2 ^ 64 → read_again (edge_from word scale place) ≡ edge_from word scale place
  is_read_again vertices scale place fits small =
      let edge = edge_from word scale place in
      let source = end_below source_bit source_is_bit place scale in
      let destination = end_below destination_bit destination_is_bit place scale in
      rw ((decimal_is_IsNumeral edge.src (omega arith)).1, (decimal_is_IsNumeral edge.dst (omega arith)).1, (decimal_is_IsNumeral edge.weight (omega arith)).1) refl

  first_line : (scale place count : ℕ) → lines_from word scale place (suc count) ≡ content (edge_from word scale place) ++ 10 ∷ lines_from word scale (place + (scale + 1)) count
  first_line scale place count =
      let edge = edge_from word scale place in
      ends_line (decimal edge.src) (decimal edge.dst) (decimal edge.weight) (lines_from word scale (place + (scale + 1)) count)

  first_ended : (scale place count : ℕ) → ended_lines (lines_from word scale place (suc count)) ≡ content (edge_from word scale place) ∷ ended_lines (lines_from word scale (place + (scale + 1)) count)
  first_ended scale place count =
      let edge = edge_from word scale place in
      ap ended_lines (first_line scale place count)
      ∙ ended_lines-first (content edge) (lines_from word scale (place + (scale + 1)) count) (no_line_feed edge)

  all_ended : (scale place count : ℕ) → last_part (lines_from word scale place count) ≡ []
  all_ended scale place zero = last_part-nil
  all_ended scale place (suc count) =
      let edge = edge_from word scale place in
      ap last_part (first_line scale place count)
      ∙ last_part-first (content edge) (lines_from word scale (place + (scale + 1)) count) (no_line_feed edge)
      ∙ all_ended scale (place + (scale + 1)) count

  lines_are_ended : (scale place count : ℕ) → lines (lines_from word scale place count) ≡ ended_lines (lines_from word scale place count)
  lines_are_ended scale place count =
      ap (λ last. ended_lines (lines_from word scale place count) ++ last_line last) (all_ended scale place count) ∙ append-nil (ended_lines (lines_from word scale place count))

  none_malformed : (vertices scale place count : ℕ) → 2 ^ scale ≤ vertices → first_malformed vertices (ended_lines (lines_from word scale place count)) ≡ None
  none_malformed vertices scale place zero fits = ap (first_malformed vertices) ended_lines-nil ∙ first_malformed-nil vertices
  none_malformed vertices scale place (suc count) fits =
      let edge = edge_from word scale place in
      let rest = lines_from word scale (place + (scale + 1)) count in
      let well : is_malformed (meaning vertices (content edge)) ≡ false = ap is_malformed (says_one vertices scale place fits) in
      ap (first_malformed vertices) (first_ended scale place count)
      ∙ first_malformed-cons vertices (content edge) (ended_lines rest)
      ∙ rw (well, none_malformed vertices scale (place + (scale + 1)) count fits) refl

  edges_said_are : (vertices scale place count : ℕ) (both : Bool) → 2 ^ scale ≤ vertices → vertices ≤ 2 ^ 64
      → edges_of_lines vertices both (ended_lines (lines_from word scale place count)) ≡ flat_map (directions both) (edges_from word scale place count)
  unfolding edges_of_lines
  edges_said_are vertices scale place zero both fits small = ap (edges_of_lines vertices both) ended_lines-nil
  edges_said_are vertices scale place (suc count) both fits small =
      let edge = edge_from word scale place in
      let rest = lines_from word scale (place + (scale + 1)) count in
      ap (edges_of_lines vertices both) (first_ended scale place count)
      ∙ ap (λ said. edges_said both said ++ edges_of_lines vertices both (ended_lines rest)) (says_one vertices scale place fits ∙ ap One (is_read_again vertices scale place fits small))
      ∙ ap (λ more. directions both edge ++ more) (edges_said_are vertices scale (place + (scale + 1)) count both fits small)

-- **No line of a made text is malformed.**
pub made_text_not_refused : (vertices limit scale edges rng line : ℕ) → 2 ^ scale ≤ vertices → refusal vertices limit (rmat_text scale edges rng) ≡ Some (BadLine line) → ⊥
made_text_not_refused vertices limit scale edges rng line fits =
    let word = word_of (text_key rng) in
    not_refused_for_a_line vertices limit line (rmat_text scale edges rng)
    (ap (first_malformed vertices) (lines_are_ended word scale 0 edges) ∙ none_malformed word vertices scale 0 edges fits)

-- **Its edges are those drawn.**
pub made_edges_are_drawn : (vertices scale edges rng : ℕ) (both : Bool) → 2 ^ scale ≤ vertices → vertices ≤ 2 ^ 64
    → edges_of_text vertices both (rmat_text scale edges rng) ≡ flat_map (directions both) (rmat_edges scale edges rng)
made_edges_are_drawn vertices scale edges rng both fits small =
    let word = word_of (text_key rng) in
    ap (edges_of_lines vertices both) (lines_are_ended word scale 0 edges) ∙ edges_said_are word vertices scale 0 edges both fits small
