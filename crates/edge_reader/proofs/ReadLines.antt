-- What becomes of what a reader has read when a byte, a line or the text's end comes.
use Rattle.std.proofs.Common.{◌≡◌, ℕ, ◌+◌, ◌^◌, ◌<◌, List, [], ◌∷◌, ◌++◌, length, min, Bool, true, false, cond, Some, None, ◌⊎◌, inl, inr, refl, sym, ◌∙◌, ap, arith, length-append}
use Rattle.std.specs.Option.{option_map}
use Rattle.graph_model.specs.declared.edge.Edge.{Edge}
use Rattle.graph_model.specs.declared.edge.Meaning.TheVariants.{Nothing}
use Rattle.graph_model.specs.declared.edge.TextFault.{TextFault}
use Rattle.graph_model.specs.declared.edge.TextFault.TheVariants.{BadLine, Memory}
use Rattle.graph_model.specs.EdgeText.{is_line_feed, ended_lines, last_part, last_line, meaning, edges_said, edges_of_lines, is_malformed, first_malformed}
use Rattle.graph_model.proofs.TextLemmas.{ended_lines-nil, last_part-nil, ended_lines-feed, last_part-feed, ended_lines-byte, last_part-byte, edges_of_lines-append, edges_of_lines-one, edges_of_lines-nil, first_malformed-nil, first_malformed-cons, first_malformed-append_none}
use Rattle.edge_reader.specs.declared.reader.EdgeReader.{EdgeReader}
use Rattle.edge_reader.specs.Line.{empty_line, line_of, line_after, line_end}
use Rattle.edge_reader.specs.Reading.{most_lines, Reads, Adds, AddsSome, IsLineFault}
use Rattle.edge_reader.proofs.LineMeaning.{line_end-line_of, line_of-push}

-- These lines say what the last one says: it alone, or none where it is empty and no line.
pub record IsLast (vertices : ℕ) (both : Bool) (last : List ℕ) (ls : List (List ℕ)) : Type 0 where
  pub edges : edges_of_lines vertices both ls ≡ edges_said both (meaning vertices last)
  pub bad : first_malformed vertices ls ≡ cond (is_malformed (meaning vertices last)) (Some 1) None

pub IsLast-one : (vertices : ℕ) (both : Bool) (last : List ℕ) → IsLast vertices both last (last ∷ [])
IsLast-one vertices both last = record {
  edges = edges_of_lines-one vertices both last;
  bad = first_malformed-cons vertices last []
      ∙ ap (λ rest. cond (is_malformed (meaning vertices last)) (Some 1) (option_map (λ k. k + 1) rest)) (first_malformed-nil vertices);
}

meaning-nil : (vertices : ℕ) → meaning vertices [] ≡ Nothing
unfolding meaning
meaning-nil vertices = refl

pub IsLast-end : (vertices : ℕ) (both : Bool) (last : List ℕ) → IsLast vertices both last (last_line last)
IsLast-end vertices both [] = record {
  edges = edges_of_lines-nil vertices both ∙ sym (ap (edges_said both) (meaning-nil vertices));
  bad = first_malformed-nil vertices ∙ sym (ap (λ said. cond (is_malformed said) (Some 1) None) (meaning-nil vertices));
}
IsLast-end vertices both (b ∷ bs) = IsLast-one vertices both (b ∷ bs)

-- What the line says that has not ended.
pub line_end-last : (vertices : ℕ) (both : Bool) (r : EdgeReader) (text : List ℕ) → Reads vertices both r text
    → line_end r.vertices r.line ≡ meaning vertices (last_part text)
line_end-last vertices both r text reads =
    let range = reads.range in
    ap (λ n. line_end n r.line) reads.of_vertices
    ∙ ap (line_end vertices) reads.line
    ∙ line_end-line_of vertices (last_part text) (omega arith)

edges_said-last : (vertices : ℕ) (both : Bool) (r : EdgeReader) (text : List ℕ) → Reads vertices both r text
    → edges_said r.both (line_end r.vertices r.line) ≡ edges_said both (meaning vertices (last_part text))
edges_said-last vertices both r text reads =
    ap (λ either. edges_said either (line_end r.vertices r.line)) reads.of_both
    ∙ ap (edges_said both) (line_end-last vertices both r text reads)

-- The line ends: its edges are added, or it is refused.
pub Adds-last : (vertices : ℕ) (both : Bool) (r : EdgeReader) (text : List ℕ) (ls : List (List ℕ)) (old new : List Edge)
    → Reads vertices both r text → IsLast vertices both (last_part text) ls → new ≡ old ++ edges_said r.both (line_end r.vertices r.line)
    → Adds (edges_of_lines vertices both (ended_lines text)) (edges_of_lines vertices both (ended_lines text ++ ls)) old new
Adds-last vertices both r text ls old new reads last e = (
  edges_said both (meaning vertices (last_part text)),
  e ∙ ap (λ es. old ++ es) (edges_said-last vertices both r text reads),
  edges_of_lines-append vertices both (ended_lines text) ls
      ∙ ap (λ es. edges_of_lines vertices both (ended_lines text) ++ es) last.edges,
)

pub AddsSome-last : (vertices : ℕ) (both : Bool) (r : EdgeReader) (text : List ℕ) (ls : List (List ℕ)) (number : ℕ) (old new : List Edge) (fault : TextFault)
    → Reads vertices both r text → IsLast vertices both (last_part text) ls → IsLineFault number (line_end r.vertices r.line) r.both old new fault
    → AddsSome (edges_of_lines vertices both (ended_lines text)) (edges_of_lines vertices both (ended_lines text ++ ls)) old new
AddsSome-last vertices both r text ls number old new fault reads last stops = (
  stops.front.0,
  stops.front.1,
  stops.front.2,
  edges_of_lines-append vertices both (ended_lines text) ls
      ∙ ap (λ es. edges_of_lines vertices both (ended_lines text) ++ es)
      (last.edges ∙ sym (edges_said-last vertices both r text reads) ∙ stops.front.3),
)

bad_last : (vertices : ℕ) (both : Bool) (r : EdgeReader) (text : List ℕ) (ls : List (List ℕ)) (bad : Bool)
    → Reads vertices both r text → IsLast vertices both (last_part text) ls → is_malformed (line_end r.vertices r.line) ≡ bad
    → first_malformed vertices (ended_lines text ++ ls) ≡ option_map (λ k. length (ended_lines text) + k) (cond bad (Some 1) None)
bad_last vertices both r text ls bad reads last e =
    first_malformed-append_none vertices (ended_lines text) ls reads.good
    ∙ ap (option_map (λ k. length (ended_lines text) + k))
    (last.bad ∙ ap (λ x. cond x (Some 1) None) (ap is_malformed (sym (line_end-last vertices both r text reads)) ∙ e))

pub first_malformed-last : (vertices : ℕ) (both : Bool) (r : EdgeReader) (text : List ℕ) (ls : List (List ℕ))
    → Reads vertices both r text → IsLast vertices both (last_part text) ls → is_malformed (line_end r.vertices r.line) ≡ false
    → first_malformed vertices (ended_lines text ++ ls) ≡ None
first_malformed-last vertices both r text ls reads last e = bad_last vertices both r text ls false reads last e

pub cause_last : (vertices : ℕ) (both : Bool) (r : EdgeReader) (text : List ℕ) (ls : List (List ℕ)) (number : ℕ) (old new : List Edge) (fault : TextFault)
    → Reads vertices both r text → IsLast vertices both (last_part text) ls → IsLineFault number (line_end r.vertices r.line) r.both old new fault
    → (fault ≡ Memory) ⊎ ((first_malformed vertices (ended_lines text ++ ls) ≡ Some (length (ended_lines text) + 1)) × (fault ≡ BadLine number))
cause_last vertices both r text ls number old new fault reads last stops =
    elim stops.cause [
      | inl memory ↦ inl memory
      | inr bad ↦ inr (bad_last vertices both r text ls true reads last (ap is_malformed bad.0), bad.1)
    ]

-- A reader that has read nothing.
pub Reads-nil : (vertices : ℕ) (both : Bool) (r : EdgeReader) → vertices < 2 ^ 32 → r.vertices ≡ vertices → r.both ≡ both → r.ended ≡ 0
    → r.line ≡ empty_line → Reads vertices both r []
Reads-nil vertices both r range of_vertices of_both ended line = record {
  of_vertices = of_vertices;
  range = range;
  of_both = of_both;
  count = let none : length (ended_lines []) ≡ 0 = ap length ended_lines-nil in omega arith;
  line = line ∙ ap (line_of vertices) (sym last_part-nil);
  good = ap (first_malformed vertices) ended_lines-nil ∙ first_malformed-nil vertices;
}

-- A byte that is no line feed.
pub Reads-byte : (vertices : ℕ) (both : Bool) (r : EdgeReader) (text : List ℕ) (b : ℕ) → Reads vertices both r text → is_line_feed b ≡ false
    → Reads vertices both (record r { line = line_after r.vertices r.line b }) (text ++ b ∷ [])
Reads-byte vertices both r text b reads e = record {
  of_vertices = reads.of_vertices;
  range = reads.range;
  of_both = reads.of_both;
  count = reads.count ∙ ap (λ ls. min (length ls) most_lines) (sym (ended_lines-byte text b e));
  line = ap (λ n. line_after n r.line b) reads.of_vertices
      ∙ ap (λ l. line_after vertices l b) reads.line
      ∙ sym (line_of-push vertices (last_part text) b)
      ∙ ap (line_of vertices) (sym (last_part-byte text b e));
  good = ap (first_malformed vertices) (ended_lines-byte text b e) ∙ reads.good;
}

-- A line feed behind a line that is not malformed.
pub Reads-feed : (vertices : ℕ) (both : Bool) (r : EdgeReader) (text : List ℕ) → Reads vertices both r text
    → is_malformed (line_end r.vertices r.line) ≡ false
    → Reads vertices both (record r { ended = min (r.ended + 1) most_lines; line = empty_line }) (text ++ 10 ∷ [])
Reads-feed vertices both r text reads e =
    let ended = ended_lines-feed text in
    record {
      of_vertices = reads.of_vertices;
      range = reads.range;
      of_both = reads.of_both;
      count =
          let more : length (ended_lines (text ++ 10 ∷ [])) ≡ length (ended_lines text) + 1 =
          ap length ended ∙ length-append (ended_lines text) (last_part text ∷ []) in
          let count = reads.count in
          omega arith;
      line = ap (line_of vertices) (sym (last_part-feed text));
      good = ap (first_malformed vertices) ended
          ∙ first_malformed-last vertices both r text (last_part text ∷ []) reads (IsLast-one vertices both (last_part text)) e;
    }
