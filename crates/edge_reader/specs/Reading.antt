-- What a reader has read of a text, and what its calls do.
use Rattle.std.specs.Prelude.{◌≡◌, ℕ, ◌+◌, ◌-◌, ◌^◌, ◌<◌, List, ◌++◌, length, take, drop, min, Bool, Option, Some, None, Result, OnOk, IfErr, ◌⊎◌, All}
use Rattle.graph_model.specs.declared.edge.Edge.{Edge}
use Rattle.graph_model.specs.declared.edge.Meaning.{Meaning}
use Rattle.graph_model.specs.declared.edge.Meaning.TheVariants.{Malformed}
use Rattle.graph_model.specs.declared.edge.TextFault.{TextFault}
use Rattle.graph_model.specs.declared.edge.TextFault.TheVariants.{BadLine, Memory}
use Rattle.graph_model.specs.EdgeText.{ended_lines, last_part, first_malformed, edges_of_lines, edges_of_text, edges_said, refusal_so_far, refusal}
use Rattle.edge_reader.specs.declared.reader.EdgeReader.{EdgeReader}
use Rattle.edge_reader.specs.Line.{line_of}

-- the greatest number of a line that can be counted
abbrev pub most_lines : ℕ
most_lines = 2 ^ 64 - 1

-- what the reader keeps stands for this text, none of whose ended lines is malformed
pub record Reads (vertices : ℕ) (both : Bool) (r : EdgeReader) (text : List ℕ) : Type 0 where
  pub of_vertices : r.vertices ≡ vertices
  pub range : vertices < 2 ^ 32
  pub of_both : r.both ≡ both
  pub count : r.ended ≡ min (length (ended_lines text)) most_lines
  pub line : r.line ≡ line_of vertices (last_part text)
  pub good : first_malformed vertices (ended_lines text) ≡ None

-- The reader, made for these, was fed this text and no more, and refused nothing.
pub record HasRead (vertices : ℕ) (both : Bool) (limit : ℕ) (r : EdgeReader) (text : List ℕ) : Type 0 where
  pub reads : Reads vertices both r text
  pub room : r.left + length text ≡ limit
  pub bound : limit < 2 ^ 64
  pub stands : r.refused ≡ None

-- The reader has refused its text so.
abbrev pub IsRefused : EdgeReader → TextFault → Type 0
IsRefused r fault = r.refused ≡ Some fault

-- between what is said of two texts, of which the second goes on with the first, these edges were added
abbrev pub Adds : List Edge → List Edge → List Edge → List Edge → Type 0
Adds before after old new = (added : List Edge) × (new ≡ old ++ added) × (after ≡ before ++ added)

-- or a front of them was
abbrev pub AddsSome : List Edge → List Edge → List Edge → List Edge → Type 0
AddsSome before after old new = (added : List Edge) × (rest : List Edge) × (new ≡ old ++ added) × (after ≡ before ++ (added ++ rest))

-- each edge behind the old ones joins vertices below this number
abbrev pub AddsWithin : ℕ → List Edge → List Edge → Type 0
AddsWithin vertices old new = All (λ (e : Edge). (e.src < vertices) × (e.dst < vertices)) (drop (length old) new)

-- Want of memory apart, the fault is this one.
abbrev pub IsFault : TextFault → Option TextFault → Type 0
IsFault fault expected = (fault ≡ Memory) ⊎ (expected ≡ Some fault)

-- A piece was fed to a reader that had read this text.
pub record Feeds (vertices : ℕ) (both : Bool) (limit : ℕ) (text piece : List ℕ) (old new : List Edge) (r : EdgeReader) (result : Result (Unit {0}) TextFault) : Type 0 where
  pub reads : OnOk result (HasRead vertices both limit r (text ++ piece))
  pub accepted : OnOk result (refusal_so_far vertices limit (text ++ piece) ≡ None)
  pub added : OnOk result (Adds (edges_of_lines vertices both (ended_lines text)) (edges_of_lines vertices both (ended_lines (text ++ piece))) old new)
  pub within : OnOk result (AddsWithin vertices old new)
  pub fault : IfErr result (λ fault. IsFault fault (refusal_so_far vertices limit (text ++ piece)))
  pub refused : IfErr result (λ fault. IsRefused r fault)
  pub front : IfErr result (λ fault. AddsSome (edges_of_lines vertices both (ended_lines text)) (edges_of_lines vertices both (ended_lines (take limit (text ++ piece)))) old new)

-- The end of the text was told to a reader that had read it.
pub record Finishes (vertices : ℕ) (both : Bool) (limit : ℕ) (text : List ℕ) (old new : List Edge) (result : Result (Unit {0}) TextFault) : Type 0 where
  pub accepted : OnOk result (refusal vertices limit text ≡ None)
  pub added : OnOk result (Adds (edges_of_lines vertices both (ended_lines text)) (edges_of_text vertices both text) old new)
  pub within : OnOk result (AddsWithin vertices old new)
  pub fault : IfErr result (λ fault. IsFault fault (refusal vertices limit text))
  pub front : IfErr result (λ fault. AddsSome (edges_of_lines vertices both (ended_lines text)) (edges_of_text vertices both text) old new)

-- Within the reader: a line of this number, which says this, was not taken.
pub record IsLineFault (number : ℕ) (said : Meaning) (both : Bool) (old new : List Edge) (fault : TextFault) : Type 0 where
  pub cause : (fault ≡ Memory) ⊎ ((said ≡ Malformed) × (fault ≡ BadLine number))
  pub front : (added : List Edge) × (rest : List Edge) × (new ≡ old ++ added) × (edges_said both said ≡ added ++ rest)

-- these bytes were read, whatever text stood before them
pub record ReadsOn (old new : EdgeReader) (bytes : List ℕ) (before after : List Edge) : Type 0 where
  pub rest : new ≡ record old { ended = new.ended; line = new.line }
  pub reads : (vertices : ℕ) (both : Bool) (text : List ℕ) → Reads vertices both old text → Reads vertices both new (text ++ bytes)
  pub added : (vertices : ℕ) (both : Bool) (text : List ℕ) → Reads vertices both old text
      → Adds (edges_of_lines vertices both (ended_lines text)) (edges_of_lines vertices both (ended_lines (text ++ bytes))) before after

-- a line that ends in these bytes was not taken
pub record StopsIn (old : EdgeReader) (bytes : List ℕ) (before after : List Edge) (fault : TextFault) : Type 0 where
  pub cause : (vertices : ℕ) (both : Bool) (text : List ℕ) → Reads vertices both old text
      → (fault ≡ Memory) ⊎ ((k : ℕ) × (first_malformed vertices (ended_lines (text ++ bytes)) ≡ Some k) × (fault ≡ BadLine (min k most_lines)))
  pub front : (vertices : ℕ) (both : Bool) (text : List ℕ) → Reads vertices both old text
      → AddsSome (edges_of_lines vertices both (ended_lines text)) (edges_of_lines vertices both (ended_lines (text ++ bytes))) before after
