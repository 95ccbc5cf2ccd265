-- The edges that the words of a made text draw.
use Rattle.std.specs.Prelude.{ℕ, zero, suc, ◌+◌, ◌%◌, List, [], ◌∷◌}
use Rattle.graph_model.specs.declared.edge.Edge.{Edge}
use Rattle.rmat_source.specs.Words.{text_key, word_of}
use Rattle.rmat_source.specs.Rmat.{source_bit, destination_bit, end_of}

module _ (word : ℕ → ℕ) where
  -- the edge whose words begin at a place
  abbrev pub edge_from : (scale place : ℕ) → Edge
  edge_from scale place = record {
    src = end_of word source_bit place scale;
    dst = end_of word destination_bit place scale;
    weight = 1 + word (place + scale) % 4;
  }

  -- so many edges, the first of which has its words from a place on
  abbrev pub edges_from : (scale place count : ℕ) → List Edge
  edges_from scale place zero = []
  edges_from scale place (suc count) = edge_from scale place ∷ edges_from scale (place + (scale + 1)) count

-- so many edges among 2 ^ scale vertices, in order
abbrev pub rmat_edges : (scale edges rng : ℕ) → List Edge
rmat_edges scale edges rng = edges_from (word_of (text_key rng)) scale 0 edges
