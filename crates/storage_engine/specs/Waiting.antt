-- Edges that wait in buffers, one for each partition.
use Rattle.std.specs.Prelude.{ℕ, List, [], ◌∷◌, ◌++◌, slice_index_or, slice_set}
use Rattle.graph_model.specs.declared.edge.Edge.{Edge}

abbrev pub no_edges : List Edge
no_edges = []

-- the edges of a partition
abbrev pub waiting : List (List Edge) → (p : ℕ) → List Edge
waiting buffers p = slice_index_or buffers p no_edges

-- one edge more in the buffer of a partition
abbrev pub with_edge : List (List Edge) → (p : ℕ) → Edge → List (List Edge)
with_edge buffers p edge = slice_set buffers p (waiting buffers p ++ edge ∷ [])
