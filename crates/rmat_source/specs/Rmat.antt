-- The text of a large graph that a number stands for. Each edge falls into one of the four quarters of the square of
-- sources and destinations, then into one of the quarters of that quarter, and so on, by a word each.
use Rattle.std.specs.Prelude.{ℕ, zero, suc, ◌+◌, ◌*◌, ◌%◌, List, [], ◌∷◌, ◌++◌, nat_lt, if◌then◌else◌, decimal}
use Rattle.rmat_source.specs.Words.{text_key, word_of}

-- which half of the sources a number below 100 names
abbrev pub source_bit : ℕ → ℕ
source_bit y = if nat_lt y 76 then 0 else 1

-- which half of the destinations it names
abbrev pub destination_bit : ℕ → ℕ
destination_bit y = if nat_lt y 57 then 0 else (if nat_lt y 76 then 1 else (if nat_lt y 95 then 0 else 1))

module _ (word : ℕ → ℕ) where
  -- one end of an edge: a bit from each of so many words on from a place, the highest bit first
  abbrev pub end_of : (ℕ → ℕ) → ℕ → ℕ → ℕ
  end_of bit place zero = 0
  end_of bit place (suc count) = 2 * end_of bit place count + bit (word (place + count) % 100)

  -- the line of an edge whose words begin at a place: one for each bit, and one for the weight
  abbrev pub edge_line : ℕ → ℕ → List ℕ
  edge_line scale place =
      decimal (end_of source_bit place scale) ++ 32 ∷ decimal (end_of destination_bit place scale)
      ++ 32 ∷ decimal (1 + word (place + scale) % 4) ++ 10 ∷ []

  -- so many lines, the first of which has its words from a place on
  abbrev pub lines_from : ℕ → ℕ → ℕ → List ℕ
  lines_from scale place zero = []
  lines_from scale place (suc count) = edge_line scale place ++ lines_from scale (place + (scale + 1)) count

-- the text of so many edges among 2 ^ scale vertices
abbrev pub rmat_text : (scale edges rng : ℕ) → List ℕ
rmat_text scale edges rng = lines_from (word_of (text_key rng)) scale 0 edges
