-- The text that sums up the answer of a job.
use Rattle.std.specs.Prelude.{ℕ, List, ◌++◌, length, codes}
use Rattle.rmat_source.specs.Marks.{line_feeds, mark_of, capped}
use Rattle.endings.specs.Endings.{with_number}

-- the line of a name and a number
abbrev pub number_line : List ℕ → ℕ → List ℕ
number_line name number = with_number name number (codes "\n")

-- The graph, the last round, and of the answer its line feeds, its bytes and its mark. The two counts stand still at the
-- last number of 64 bits.
abbrev pub summary_text : (vertices edges rounds : ℕ) (answer : List ℕ) → List ℕ
summary_text vertices edges rounds answer =
    number_line (codes "vertices ") vertices
    ++ number_line (codes "edges ") edges
    ++ number_line (codes "rounds ") rounds
    ++ number_line (codes "lines ") (capped (line_feeds answer))
    ++ number_line (codes "bytes ") (capped (length answer))
    ++ number_line (codes "mark ") (mark_of answer)
