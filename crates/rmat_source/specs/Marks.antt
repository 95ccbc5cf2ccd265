-- What a summary says of bytes.
use Rattle.std.specs.Prelude.{ℕ, ◌+◌, ◌-◌, ◌*◌, ◌%◌, ◌^◌, ◌==◌, min, List, fold, count_by}

-- how many of them are line feeds
abbrev pub line_feeds : List ℕ → ℕ
line_feeds bytes = count_by (λ x. x == 10) bytes

-- each byte in order joins 31 times the mark so far, from 0 on
abbrev pub mark_more : ℕ → List ℕ → ℕ
mark_more mark bytes = fold (λ h x. (31 * h + x) % 2 ^ 32) mark bytes

abbrev pub mark_of : List ℕ → ℕ
mark_of bytes = mark_more 0 bytes

-- a count of 64 bits, which stands still at its last value
abbrev pub capped : ℕ → ℕ
capped count = min count (2 ^ 64 - 1)
