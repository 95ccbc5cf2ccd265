-- The definitions, run on worked examples: the words are from another ChaCha8.
use Rattle.std.proofs.Common.{◌≡◌, ◌+◌, ◌*◌, [], ◌∷◌, ◌++◌, codes, refl}
use Rattle.std.specs.Fmt.{digits}
use Rattle.rand_core.specs.Steps.{u32_at}
use Rattle.rand_chacha.specs.Block.{block_word, double_rounds, diagonal_round, quarter_round, column_round}
use Rattle.rmat_source.specs.Marks.{line_feeds, mark_of}
use Rattle.rmat_source.specs.Rmat.{source_bit, destination_bit, edge_line, lines_from, rmat_text}
use Rattle.rmat_source.specs.Words.{text_key, word_of}

-- the number's bytes stand the highest first, and its first words are 1300355205, 3300897211 and 4287140552
weights_of_three : rmat_text 0 3 1 ≡ codes "0 0 2" ++ 10 ∷ codes "0 0 4" ++ 10 ∷ codes "0 0 1" ++ 10 ∷ []
unfolding digits text_key word_of block_word double_rounds diagonal_round quarter_round column_round u32_at
weights_of_three = refl

-- each word is the number of its place: the bits of the first three, and a weight
line_of_places : edge_line (λ k. 19 * k + 57) 3 0 ≡ codes "3 5 3" ++ 10 ∷ []
unfolding digits
line_of_places = refl

-- the words of a line begin behind those of the line before
two_lines_of_places : lines_from (λ k. k) 1 56 2 ≡ codes "0 0 2" ++ 10 ∷ codes "0 1 4" ++ 10 ∷ []
unfolding digits
two_lines_of_places = refl

-- the four quarters, at their first and last numbers
source_bits : source_bit 0 ∷ source_bit 56 ∷ source_bit 57 ∷ source_bit 75 ∷ source_bit 76 ∷ source_bit 94 ∷ source_bit 95 ∷ source_bit 99 ∷ [] ≡ 0 ∷ 0 ∷ 0 ∷ 0 ∷ 1 ∷ 1 ∷ 1 ∷ 1 ∷ []
source_bits = refl

destination_bits : destination_bit 0 ∷ destination_bit 56 ∷ destination_bit 57 ∷ destination_bit 75 ∷ destination_bit 76 ∷ destination_bit 94 ∷ destination_bit 95 ∷ destination_bit 99 ∷ [] ≡ 0 ∷ 0 ∷ 1 ∷ 1 ∷ 0 ∷ 0 ∷ 1 ∷ 1 ∷ []
destination_bits = refl

mark_of_a_line : mark_of (codes "0 3 3" ++ 10 ∷ []) ≡ 1405303604
mark_of_a_line = refl

feeds_of_two_lines : line_feeds (codes "0 3" ++ 10 ∷ 10 ∷ []) ≡ 2
feeds_of_two_lines = refl
