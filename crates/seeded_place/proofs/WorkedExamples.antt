-- The definitions, run on worked examples: the words are from another ChaCha8.
use Rattle.std.proofs.Common.{◌≡◌, ℕ, [], ◌∷◌, refl}
use Rattle.rand_core.specs.Steps.{u32_at}
use Rattle.rand_chacha.specs.Block.{block_word, double_rounds, diagonal_round, quarter_round, column_round}
use Rattle.seeded_place.specs.Placing.{placing_key, engine_of, edge_stream, update_stream, placed, on_engine}

-- the first words of stream 0 for the seed 1 are 1300355205, 3300897211 and 4287140552
engines_of_three : engine_of 1 edge_stream 8 0 ∷ engine_of 1 edge_stream 8 1 ∷ engine_of 1 edge_stream 8 2 ∷ [] ≡ 5 ∷ 3 ∷ 0 ∷ []
unfolding engine_of placing_key block_word double_rounds diagonal_round quarter_round column_round u32_at
engines_of_three = refl

-- the seed's bytes stand the highest first, and the stream counts: 1591963931 is word 1 of stream 1
engine_of_another_stream : engine_of 1 (update_stream 0 0) 8 1 ≡ 3
unfolding engine_of placing_key block_word double_rounds diagonal_round quarter_round column_round u32_at
engine_of_another_stream = refl

-- the last stream of epoch 2
stream_of_worker_7 : update_stream 2 7 ≡ 24
stream_of_worker_7 = refl

-- three items on three engines
items_on_engine_1 : on_engine {X = ℕ} 1 (placed {X = ℕ} 1 edge_stream 3 (7 ∷ 8 ∷ 9 ∷ [])) ≡ 8 ∷ []
unfolding engine_of placing_key block_word double_rounds diagonal_round quarter_round column_round u32_at
items_on_engine_1 = refl
