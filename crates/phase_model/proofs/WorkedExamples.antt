-- The definitions on worked examples: three edges of which one worker takes all, with what they send in three rounds.
use Rattle.std.proofs.Common.{◌≡◌, ℕ, List, [], ◌∷◌, ◌++◌, Some, None, refl, replicate}
use Rattle.rand_core.specs.Steps.{u32_at}
use Rattle.rand_chacha.specs.Block.{block_word, double_rounds, diagonal_round, quarter_round, column_round}
use Rattle.graph_model.specs.declared.edge.Edge.{Edge}
use Rattle.graph_model.specs.declared.value.Value.{Value}
use Rattle.graph_model.specs.declared.value.Update.{Update}
use Rattle.graph_model.specs.declared.job.Job.{Job}
use Rattle.graph_model.specs.declared.job.Program.TheVariants.{Sssp}
use Rattle.graph_model.specs.Programs.{NONE, plus, sssp, pagerank}
use Rattle.chunk_object.specs.declared.call.Call.{Call}
use Rattle.chunk_object.specs.declared.call.Call.TheVariants.{Took, Exhausted, Look, Heads, Admitted}
use Rattle.chunk_model.specs.Layout.{update_layout, update_bytes}
use Rattle.chunk_model.specs.ChunkBytes.{chunk_head, chunk_bytes, bytes_of_chunks}
use Rattle.seeded_place.specs.Placing.{placing_key, engine_of, on_engine}
use Rattle.phase_model.specs.Taken.{taken, records_taken, claims, admissions}
use Rattle.phase_model.specs.Sends.{sending_of, sent_by}
use Rattle.phase_model.specs.Sums.{sum_at, sums_over, counts_of}
use Rattle.phase_model.specs.Shelves.{Shelf, lens_of, records_at, places_of}
use Rattle.phase_model.specs.Lanes.{update_shelf, all_updates}
use Rattle.phase_model.specs.JobTerms.{terms_of}

abbrev edge : ℕ → ℕ → ℕ → Edge
edge src dst weight = record { src = src; dst = dst; weight = weight }

abbrev update : ℕ → ℕ → Update
update dst value = record { dst = dst; value = value }

abbrev value : ℕ → Value
value main = record { main = main; side = 0 }

abbrev edges : List Edge
edges = edge 0 1 5 ∷ edge 0 2 1 ∷ edge 2 1 1 ∷ []

abbrev small_job : ℕ → ℕ → ℕ → Job
small_job engines most chunk = record { program = Sssp 0; vertices = 3; engines = engines; most = most; chunk = chunk; seed = 1; alpha = 100; limit = 10; format = 2; keep = 1 }

-- One chunk has all edges, and the worker takes it.
abbrev all_edges : Shelf Edge
all_edges = (0, record { partition = 0; items = edges }) ∷ []

abbrev calls : List Call
calls = Took 0 0 ∷ Exhausted 0 ∷ []

edges_taken : records_taken (records_at all_edges) calls ≡ edges
edges_taken = refl

chunks_there : lens_of all_edges 0 ∷ lens_of all_edges 64 ∷ [] ≡ 1 ∷ 0 ∷ []
chunks_there = refl

-- a helper's list: it is admitted at partition 1, and takes a chunk on each of two engines
one_helper : taken (Look 1 2 ∷ Look 65 1 ∷ Heads 1 1 ∷ Admitted 1 1 ∷ Took 1 1 ∷ Exhausted 1 ∷ Took 65 0 ∷ Exhausted 65 ∷ []) ≡ (1, 1) ∷ (65, 0) ∷ []
one_helper = refl

counts_of_a_helper : claims (Heads 1 1 ∷ Admitted 1 1 ∷ Took 1 1 ∷ []) ∷ admissions (Heads 1 1 ∷ Admitted 1 1 ∷ Took 1 1 ∷ []) ∷ [] ≡ 1 ∷ 1 ∷ []
counts_of_a_helper = refl

-- Least distances from vertex 0: the values of the rounds 0, 1 and 2.
abbrev values_0 : List Value
values_0 = value 0 ∷ value NONE ∷ value NONE ∷ []

abbrev values_1 : List Value
values_1 = value 0 ∷ value 5 ∷ value 1 ∷ []

abbrev values_2 : List Value
values_2 = value 0 ∷ value 2 ∷ value 1 ∷ []

abbrev updates_1 : List Update
updates_1 = update 1 5 ∷ update 2 1 ∷ []

sent_in_round_1 : sent_by (sending_of (sssp 0) None values_0) edges ≡ updates_1
sent_in_round_1 = refl

-- all vertices send, or those alone that changed
sent_in_round_2 : sent_by (sending_of (sssp 0) None values_1) edges ≡ update 1 5 ∷ update 2 1 ∷ update 1 2 ∷ []
sent_in_round_2 = refl

sent_by_changed_in_round_2 : sent_by (sending_of (sssp 0) (Some values_0) values_1) edges ≡ update 1 2 ∷ []
sent_by_changed_in_round_2 = refl

sent_by_changed_in_round_3 : sent_by (sending_of (sssp 0) (Some values_1) values_2) edges ≡ []
sent_by_changed_in_round_3 = refl

-- the sums over the updates of round 1, and the edges counted at their sources
sums_of_round_1 : sums_over (sum_at (sssp 0).fold NONE updates_1) 0 3 ≡ NONE ∷ 5 ∷ 1 ∷ []
sums_of_round_1 = refl

counts_of_edges : sums_over (sum_at plus 0 (counts_of edges)) 0 3 ≡ 2 ∷ 0 ∷ 1 ∷ []
counts_of_edges = refl

-- Ranks: 1,000,000 is shared among the two edges out of vertex 0, and goes along the one out of vertex 1.
rank_sums : sums_over (sum_at plus 0 (sent_by (sending_of (pagerank 1) None (record { main = 1000000; side = 2 } ∷ record { main = 1000000; side = 1 } ∷ record { main = 1000000; side = 0 } ∷ [])) (edge 0 1 1 ∷ edge 0 2 1 ∷ edge 1 2 1 ∷ []))) 0 3
    ≡ 0 ∷ 500000 ∷ 1500000 ∷ []
rank_sums = refl

-- The lane of round 1: one chunk, from its byte 0 on.
lane_of_round_1 : bytes_of_chunks update_layout (on_engine 0 (update_shelf (small_job 1 10 4096) 0 0 updates_1))
    ≡ replicate 7 0 ++ 2 ∷ replicate 3 0 ++ 1 ∷ replicate 7 0 ++ 5 ∷ replicate 3 0 ++ 2 ∷ replicate 7 0 ++ 1 ∷ []
unfolding update_bytes chunk_head chunk_bytes engine_of placing_key block_word double_rounds diagonal_round quarter_round column_round u32_at
lane_of_round_1 = refl

-- Chunks of one record, in partitions of one vertex, on one engine whose lane has 100 bytes.
places_of_round_1 : places_of 12 (λ engine. 100) (update_shelf (small_job 1 1 1) 0 0 updates_1)
    ≡ record { engine = 0; partition = 1; at = 100 } ∷ record { engine = 0; partition = 2; at = 120 } ∷ []
unfolding engine_of placing_key block_word double_rounds diagonal_round quarter_round column_round u32_at
places_of_round_1 = refl

-- On two engines each place counts the bytes of its own engine alone: the stream names the engines 0, 1 and 1.
places_on_two : places_of 12 (λ engine. 0) (update_shelf (small_job 2 1 1) 0 0 (updates_1 ++ update 1 7 ∷ []))
    ≡ record { engine = 0; partition = 1; at = 0 } ∷ record { engine = 1; partition = 2; at = 0 } ∷ record { engine = 1; partition = 1; at = 20 } ∷ []
unfolding engine_of placing_key block_word double_rounds diagonal_round quarter_round column_round u32_at
places_on_two = refl

-- two workers' chunks, worker by worker
lens_of_two_workers : lens_of (all_updates (small_job 1 1 1) 0 0 (updates_1 ∷ (update 1 3 ∷ []) ∷ [])) 1 ≡ 2
unfolding engine_of placing_key block_word double_rounds diagonal_round quarter_round column_round u32_at
lens_of_two_workers = refl

second_of_partition_1 : records_at (all_updates (small_job 1 1 1) 0 0 (updates_1 ∷ (update 1 3 ∷ []) ∷ [])) 1 1 ≡ update 1 3 ∷ []
unfolding engine_of placing_key block_word double_rounds diagonal_round quarter_round column_round u32_at
second_of_partition_1 = refl

-- three partitions of one vertex each, and a full chunk of 4,096 records
set_of_partition_2 : (terms_of (small_job 1 1 4096)).set_bytes 2 ∷ (terms_of (small_job 1 1 4096)).partitions ∷ (terms_of (small_job 1 1 4096)).chunk_bytes ∷ [] ≡ 16 ∷ 3 ∷ 49160 ∷ []
set_of_partition_2 = refl
