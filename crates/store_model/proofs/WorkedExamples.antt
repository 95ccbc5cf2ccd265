-- The definitions, run on a whole store of one engine: shortest distances over three edges, whose rounds repeat in
-- round 3. Each byte was written by hand.
use Rattle.std.proofs.Common.{◌≡◌, ◌∙◌, ℕ, ◌-◌, ◌^◌, ◌==◌, ◌<◌, ◌≤◌, ◌⊎◌, zero, suc, List, [], ◌∷◌, ◌++◌, inr, refl, ap, sym, arith, filter, map, length}
use Rattle.graph_model.specs.declared.edge.Edge.{Edge}
use Rattle.graph_model.specs.declared.value.Value.{Value}
use Rattle.graph_model.specs.declared.job.Job.{Job}
use Rattle.graph_model.specs.declared.job.Program.TheVariants.{Sssp}
use Rattle.graph_model.specs.Programs.{sssp}
use Rattle.graph_model.specs.Rounds.{values, value_at, Repeats, IsLastRound}
use Rattle.graph_model.proofs.RoundLemmas.{last_is_one}
use Rattle.graph_model.proofs.WorkedExamples.{new_below_3}
use Rattle.chunk_model.specs.Chunks.{Chunk}
use Rattle.chunk_model.specs.ChunkBytes.{chunk_bytes, chunk_head, bytes_of_chunks, starts_of}
use Rattle.chunk_model.specs.Layout.{edge_bytes, edge_layout}
use Rattle.seeded_place.specs.Placing.{engine_of}
use Rattle.store_model.specs.Slots.{value_bytes, device_size, slot_start, slot_of, IsClosed, HoldsRound}
use Rattle.store_model.specs.Heads.{front, head}
use Rattle.store_model.specs.Graphs.{edge_chunks, chunks_on, graph_with, graph, places_on}
use Rattle.store_model.specs.Kept.{own_of, round_values, values_of, changed_in, device, IsReached, HasRound, IsValuesOf, IsWholeStore, IsKeptRound}

unfoldable pub edges : List Edge
edges = record { src = 0; dst = 1; weight = 5 } ∷ record { src = 0; dst = 2; weight = 1 } ∷ record { src = 2; dst = 1; weight = 1 } ∷ []

job_of : ℕ → Job
job_of format = record { program = Sssp 0; vertices = 3; engines = 1; most = 2097152; chunk = 4096; seed = 1; alpha = 100; limit = 100000; format = format; keep = 1 }

-- bytes 8 to 72 are the same in both formats: from the argument to the head of the chunk
middle : List ℕ
middle =
    (0 ∷ 0 ∷ 0 ∷ 0 ∷ 0 ∷ 0 ∷ 0 ∷ 0 ∷ [])
    ++ (0 ∷ 0 ∷ 0 ∷ 0 ∷ 0 ∷ 0 ∷ 0 ∷ 3 ∷ [])
    ++ (0 ∷ 0 ∷ 0 ∷ 0 ∷ 0 ∷ 32 ∷ 0 ∷ 0 ∷ [])
    ++ (0 ∷ 0 ∷ 0 ∷ 0 ∷ 0 ∷ 0 ∷ 16 ∷ 0 ∷ [])
    ++ (0 ∷ 0 ∷ 0 ∷ 0 ∷ 0 ∷ 0 ∷ 0 ∷ 1 ∷ [])
    ++ (0 ∷ 0 ∷ 0 ∷ 0 ∷ 0 ∷ 0 ∷ 0 ∷ 100 ∷ [])
    ++ (0 ∷ 0 ∷ 0 ∷ 0 ∷ 0 ∷ 1 ∷ 134 ∷ 160 ∷ [])
    ++ (71 ∷ [])
    ++ (0 ∷ 0 ∷ 0 ∷ 0 ∷ 0 ∷ 0 ∷ 0 ∷ 3 ∷ [])

-- 109 bytes in format 1
graph_0 : List ℕ
graph_0 =
    (165 ∷ 1 ∷ 1 ∷ 0 ∷ 2 ∷ 0 ∷ 0 ∷ 0 ∷ [])
    ++ middle
    ++ (0 ∷ 0 ∷ 0 ∷ 0 ∷ 0 ∷ 0 ∷ 0 ∷ 1 ∷ 0 ∷ 0 ∷ 0 ∷ 5 ∷ [])
    ++ (0 ∷ 0 ∷ 0 ∷ 0 ∷ 0 ∷ 0 ∷ 0 ∷ 2 ∷ 0 ∷ 0 ∷ 0 ∷ 1 ∷ [])
    ++ (0 ∷ 0 ∷ 0 ∷ 2 ∷ 0 ∷ 0 ∷ 0 ∷ 1 ∷ 0 ∷ 0 ∷ 0 ∷ 1 ∷ [])

-- 121 bytes in format 2
graph_0_of_format_2 : List ℕ
graph_0_of_format_2 =
    (165 ∷ 2 ∷ 1 ∷ 0 ∷ 2 ∷ 0 ∷ 0 ∷ 1 ∷ [])
    ++ middle
    ++ (0 ∷ 0 ∷ 0 ∷ 0 ∷ 0 ∷ 0 ∷ 0 ∷ 1 ∷ 0 ∷ 0 ∷ 0 ∷ 0 ∷ 0 ∷ 0 ∷ 0 ∷ 5 ∷ [])
    ++ (0 ∷ 0 ∷ 0 ∷ 0 ∷ 0 ∷ 0 ∷ 0 ∷ 2 ∷ 0 ∷ 0 ∷ 0 ∷ 0 ∷ 0 ∷ 0 ∷ 0 ∷ 1 ∷ [])
    ++ (0 ∷ 0 ∷ 0 ∷ 2 ∷ 0 ∷ 0 ∷ 0 ∷ 1 ∷ 0 ∷ 0 ∷ 0 ∷ 0 ∷ 0 ∷ 0 ∷ 0 ∷ 1 ∷ [])

-- 144 bytes: round 2 with one changed value in slot 0, round 3 with none in slot 1
unfoldable pub number : ℕ → List ℕ
number n = 0 ∷ 0 ∷ 0 ∷ 0 ∷ 0 ∷ 0 ∷ 0 ∷ n ∷ []

gate : List ℕ
gate = 165 ∷ 0 ∷ 0 ∷ 0 ∷ 0 ∷ 0 ∷ 0 ∷ 0 ∷ []

distances : List ℕ
distances = number 0 ++ number 0 ++ number 2 ++ number 0 ++ number 1 ++ number 0

values_0 : List ℕ
values_0 = (gate ++ number 2 ++ number 1 ++ distances) ++ gate ++ number 3 ++ number 0 ++ distances

-- One chunk, and one engine.
unfoldable pub chunk : Chunk Edge
chunk = record { partition = 0; items = edges }

one_chunk : (format : ℕ) → edge_chunks (job_of format) edges ≡ chunk ∷ []
unfolding edges job_of chunk
one_chunk format = refl

-- with one engine each chunk goes to engine 0
one_engine : (seed stream k : ℕ) → engine_of seed stream 1 k ≡ 0
unfolding engine_of
one_engine seed stream k = omega arith

all_on_engine_0 : (format : ℕ) → chunks_on (job_of format) 0 (chunk ∷ []) ≡ chunk ∷ []
unfolding job_of
all_on_engine_0 format =
    ap (λ e. map (λ (pair : ℕ × Chunk Edge). pair.1) (filter (λ (pair : ℕ × Chunk Edge). pair.0 == 0) ((e, chunk) ∷ []))) (one_engine 1 0 0)

content : (format : ℕ) → graph (job_of format) edges 0 ≡ head 165 (job_of format) 0 ++ bytes_of_chunks (edge_layout format) (chunk ∷ [])
unfolding graph_with job_of
content format =
    ap (λ made. graph_with 165 (job_of format) 0 made) (one_chunk format)
    ∙ ap (λ here. head 165 (job_of format) 0 ++ bytes_of_chunks (edge_layout format) here) (all_on_engine_0 format)

written_in_format_1 : head 165 (job_of 1) 0 ++ bytes_of_chunks (edge_layout 1) (chunk ∷ []) ≡ graph_0
unfolding job_of edges chunk graph_0 middle front chunk_bytes chunk_head edge_bytes
written_in_format_1 = refl

graph_of_format_1 : graph (job_of 1) edges 0 ≡ graph_0
graph_of_format_1 = content 1 ∙ written_in_format_1

written_in_format_2 : head 165 (job_of 2) 0 ++ bytes_of_chunks (edge_layout 2) (chunk ∷ []) ≡ graph_0_of_format_2
unfolding job_of edges chunk graph_0_of_format_2 middle front chunk_bytes chunk_head edge_bytes
written_in_format_2 = refl

graph_of_format_2 : graph (job_of 2) edges 0 ≡ graph_0_of_format_2
graph_of_format_2 = content 2 ∙ written_in_format_2

sizes_of_graphs : length graph_0 ∷ length graph_0_of_format_2 ∷ [] ≡ 109 ∷ 121 ∷ []
unfolding graph_0 graph_0_of_format_2 middle
sizes_of_graphs = refl

-- its chunk stands behind the head
place : (format : ℕ) → places_on (job_of format) 0 0 (chunk ∷ []) ≡ 65 ∷ []
unfolding chunk job_of
place format = ap (starts_of (edge_layout format) 0 65) (all_on_engine_0 format)

-- Slots.
sizes_of_slots : device_size 3 ∷ slot_start 3 1 ∷ [] ≡ 144 ∷ 72 ∷ []
sizes_of_slots = refl

size_of_values : length values_0 ≡ 144
unfolding values_0 gate number distances
size_of_values = refl

-- round 3 is the first that repeats
round_1_is_new : ¬ (Repeats (sssp 0) 3 edges 1)
unfolding edges values
round_1_is_new repeats = let same : ◌≡◌ {A = ℕ} 5 (2 ^ 64 - 1) = ap (λ (found : List Value). (value_at found 1).main) repeats.1 in omega arith

round_2_is_new : ¬ (Repeats (sssp 0) 3 edges 2)
unfolding edges values
round_2_is_new repeats = let same : ◌≡◌ {A = ℕ} 2 5 = ap (λ (found : List Value). (value_at found 1).main) repeats.1 in omega arith

round_3_repeats : values (sssp 0) 3 edges 3 ≡ values (sssp 0) 3 edges 2
unfolding edges values
round_3_repeats = refl

round_3_is_last : IsLastRound (sssp 0) 3 edges 100000 3
round_3_is_last = record {
  fixed = λ k fixed. absurd cc;
  repeats = λ _. ((omega arith, round_3_repeats), omega arith);
  least = λ _. new_below_3 edges round_1_is_new round_2_is_new;
}

reached : (format round : ℕ) → round ≤ 3 → IsReached (job_of format) edges round
unfolding job_of
reached format round within = record {
  no_later = λ last is_last. rw (last_is_one (sssp 0) 3 edges 100000 last 3 is_last round_3_is_last) within;
  within = λ never. omega arith;
}

round_2_in_slot_0 : HoldsRound 3 0 2 1 (values_of (0 ∷ 1 ∷ 2 ∷ []) (round_values (job_of 2) edges 2)) values_0
unfolding values_0 gate number distances values edges job_of value_bytes
round_2_in_slot_0 = record { is_open = refl; numbers = refl; values_are = refl }

round_3_in_slot_1 : HoldsRound 3 1 3 0 (values_of (0 ∷ 1 ∷ 2 ∷ []) (round_values (job_of 2) edges 3)) values_0
unfolding values_0 gate number distances values edges job_of value_bytes
round_3_in_slot_1 = record { is_open = refl; numbers = refl; values_are = refl }

own : own_of (job_of 2) 0 ∷ changed_in (job_of 2) edges (0 ∷ 1 ∷ 2 ∷ []) 2 ∷ changed_in (job_of 2) edges (0 ∷ 1 ∷ 2 ∷ []) 3 ∷ [] ≡ 3 ∷ 1 ∷ 0 ∷ []
unfolding job_of values edges
own = refl

has_round_2 : HasRound (job_of 2) edges 0 values_0 2
unfolding job_of edges values
has_round_2 = record { reached = reached 2 2 (omega arith); holds = round_2_in_slot_0 }

has_round_3 : HasRound (job_of 2) edges 0 values_0 3
unfolding job_of edges values
has_round_3 = record { reached = reached 2 3 (omega arith); holds = round_3_in_slot_1 }

slots : (slot : ℕ) → slot < 2 → IsClosed 3 slot values_0 ⊎ ((round : ℕ) × (slot_of round ≡ slot) × HasRound (job_of 2) edges 0 values_0 round)
slots zero below = inr (2, refl, has_round_2)
slots (suc zero) below = inr (3, refl, has_round_3)
slots (suc (suc slot)) below = absurd (omega arith)

values_of_engine_0 : IsValuesOf (job_of 2) edges 0 values_0
unfolding job_of
values_of_engine_0 = record { exact = size_of_values; slots = slots }

-- **The whole store.**
on_engines : (P : ℕ → Type 0) → P 0 → (e : ℕ) → e < 1 → P e
on_engines P here zero below = here
on_engines P here (suc e) below = absurd (omega arith)

whole : IsWholeStore (job_of 2) edges (graph_0_of_format_2 ∷ []) (values_0 ∷ [])
unfolding job_of
whole = record {
  graphs_many = refl;
  values_many = refl;
  graphs_are = on_engines (λ e. device (graph_0_of_format_2 ∷ []) e ≡ graph (job_of 2) edges e) (sym graph_of_format_2);
  values_are = on_engines (λ e. IsValuesOf (job_of 2) edges e (device (values_0 ∷ []) e)) values_of_engine_0;
}

kept : IsKeptRound (job_of 2) edges (values_0 ∷ []) 3
unfolding job_of
kept = record {
  everywhere = on_engines (λ e. HasRound (job_of 2) edges e (device (values_0 ∷ []) e) 3) has_round_3;
  greatest = λ other everywhere. (everywhere 0 (omega arith)).reached.no_later 3 round_3_is_last;
}
