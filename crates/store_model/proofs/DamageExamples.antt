-- The checks, run on a whole store of one engine and on what is left of it when a byte is another. Each byte was written
-- by hand.
use Rattle.std.proofs.Common.{◌≡◌, ℕ, ◌+◌, ◌<◌, ◌≤◌, zero, suc, List, [], ◌∷◌, ◌++◌, length, take, drop, set, get_or, true, lit<, lit≤, Some, None, inl, inr, refl, sym, ◌∙◌, ap, arith}
use Rattle.std.specs.List.{All}
use Rattle.std.specs.Int.{to_be_bytes, w32}
use Rattle.std.proofs.lemmas.List.Elements.{All-nil, All-cons}
use Rattle.graph_model.specs.declared.edge.Edge.{Edge}
use Rattle.chunk_model.specs.Chunks.{Chunk}
use Rattle.chunk_model.specs.ChunkBytes.{AreChunk, Belongs, chunk_bytes, chunk_head}
use Rattle.chunk_model.specs.Layout.{edge_layout, edge_bytes}
use Rattle.chunk_model.proofs.OnDevice.{told_partition}
use Rattle.store_model.specs.declared.field.Field.TheVariants.{Format}
use Rattle.store_model.specs.Heads.{IsOpenGraph}
use Rattle.store_model.specs.Kept.{device}
use Rattle.store_model.specs.Damage.{NotPrepared, EnginesDiffer, GraphDamaged, ValuesDamaged, value_of, heads_fault, values_fault, chunks_before, IsEdgeChunk, NoEdgeChunk, BeginsWith, StopsAt, HasFault, IsSound}
use Rattle.store_model.proofs.WorkedExamples.{edges, chunk, number}

-- the job's numbers and the mark
numbers : List ℕ
numbers =
    number 0
    ++ number 3
    ++ (0 ∷ 0 ∷ 0 ∷ 0 ∷ 0 ∷ 32 ∷ 0 ∷ 0 ∷ [])
    ++ (0 ∷ 0 ∷ 0 ∷ 0 ∷ 0 ∷ 0 ∷ 16 ∷ 0 ∷ [])
    ++ number 1
    ++ number 100
    ++ (0 ∷ 0 ∷ 0 ∷ 0 ∷ 0 ∷ 1 ∷ 134 ∷ 160 ∷ [])
    ++ (71 ∷ [])

of_format_1 : List ℕ
of_format_1 =
    (165 ∷ 1 ∷ 1 ∷ 0 ∷ 2 ∷ 0 ∷ 0 ∷ 0 ∷ [])
    ++ numbers
    ++ number 3
    ++ (0 ∷ 0 ∷ 0 ∷ 0 ∷ 0 ∷ 0 ∷ 0 ∷ 1 ∷ 0 ∷ 0 ∷ 0 ∷ 5 ∷ [])
    ++ (0 ∷ 0 ∷ 0 ∷ 0 ∷ 0 ∷ 0 ∷ 0 ∷ 2 ∷ 0 ∷ 0 ∷ 0 ∷ 1 ∷ [])
    ++ (0 ∷ 0 ∷ 0 ∷ 2 ∷ 0 ∷ 0 ∷ 0 ∷ 1 ∷ 0 ∷ 0 ∷ 0 ∷ 1 ∷ [])

of_format_2 : List ℕ
of_format_2 =
    (165 ∷ 2 ∷ 1 ∷ 0 ∷ 2 ∷ 0 ∷ 0 ∷ 1 ∷ [])
    ++ numbers
    ++ number 3
    ++ (0 ∷ 0 ∷ 0 ∷ 0 ∷ 0 ∷ 0 ∷ 0 ∷ 1 ∷ number 5)
    ++ (0 ∷ 0 ∷ 0 ∷ 0 ∷ 0 ∷ 0 ∷ 0 ∷ 2 ∷ number 1)
    ++ (0 ∷ 0 ∷ 0 ∷ 2 ∷ 0 ∷ 0 ∷ 0 ∷ 1 ∷ number 1)

gate : List ℕ
gate = 165 ∷ 0 ∷ 0 ∷ 0 ∷ 0 ∷ 0 ∷ 0 ∷ 0 ∷ []

distances : List ℕ
distances = number 0 ++ number 0 ++ number 2 ++ number 0 ++ number 1 ++ number 0

-- round 2 with one changed value in slot 0, round 3 with none in slot 1
values_0 : List ℕ
values_0 = (gate ++ number 2 ++ number 1 ++ distances) ++ gate ++ number 3 ++ number 0 ++ distances

-- a byte that is another
with_byte : ℕ → ℕ → List ℕ → List ℕ
with_byte at byte bytes = set bytes at byte

-- Heads, in format 1.
whole_head : heads_fault (of_format_1 ∷ []) ≡ None
unfolding of_format_1 numbers number
whole_head = refl

unknown_format : heads_fault (with_byte 1 7 of_format_1 ∷ []) ≡ Some (GraphDamaged 0 1)
unfolding of_format_1 numbers number with_byte
unknown_format = refl

another_count : heads_fault (with_byte 2 2 of_format_1 ∷ []) ≡ Some (EnginesDiffer 2 1)
unfolding of_format_1 numbers number with_byte
another_count = refl

another_engine : heads_fault (with_byte 3 1 of_format_1 ∷ []) ≡ Some (GraphDamaged 0 3)
unfolding of_format_1 numbers number with_byte
another_engine = refl

not_zero : heads_fault (with_byte 7 1 of_format_1 ∷ []) ≡ Some (GraphDamaged 0 5)
unfolding of_format_1 numbers number with_byte
not_zero = refl

no_root : heads_fault (with_byte 15 3 of_format_1 ∷ []) ≡ Some (GraphDamaged 0 8)
unfolding of_format_1 numbers number with_byte
no_root = refl

-- 4,194,305 vertices are too many in format 1, and not in format 2
many_vertices : heads_fault (with_byte 21 64 (with_byte 23 1 of_format_1) ∷ []) ≡ Some (GraphDamaged 0 16)
unfolding of_format_1 numbers number with_byte
many_vertices = refl

many_in_format_2 : heads_fault (with_byte 21 64 (with_byte 23 1 of_format_2) ∷ []) ≡ None
unfolding of_format_2 numbers number with_byte
many_in_format_2 = refl

no_mark : heads_fault (with_byte 64 0 of_format_1 ∷ []) ≡ Some (GraphDamaged 0 64)
unfolding of_format_1 numbers number with_byte
no_mark = refl

-- in format 2
whole_head_2 : heads_fault (of_format_2 ∷ []) ≡ None
unfolding of_format_2 numbers number
whole_head_2 = refl

no_keep : heads_fault (with_byte 7 0 of_format_2 ∷ []) ≡ Some (GraphDamaged 0 6)
unfolding of_format_2 numbers number with_byte
no_keep = refl

-- of two engines: a head that is not well formed goes before heads that do not agree, and both before their number
two : List (List ℕ)
two = with_byte 2 2 of_format_1 ∷ with_byte 3 1 (with_byte 2 2 of_format_1) ∷ []

two_heads : heads_fault two ≡ None
unfolding two of_format_1 numbers number with_byte
two_heads = refl

wrong_in_second : heads_fault (with_byte 2 2 of_format_1 ∷ with_byte 2 2 of_format_1 ∷ []) ≡ Some (GraphDamaged 1 3)
unfolding of_format_1 numbers number with_byte
wrong_in_second = refl

other_seed : heads_fault (with_byte 2 2 of_format_1 ∷ with_byte 47 9 (with_byte 3 1 (with_byte 2 2 of_format_1)) ∷ []) ≡ Some (GraphDamaged 1 40)
unfolding of_format_1 numbers number with_byte
other_seed = refl

other_format : heads_fault (with_byte 2 2 of_format_1 ∷ with_byte 3 1 (with_byte 2 2 of_format_2) ∷ []) ≡ Some (GraphDamaged 1 1)
unfolding of_format_1 of_format_2 numbers number with_byte
other_format = refl

three_held : heads_fault (with_byte 2 3 of_format_1 ∷ with_byte 3 1 (with_byte 2 3 of_format_1) ∷ []) ≡ Some (EnginesDiffer 3 2)
unfolding of_format_1 numbers number with_byte
three_held = refl

-- Values devices.
whole_values : values_fault (take 65 of_format_1) (values_0 ∷ []) ≡ None
unfolding of_format_1 numbers number values_0 gate distances
whole_values = refl

cut_values : values_fault (take 65 of_format_1) (take 143 values_0 ∷ []) ≡ Some (ValuesDamaged 0 0)
unfolding of_format_1 numbers number values_0 gate distances
cut_values = refl

odd_round : values_fault (take 65 of_format_1) (with_byte 15 3 values_0 ∷ []) ≡ Some (ValuesDamaged 0 0)
unfolding of_format_1 numbers number values_0 gate distances with_byte
odd_round = refl

many_changed : values_fault (take 65 of_format_1) (with_byte 95 4 values_0 ∷ []) ≡ Some (ValuesDamaged 0 72)
unfolding of_format_1 numbers number values_0 gate distances with_byte
many_changed = refl

-- the numbers of a closed slot may be any
closed_slot : values_fault (take 65 of_format_1) (with_byte 95 4 (with_byte 72 0 values_0) ∷ []) ≡ None
unfolding of_format_1 numbers number values_0 gate distances with_byte
closed_slot = refl

-- Whole stores. One engine:
of_one : (P : ℕ → Type 0) → P 0 → (e : ℕ) → e < 1 → P e
of_one P here zero below = here
of_one P here (suc e) below = absurd (omega arith)

open_1 : IsOpenGraph of_format_1
unfolding of_format_1 numbers number
open_1 = record { whole = lit≤ tt; gate = refl }

open_2 : IsOpenGraph of_format_2
unfolding of_format_2 numbers number
open_2 = record { whole = lit≤ tt; gate = refl }

all_three : (P : Edge → Type 0) (x y z : Edge) → P x → P y → P z → All P (x ∷ y ∷ z ∷ [])
all_three P x y z a b c = All-cons P x (y ∷ z ∷ []) a (All-cons P y (z ∷ []) b (All-cons P z [] c (All-nil P)))

of_three : (P : Edge → Type 0) → P (record { src = 0; dst = 1; weight = 5 }) → P (record { src = 0; dst = 2; weight = 1 }) → P (record { src = 2; dst = 1; weight = 1 }) → All P edges
unfolding edges
of_three P a b c = all_three P (record { src = 0; dst = 1; weight = 5 }) (record { src = 0; dst = 2; weight = 1 }) (record { src = 2; dst = 1; weight = 1 }) a b c

are_edges_1 : AreChunk (edge_layout 1) 3 3 4096 0 edges
unfolding edges
are_edges_1 = record {
  some = lit< tt;
  few = lit≤ tt;
  counted = lit< tt;
  held = of_three (λ r. (edge_layout 1).holds r ≡ true) refl refl refl;
  belong = of_three (Belongs (edge_layout 1) 3 3 0) (record { fits = refl; home = refl }) (record { fits = refl; home = refl }) (record { fits = refl; home = refl });
}

are_edges_2 : AreChunk (edge_layout 2) 3 3 4096 0 edges
unfolding edges
are_edges_2 = record {
  some = lit< tt;
  few = lit≤ tt;
  counted = lit< tt;
  held = of_three (λ r. (edge_layout 2).holds r ≡ true) refl refl refl;
  belong = of_three (Belongs (edge_layout 2) 3 3 0) (record { fits = refl; home = refl }) (record { fits = refl; home = refl }) (record { fits = refl; home = refl });
}

one_chunk : (P : Chunk Edge → Type 0) → P chunk → All P (chunk ∷ [])
one_chunk P here = All-cons P chunk [] here (All-nil P)

chunk_1 : IsEdgeChunk (take 65 of_format_1) chunk
unfolding chunk of_format_1 numbers number
chunk_1 = record { partition = lit< tt; are = are_edges_1 }

chunk_2 : IsEdgeChunk (take 65 of_format_2) chunk
unfolding chunk of_format_2 numbers number
chunk_2 = record { partition = lit< tt; are = are_edges_2 }

begins_1 : BeginsWith (take 65 of_format_1) (chunk ∷ []) [] of_format_1
unfolding chunk edges of_format_1 numbers number chunk_bytes chunk_head edge_bytes
begins_1 = record { are = one_chunk (IsEdgeChunk (take 65 of_format_1)) chunk_1; stand = refl }

begins_2 : BeginsWith (take 65 of_format_2) (chunk ∷ []) [] of_format_2
unfolding chunk edges of_format_2 numbers number chunk_bytes chunk_head edge_bytes
begins_2 = record { are = one_chunk (IsEdgeChunk (take 65 of_format_2)) chunk_2; stand = refl }

-- **No check fails.**
sound_1 : IsSound (of_format_1 ∷ []) (values_0 ∷ []) (λ e. chunk ∷ [])
sound_1 = record {
  prepared = of_one (λ e. IsOpenGraph (device (of_format_1 ∷ []) e)) open_1;
  heads = whole_head;
  chunks = record { each = of_one (λ e. BeginsWith (take 65 of_format_1) (chunk ∷ []) [] (device (of_format_1 ∷ []) e)) begins_1; few = lit≤ tt };
  slots = whole_values;
}

whole_values_2 : values_fault (take 65 of_format_2) (values_0 ∷ []) ≡ None
unfolding of_format_2 numbers number values_0 gate distances
whole_values_2 = refl

sound_2 : IsSound (of_format_2 ∷ []) (values_0 ∷ []) (λ e. chunk ∷ [])
sound_2 = record {
  prepared = of_one (λ e. IsOpenGraph (device (of_format_2 ∷ []) e)) open_2;
  heads = whole_head_2;
  chunks = record { each = of_one (λ e. BeginsWith (take 65 of_format_2) (chunk ∷ []) [] (device (of_format_2 ∷ []) e)) begins_2; few = lit≤ tt };
  slots = whole_values_2;
}

-- A gate that is not open.
shut : HasFault (with_byte 0 0 of_format_1 ∷ []) (values_0 ∷ []) NotPrepared
unfolding of_format_1 numbers number with_byte
shut = inl (refl, (0, lit< tt, λ is_open. zero_is_open is_open.gate))
  where
    zero_is_open : ◌≡◌ {A = ℕ} 0 165 → ⊥
    zero_is_open same = absurd (omega arith)

-- The chunk is of partition 64, where there is one partition.
moved : List ℕ
moved = with_byte 68 64 of_format_1

open_moved : IsOpenGraph moved
unfolding moved of_format_1 numbers number with_byte
open_moved = record { whole = lit≤ tt; gate = refl }

moved_head : heads_fault (moved ∷ []) ≡ None
unfolding moved of_format_1 numbers number with_byte
moved_head = refl

one_partition : (c : Chunk Edge) → IsEdgeChunk (take 65 moved) c → c.partition < 1
unfolding moved of_format_1 numbers number with_byte
one_partition c is = is.partition

reads_64 : take 4 (drop 65 moved) ≡ 0 ∷ 0 ∷ 0 ∷ 64 ∷ []
unfolding moved of_format_1 numbers number with_byte
reads_64 = refl

no_chunk : NoEdgeChunk (take 65 moved) 65 moved
no_chunk c is stands =
    let below = one_partition c is in
    let first : c.partition ≡ 0 = omega arith in
    let told : take 4 (drop 65 moved) ≡ to_be_bytes w32 0 = told_partition (edge_layout (value_of Format (take 65 moved))) c.partition 65 moved c.items stands ∙ ap (to_be_bytes w32) first in
    let last : ◌≡◌ {A = ℕ} 64 0 = ap (λ bytes. get_or bytes 3 0) (sym reads_64 ∙ told) in
    absurd (omega arith)

nothing : List (Chunk Edge)
nothing = []

begins_moved : BeginsWith (take 65 moved) nothing (drop 65 moved) moved
unfolding nothing
begins_moved = record { are = All-nil (IsEdgeChunk (take 65 moved)); stand = refl }

long_moved : 65 < length moved
unfolding moved of_format_1 numbers number with_byte
long_moved = lit< tt

no_chunks_yet : chunks_before (λ e. nothing) 1 ≡ 0
unfolding nothing
no_chunks_yet = refl

stops : StopsAt (take 65 moved) (moved ∷ []) 0 65
stops = record {
  engine = lit< tt;
  made = λ e. nothing;
  before = λ k below. absurd (omega arith);
  here = begins_moved;
  within = long_moved;
  few = omega (arith, no_chunks_yet);
  stopped = inl no_chunk;
}

bad_partition : HasFault (moved ∷ []) (values_0 ∷ []) (GraphDamaged 0 65)
bad_partition = inr (inr (inl (of_one (λ e. IsOpenGraph (device (moved ∷ []) e)) open_moved, moved_head, (0, 65, refl, stops))))
