-- The definitions on worked examples: each value here was computed by hand.
use Rattle.std.proofs.Common.{◌≡◌, ℕ, ◌%◌, ◌<◌, zero, suc, true, false, List, [], ◌∷◌, ◌++◌, length, take, get_or, refl, arith, lit<}
use Rattle.std.specs.Int.{to_be_bytes, w32}
use Rattle.std.proofs.lemmas.List.Elements.{All-from_recursion}
use Rattle.graph_model.specs.declared.edge.Edge.{Edge}
use Rattle.chunk_model.specs.Chunks.{Chunk, chunks, full_chunks, left_over, chunks_of_partition, items_in, IsChunkOf}
use Rattle.chunk_model.specs.Buffers.{Holds}
use Rattle.chunk_model.specs.Layout.{edge_layout, edge_bytes, edge_of, update_bytes, update_of}
use Rattle.chunk_model.specs.ChunkBytes.{chunk_head, chunk_bytes, chunk_width, Belongs, AreChunk, IsChunkAt, NoChunkAt, bytes_of_chunks, starts_of}
use Rattle.chunk_model.proofs.LayoutLaws.{edge_layout_is}
use Rattle.chunk_model.proofs.OnDevice.{same_number, told_count, stands_within, length-chunk_bytes}

-- Chunks of two: the partition of a number is its remainder by 2.
parity : ℕ → ℕ
parity x = x % 2

abbrev chunk : ℕ → List ℕ → Chunk ℕ
chunk p items = record { partition = p; items = items }

chunks_of_five : chunks 2 parity 2 (1 ∷ 2 ∷ 3 ∷ 4 ∷ 5 ∷ []) ≡ chunk 1 (1 ∷ 3 ∷ []) ∷ chunk 0 (2 ∷ 4 ∷ []) ∷ chunk 1 (5 ∷ []) ∷ []
unfolding parity
chunks_of_five = refl

-- partition 2 of three has no item, and so no chunk
chunks_of_three_partitions : chunks 2 parity 3 (7 ∷ 4 ∷ 5 ∷ 9 ∷ []) ≡ chunk 1 (7 ∷ 5 ∷ []) ∷ chunk 0 (4 ∷ []) ∷ chunk 1 (9 ∷ []) ∷ []
unfolding parity
chunks_of_three_partitions = refl

-- each item fills a chunk of one
chunks_of_one : chunks 1 parity 2 (3 ∷ 2 ∷ []) ≡ chunk 1 (3 ∷ []) ∷ chunk 0 (2 ∷ []) ∷ []
unfolding parity
chunks_of_one = refl

chunks_of_nothing : chunks 2 parity 2 [] ≡ []
unfolding parity
chunks_of_nothing = refl

full_chunks_of_five : full_chunks 2 parity [] (1 ∷ 2 ∷ 3 ∷ 4 ∷ 5 ∷ []) ≡ chunk 1 (1 ∷ 3 ∷ []) ∷ chunk 0 (2 ∷ 4 ∷ []) ∷ []
unfolding parity
full_chunks_of_five = refl

left_over_of_five : left_over 2 parity (1 ∷ 2 ∷ 3 ∷ 4 ∷ 5 ∷ []) 1 ≡ 5 ∷ []
unfolding parity
left_over_of_five = refl

-- what the chunks of a partition hold
items_of_partition_1 : items_in (chunks_of_partition 1 (chunks 2 parity 2 (1 ∷ 2 ∷ 3 ∷ 4 ∷ 5 ∷ []))) ≡ 1 ∷ 3 ∷ 5 ∷ []
unfolding parity
items_of_partition_1 = refl

last_chunk_is_one : IsChunkOf 2 parity (chunk 1 (5 ∷ []))
unfolding parity
last_chunk_is_one =
    record { some = lit< tt; few = omega arith; of_partition = All-from_recursion (λ x. x % 2 ≡ 1) (5 ∷ []) (refl, tt) }

-- the buffers after five items
buffers_after_five : Holds 2 parity 2 (1 ∷ 2 ∷ 3 ∷ 4 ∷ 5 ∷ []) ([] ∷ (5 ∷ []) ∷ [])
unfolding parity
buffers_after_five = record { many = refl; hold = hold }
  where
    hold : (p : ℕ) → p < 2 → get_or ([] ∷ (5 ∷ []) ∷ []) p [] ≡ left_over 2 parity (1 ∷ 2 ∷ 3 ∷ 4 ∷ 5 ∷ []) p
    hold zero below = refl
    hold (suc zero) below = refl
    hold (suc (suc p)) below = absurd (omega arith)

-- Records.
edge : Edge
edge = record { src = 258; dst = 1; weight = 5 }

edge_in_format_1 : edge_bytes 1 edge ≡ 0 ∷ 0 ∷ 1 ∷ 2 ∷ 0 ∷ 0 ∷ 0 ∷ 1 ∷ 0 ∷ 0 ∷ 0 ∷ 5 ∷ []
unfolding edge edge_bytes
edge_in_format_1 = refl

edge_in_format_2 : edge_bytes 2 edge ≡ 0 ∷ 0 ∷ 1 ∷ 2 ∷ 0 ∷ 0 ∷ 0 ∷ 1 ∷ 0 ∷ 0 ∷ 0 ∷ 0 ∷ 0 ∷ 0 ∷ 0 ∷ 5 ∷ []
unfolding edge edge_bytes
edge_in_format_2 = refl

edge_is_read : edge_of 1 (0 ∷ 0 ∷ 1 ∷ 2 ∷ 0 ∷ 0 ∷ 0 ∷ 1 ∷ 0 ∷ 0 ∷ 0 ∷ 5 ∷ []) ≡ edge
unfolding edge edge_of
edge_is_read = refl

-- what there is room for, and what fits
heavy : Edge
heavy = record { src = 0; dst = 1; weight = 4294967296 }

heavy_in_format_1 : (edge_layout 1).holds heavy ≡ false
unfolding heavy
heavy_in_format_1 = refl

heavy_in_format_2 : (edge_layout 2).holds heavy ≡ true
unfolding heavy
heavy_in_format_2 = refl

heavy_fits : (edge_layout 1).fits 2 heavy ≡ true
unfolding heavy
heavy_fits = refl

heavy_outside : (edge_layout 2).fits 1 heavy ≡ false
unfolding heavy
heavy_outside = refl

update_written : update_bytes (record { dst = 3; value = 256 }) ≡ 0 ∷ 0 ∷ 0 ∷ 3 ∷ 0 ∷ 0 ∷ 0 ∷ 0 ∷ 0 ∷ 0 ∷ 1 ∷ 0 ∷ []
unfolding update_bytes
update_written = refl

update_read : update_of (0 ∷ 0 ∷ 0 ∷ 3 ∷ 0 ∷ 0 ∷ 0 ∷ 0 ∷ 0 ∷ 0 ∷ 1 ∷ 0 ∷ []) ≡ record { dst = 3; value = 256 }
unfolding update_of
update_read = refl

-- A chunk of one edge of partition 129, of partitions of two vertices.
abbrev written : List ℕ
written = 0 ∷ 0 ∷ 0 ∷ 129 ∷ 0 ∷ 0 ∷ 0 ∷ 1 ∷ 0 ∷ 0 ∷ 1 ∷ 2 ∷ 0 ∷ 0 ∷ 0 ∷ 1 ∷ 0 ∷ 0 ∷ 0 ∷ 5 ∷ []

chunk_written : chunk_bytes (edge_layout 1) 129 (edge ∷ []) ≡ written
unfolding edge edge_bytes chunk_bytes chunk_head
chunk_written = refl

chunk_size : chunk_width (edge_layout 1).width 1 ≡ 20
chunk_size = refl

-- it stands behind two bytes, with another behind it
chunk_stands : IsChunkAt (edge_layout 1) 300 2 4 129 2 (9 ∷ 9 ∷ written ++ 7 ∷ []) (edge ∷ [])
unfolding edge edge_bytes chunk_bytes chunk_head
chunk_stands = record { stands = (7 ∷ [], refl); are = are }
  where
    are : AreChunk (edge_layout 1) 300 2 4 129 (edge ∷ [])
    are = record {
      some = lit< tt;
      few = omega arith;
      counted = lit< tt;
      held = All-from_recursion (λ r. (edge_layout 1).holds r ≡ true) (edge ∷ []) (refl, tt);
      belong = All-from_recursion (Belongs (edge_layout 1) 300 2 129) (edge ∷ []) (record { fits = refl; home = refl }, tt);
    }

-- a chunk of no record is none
empty_is_no_chunk : NoChunkAt (edge_layout 1) 300 2 4 129 0 (0 ∷ 0 ∷ 0 ∷ 129 ∷ 0 ∷ 0 ∷ 0 ∷ 0 ∷ [])
empty_is_no_chunk records is =
    let zero_many : to_be_bytes w32 0 ≡ to_be_bytes w32 (length records) = told_count (edge_layout 1) 129 0 _ records is.stands in
    let none : 0 ≡ length records = same_number 0 (length records) (lit< tt) is.are.counted zero_many in
    absurd (omega (arith, is.are.some))

-- and so is one that the bytes end in
cut_is_no_chunk : NoChunkAt (edge_layout 1) 300 2 4 129 0 (take 19 written)
cut_is_no_chunk records is =
    let wide = length-chunk_bytes (edge_layout 1) (edge_layout_is 1) 129 records in
    let within = stands_within 0 (chunk_bytes (edge_layout 1) 129 records) (take 19 written) is.stands (omega (arith, wide, is.are.some)) in
    absurd (omega (arith, wide, is.are.some))

-- Two chunks behind byte 65, of one edge and of two, and a third.
abbrev three : List (Chunk Edge)
three =
    record { partition = 0; items = edge ∷ [] }
    ∷ record { partition = 1; items = edge ∷ edge ∷ [] }
    ∷ record { partition = 0; items = edge ∷ [] }
    ∷ []

places_of_three : starts_of (edge_layout 1) 0 65 three ≡ 65 ∷ 117 ∷ []
unfolding edge edge_bytes chunk_bytes chunk_head
places_of_three = refl

bytes_of_three : length (bytes_of_chunks (edge_layout 1) three) ≡ 72
unfolding edge edge_bytes chunk_bytes chunk_head
bytes_of_three = refl
