-- What is wrong with a store, by the first check that fails. `graphs` and `values` have the bytes of one device for each
-- engine. The checks are, in this order: all gates are open; each head is well formed; all heads agree; there are as many
-- engines as devices; behind the heads there are chunks and nothing else; the values devices are well formed.
use Rattle.std.specs.Prelude.{◌≡◌, ◌⊎◌, ℕ, ◌+◌, ◌-◌, ◌^◌, ◌==◌, ◌&&◌, ◌||◌, ◌<◌, ◌≤◌, if◌then◌else◌, Bool, true, not, nat_lt, nat_le, Option, Some, None, List, [], ◌∷◌, ◌++◌, length, take, drop, map, sum_by, slice_index}
use Rattle.std.specs.List.{All, range_with_len}
use Rattle.std.specs.Int.{from_be_bytes, w16, w64}
use Rattle.ports.specs.Bytes.{bytes_at}
use Rattle.graph_model.specs.declared.edge.Edge.{Edge}
use Rattle.graph_model.specs.Partitions.{MAX_PARTS, ceil_div, part_count, own_count}
use Rattle.graph_model.specs.Jobs.{most_vertices}
use Rattle.chunk_model.specs.Chunks.{Chunk}
use Rattle.chunk_model.specs.Layout.{edge_layout}
use Rattle.chunk_model.specs.ChunkBytes.{AreChunk, StandsAt, chunk_bytes, bytes_of_chunks}
use Rattle.store_model.specs.declared.field.Field.{Field}
use Rattle.store_model.specs.declared.field.Field.TheVariants.{Format, Engines, Engine, Program, Zero, Keep, Argument, Vertices, Most, Chunk as ChunkSize, Seed, Alpha, Limit, Mark}
use Rattle.store_model.specs.declared.field.TheConstants.{FIELDS}
use Rattle.store_model.specs.Gates.{OPEN}
use Rattle.store_model.specs.Heads.{HEAD_SIZE, MARK}
use Rattle.store_model.specs.Slots.{slot_start, slot_of, device_size}
use Rattle.store_model.specs.Kept.{device, IsPrepared, IsUnprepared}

pub data Fault : Type 0 where
  NotPrepared : Fault
  -- the number of engines by the heads, and that of the devices
  EnginesDiffer : (held asked : ℕ) → Fault
  -- from this byte on what stands on the graph device, or the values device, of an engine is no part of a store
  GraphDamaged : (e at : ℕ) → Fault
  ValuesDamaged : (e at : ℕ) → Fault

-- the first fault that some checks have found
abbrev pub first_of : List (Option Fault) → Option Fault
first_of [] = None
first_of (None ∷ others) = first_of others
first_of (Some fault ∷ others) = Some fault

-- of so many engines, by what is found at each
abbrev pub first_over : (ℕ → Option Fault) → (count : ℕ) → Option Fault
first_over check count = first_of (map check (range_with_len 0 count))

-- Heads. The number that stands in a field; the bytes of all fields together are all bytes behind the gate.
abbrev pub value_of : Field → (head : List ℕ) → ℕ
value_of Format head = slice_index head 1
value_of Engines head = slice_index head 2
value_of Engine head = slice_index head 3
value_of Program head = slice_index head 4
value_of Zero head = slice_index head 5
value_of Keep head = from_be_bytes w16 (bytes_at 6 2 head)
value_of Argument head = from_be_bytes w64 (bytes_at 8 8 head)
value_of Vertices head = from_be_bytes w64 (bytes_at 16 8 head)
value_of Most head = from_be_bytes w64 (bytes_at 24 8 head)
value_of ChunkSize head = from_be_bytes w64 (bytes_at 32 8 head)
value_of Seed head = from_be_bytes w64 (bytes_at 40 8 head)
value_of Alpha head = from_be_bytes w64 (bytes_at 48 8 head)
value_of Limit head = from_be_bytes w64 (bytes_at 56 8 head)
value_of Mark head = slice_index head 64

-- the first byte of a field
abbrev pub place_of : Field → ℕ
place_of Format = 1
place_of Engines = 2
place_of Engine = 3
place_of Program = 4
place_of Zero = 5
place_of Keep = 6
place_of Argument = 8
place_of Vertices = 16
place_of Most = 24
place_of ChunkSize = 32
place_of Seed = 40
place_of Alpha = 48
place_of Limit = 56
place_of Mark = 64

abbrev pub parts_in : (head : List ℕ) → ℕ
parts_in head = part_count (value_of Vertices head) (value_of Engines head) (value_of Most head)

abbrev pub span_in : (head : List ℕ) → ℕ
span_in head = ceil_div (value_of Vertices head) (parts_in head)

abbrev pub within : (low high x : ℕ) → Bool
within low high x = nat_le low x && nat_le x high

-- roots are vertices, rounds are at least one, and other programs have no argument
abbrev pub is_argument : (program vertices x : ℕ) → Bool
is_argument program vertices x =
    if program == 0 || program == 2 then nat_lt x vertices else if program == 4 then within 1 100000 x else x == 0

-- whether a field of the head of engine e is well formed
abbrev pub is_good : (e : ℕ) → (head : List ℕ) → Field → Bool
is_good e head Format = within 1 2 (value_of Format head)
is_good e head Engines = within 1 8 (value_of Engines head)
is_good e head Engine = value_of Engine head == e
is_good e head Program = nat_le (value_of Program head) 4
is_good e head Zero = (value_of Zero head == 0) && (not (value_of Format head == 1) || (value_of Keep head == 0))
is_good e head Keep = (value_of Format head == 1) || (value_of Keep head == 1)
is_good e head Argument = is_argument (value_of Program head) (value_of Vertices head) (value_of Argument head)
is_good e head Vertices = nat_le (value_of Vertices head) (most_vertices (value_of Format head))
is_good e head Most = within 1 67108864 (value_of Most head) && nat_le (parts_in head) MAX_PARTS
is_good e head ChunkSize = within 1 65536 (value_of ChunkSize head)
is_good e head Seed = true
is_good e head Alpha = nat_le (value_of Alpha head) 10000
is_good e head Limit = within 1 1000000 (value_of Limit head)
is_good e head Mark = value_of Mark head == MARK

-- whether a field of a head is as in the first head; each has its own engine's number
abbrev pub is_same : (first head : List ℕ) → Field → Bool
is_same first head Engine = true
is_same first head field = value_of field head == value_of field first

-- the place of the first field that fails a test
abbrev pub first_bad : (Field → Bool) → List Field → Option ℕ
first_bad test [] = None
first_bad test (field ∷ fields) = if test field then first_bad test fields else Some (place_of field)

abbrev pub at_graph : (e : ℕ) → Option ℕ → Option Fault
at_graph e None = None
at_graph e (Some at) = Some (GraphDamaged e at)

abbrev pub head_of : (graphs : List (List ℕ)) → (e : ℕ) → List ℕ
head_of graphs e = take HEAD_SIZE (device graphs e)

abbrev pub head_fault : (e : ℕ) → (head : List ℕ) → Option Fault
head_fault e head = at_graph e (first_bad (is_good e head) FIELDS)

abbrev pub other_fault : (first : List ℕ) → (e : ℕ) → (head : List ℕ) → Option Fault
other_fault first e head = at_graph e (first_bad (is_same first head) FIELDS)

abbrev pub engines_fault : (held asked : ℕ) → Option Fault
engines_fault held asked = if held == asked then None else Some (EnginesDiffer held asked)

-- **The first fault of the heads.**
abbrev pub heads_fault : (graphs : List (List ℕ)) → Option Fault
heads_fault graphs =
    let first = head_of graphs 0 in
    let count = length graphs in
    first_of (
    first_over (λ e. head_fault e (head_of graphs e)) count
    ∷ first_over (λ e. other_fault first e (head_of graphs e)) count
    ∷ engines_fault (value_of Engines first) count
    ∷ [])

-- Chunks, where the heads say what is in `head`.
pub record IsEdgeChunk (head : List ℕ) (c : Chunk Edge) : Type 0 where
  pub partition : c.partition < parts_in head
  pub are : AreChunk (edge_layout (value_of Format head)) (value_of Vertices head) (span_in head) (value_of ChunkSize head) c.partition c.items

-- no such chunk stands at a place
abbrev pub NoEdgeChunk : (head : List ℕ) → (at : ℕ) → List ℕ → Type 0
NoEdgeChunk head at bytes =
    (c : Chunk Edge) → IsEdgeChunk head c → StandsAt at (chunk_bytes (edge_layout (value_of Format head)) c.partition c.items) bytes → ⊥

-- from behind the head on, the device has these chunks one behind another, and then the rest
pub record BeginsWith (head : List ℕ) (made : List (Chunk Edge)) (rest bytes : List ℕ) : Type 0 where
  pub are : All (IsEdgeChunk head) made
  pub stand : drop HEAD_SIZE bytes ≡ bytes_of_chunks (edge_layout (value_of Format head)) made ++ rest

-- the most chunks of all graph devices together
abbrev pub MOST_CHUNKS : ℕ
MOST_CHUNKS = 2 ^ 31 - 8

-- how many chunks the first so many engines have
abbrev pub chunks_before : (made : ℕ → List (Chunk Edge)) → (count : ℕ) → ℕ
chunks_before made count = sum_by (λ e. length (made e)) (range_with_len 0 count)

-- **Every graph device is chunks and nothing else, and they are not too many.**
pub record AreChunks (head : List ℕ) (graphs : List (List ℕ)) (made : ℕ → List (Chunk Edge)) : Type 0 where
  pub each : (e : ℕ) → e < length graphs → BeginsWith head (made e) [] (device graphs e)
  pub few : chunks_before made (length graphs) ≤ MOST_CHUNKS

-- **The first byte that begins no chunk, or one that is too many.**
pub record StopsAt (head : List ℕ) (graphs : List (List ℕ)) (e at : ℕ) : Type 0 where
  pub engine : e < length graphs
  pub made : ℕ → List (Chunk Edge)
  pub before : (k : ℕ) → k < e → BeginsWith head (made k) [] (device graphs k)
  pub here : BeginsWith head (made e) (drop at (device graphs e)) (device graphs e)
  pub within : at < length (device graphs e)
  pub few : chunks_before made (e + 1) ≤ MOST_CHUNKS
  pub stopped : NoEdgeChunk head at (device graphs e) ⊎ (chunks_before made (e + 1) ≡ MOST_CHUNKS)

-- Values devices.
abbrev pub own_in : (head : List ℕ) → (e : ℕ) → ℕ
own_in head e = own_count (value_of Vertices head) (value_of Engines head) (parts_in head) e

abbrev pub is_open_slot : (own slot : ℕ) → List ℕ → Bool
is_open_slot own slot bytes = slice_index bytes (slot_start own slot) == OPEN

abbrev pub round_in : (own slot : ℕ) → List ℕ → ℕ
round_in own slot bytes = from_be_bytes w64 (bytes_at (slot_start own slot + 8) 8 bytes)

abbrev pub changed_of : (own slot : ℕ) → List ℕ → ℕ
changed_of own slot bytes = from_be_bytes w64 (bytes_at (slot_start own slot + 16) 8 bytes)

-- the numbers of an open slot are those of a round of this slot
abbrev pub is_good_slot : (own slot : ℕ) → List ℕ → Bool
is_good_slot own slot bytes =
    not (is_open_slot own slot bytes)
    || ((slot_of (round_in own slot bytes) == slot) && nat_le (round_in own slot bytes) 1000000 && nat_le (changed_of own slot bytes) own)

abbrev pub slot_fault : (own e slot : ℕ) → List ℕ → Option Fault
slot_fault own e slot bytes = if is_good_slot own slot bytes then None else Some (ValuesDamaged e (slot_start own slot))

abbrev pub device_fault : (own e : ℕ) → List ℕ → Option Fault
device_fault own e bytes =
    if length bytes == device_size own
    then first_of (slot_fault own e 0 bytes ∷ slot_fault own e 1 bytes ∷ [])
    else Some (ValuesDamaged e 0)

-- **The first fault of the values devices.**
abbrev pub values_fault : (head : List ℕ) → (values : List (List ℕ)) → Option Fault
values_fault head values = first_over (λ e. device_fault (own_in head e) e (device values e)) (length values)

-- **The first check that fails is this one.**
abbrev pub HasFault : (graphs values : List (List ℕ)) → Fault → Type 0
HasFault graphs values fault =
    ((fault ≡ NotPrepared) × IsUnprepared graphs)
    ⊎ (IsPrepared graphs × (heads_fault graphs ≡ Some fault))
    ⊎ (IsPrepared graphs × (heads_fault graphs ≡ None) × ((e : ℕ) × (at : ℕ) × (fault ≡ GraphDamaged e at) × StopsAt (head_of graphs 0) graphs e at))
    ⊎ (IsPrepared graphs × (heads_fault graphs ≡ None) × ((made : ℕ → List (Chunk Edge)) × AreChunks (head_of graphs 0) graphs made)
    × (values_fault (head_of graphs 0) values ≡ Some fault))

-- **None fails**: the graph devices have these chunks.
pub record IsSound (graphs values : List (List ℕ)) (made : ℕ → List (Chunk Edge)) : Type 0 where
  pub prepared : IsPrepared graphs
  pub heads : heads_fault graphs ≡ None
  pub chunks : AreChunks (head_of graphs 0) graphs made
  pub slots : values_fault (head_of graphs 0) values ≡ None
