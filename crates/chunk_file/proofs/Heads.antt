-- The front of a chunk: what its head tells, and what bytes it is made of.
use Rattle.std.proofs.Common.{◌≡◌, ℕ, ◌+◌, ◌-◌, ◌*◌, ◌^◌, ◌<◌, ◌≤◌, min, List, ◌++◌, length, take, drop, get_or, sym, ◌∙◌, ap, arith, append-nil, append_assoc, mul-le-mul_left, length-take, length-drop}
use Rattle.std.specs.List.{flat_map}
use Rattle.std.specs.Int.{to_be_bytes, from_be_bytes, w32}
use Rattle.std.specs.Prelude.{Option, Some, None, IfSome}
use Rattle.std.proofs.lemmas.Nat.{from_be_bytes-to_be_bytes_4, be_bytes_4}
use Rattle.std.proofs.lemmas.List.{take-append-drop, take_all, drop_all}
use Rattle.std.proofs.Math.Seq.{take-add, take-append-add}
use Rattle.ports.specs.Told.{AsTold}
use Rattle.ports.specs.Bytes.{after_write, bytes_at}
use Rattle.ports.specs.Sink.{Appends}
use Rattle.chunk_model.specs.Layout.{Layout, IsLayout}
use Rattle.chunk_model.specs.ChunkBytes.{chunk_head, chunk_bytes, chunk_width, StandsAt, IsChunkAt, NoChunkAt}
use Rattle.chunk_model.proofs.OnDevice.{length-chunk_bytes, stands_within, told_partition, told_count}
use Rattle.chunk_model.proofs.LayoutLaws.{bytes_of_part}

-- What the head of a chunk at the front tells.
pub record HeadTells {X : Type 0} (layout : Layout X) (p : ℕ) (bytes : List ℕ) (records : List X) : Type 0 where
  pub long : 8 + layout.width * length records ≤ length bytes
  pub partition : from_be_bytes w32 (bytes_at 0 4 bytes) ≡ p
  pub count : from_be_bytes w32 (bytes_at 4 4 bytes) ≡ length records

pub head_tells : {X : Type 0} (layout : Layout X) → IsLayout layout → (p : ℕ) (bytes : List ℕ) (records : List X) → p < 2 ^ 32 → length records < 2 ^ 32 →
    StandsAt 0 (chunk_bytes layout p records) bytes → HeadTells layout p bytes records
head_tells layout laws p bytes records p_below few stands =
    let wide = length-chunk_bytes layout laws p records in
    record {
      long = omega (arith, wide, stands_within 0 (chunk_bytes layout p records) bytes stands (omega (arith, wide)));
      partition = ap (from_be_bytes w32) (told_partition layout p 0 bytes records stands) ∙ from_be_bytes-to_be_bytes_4 p p_below;
      count = ap (from_be_bytes w32) (told_count layout p 0 bytes records stands) ∙ from_be_bytes-to_be_bytes_4 (length records) few;
    }

-- bytes with such a head and these records behind it begin with the chunk
pub makes_chunk : {X : Type 0} (layout : Layout X) (p : ℕ) (bytes : List ℕ) (records : List X) → ((i : ℕ) → get_or bytes i 0 < 256) →
    8 + layout.width * length records ≤ length bytes →
    p ≡ from_be_bytes w32 (bytes_at 0 4 bytes) → length records ≡ from_be_bytes w32 (bytes_at 4 4 bytes) →
    flat_map layout.bytes records ≡ take (layout.width * length records) (drop 8 bytes) →
    StandsAt 0 (chunk_bytes layout p records) bytes
unfolding chunk_bytes chunk_head
makes_chunk layout p bytes records each long partition count body =
    let width : ℕ = layout.width * length records in
    let first : to_be_bytes w32 p ≡ take 4 bytes =
    be_bytes_4 (take 4 bytes) p (omega (arith, length-take 4 bytes)) (bytes_of_part 0 4 bytes each) partition in
    let second : to_be_bytes w32 (length records) ≡ take 4 (drop 4 bytes) =
    be_bytes_4 (take 4 (drop 4 bytes)) (length records) (omega (arith, length-take 4 (drop 4 bytes), length-drop 4 bytes)) (bytes_of_part 4 4 bytes each) count in
    let whole : (to_be_bytes w32 p ++ to_be_bytes w32 (length records) ++ flat_map layout.bytes records) ++ drop (8 + width) bytes ≡ bytes =
    ap (λ xs. (xs ++ to_be_bytes w32 (length records) ++ flat_map layout.bytes records) ++ drop (8 + width) bytes) first
    ∙ ap (λ xs. (take 4 bytes ++ xs ++ flat_map layout.bytes records) ++ drop (8 + width) bytes) second
    ∙ ap (λ xs. (take 4 bytes ++ take 4 (drop 4 bytes) ++ xs) ++ drop (8 + width) bytes) body
    ∙ ap (λ xs. (xs ++ take width (drop 8 bytes)) ++ drop (8 + width) bytes) (sym (take-add 4 4 bytes))
    ∙ ap (λ xs. xs ++ drop (8 + width) bytes) (sym (take-add 8 width bytes))
    ∙ take-append-drop (8 + width) bytes in
    (drop (8 + width) bytes, sym whole)

-- the same, of the numbers that were computed
pub reads_chunk : {X : Type 0} (layout : Layout X) (p count width : ℕ) (bytes : List ℕ) (records : List X) → ((i : ℕ) → get_or bytes i 0 < 256) →
    width ≡ layout.width → length records ≡ count → 8 + width * count ≤ length bytes →
    p ≡ from_be_bytes w32 (bytes_at 0 4 bytes) → count ≡ from_be_bytes w32 (bytes_at 4 4 bytes) →
    flat_map layout.bytes records ≡ take (8 + width * count - 8) (drop 8 bytes) →
    StandsAt 0 (chunk_bytes layout p records) bytes
reads_chunk layout p count width bytes records each is_width many long partition is_count body =
    let area : width * count ≡ layout.width * length records = ap (λ w. w * count) is_width ∙ ap (λ k. layout.width * k) (sym many) in
    let size : 8 + width * count - 8 ≡ layout.width * length records = omega (arith, area) in
    makes_chunk layout p bytes records each (omega (arith, area)) partition (many ∙ is_count) (body ∙ ap (λ k. take k (drop 8 bytes)) size)

-- From bytes that were read to the device.
pub chunk_at_device : {X : Type 0} (layout : Layout X) (vertices span most p at room : ℕ) (buffer told : List ℕ) (records : List X) →
    take room buffer ≡ bytes_at at room told →
    IsChunkAt layout vertices span most p 0 (take room buffer) records → IsChunkAt layout vertices span most p at told records
chunk_at_device layout vertices span most p at room buffer told records read is =
    let text : List ℕ = chunk_bytes layout p records in
    record {
      stands = (
        is.stands.0 ++ drop room (drop at told),
        sym (take-append-drop room (drop at told))
            ∙ ap (λ xs. xs ++ drop room (drop at told)) (sym read ∙ is.stands.1)
            ∙ append_assoc text is.stands.0 (drop room (drop at told)),
      );
      are = is.are;
    }

pub no_chunk_at_device : {X : Type 0} (layout : Layout X) → IsLayout layout → (vertices span most p at room size : ℕ) (buffer told : List ℕ) →
    take room buffer ≡ bytes_at at room told → size ≡ length told → room ≡ min (length buffer) (size - at) →
    chunk_width layout.width most ≤ length buffer →
    NoChunkAt layout vertices span most p 0 (take room buffer) → NoChunkAt layout vertices span most p at told
no_chunk_at_device layout laws vertices span most p at room size buffer told read sized is_room fits none records is =
    let text : List ℕ = chunk_bytes layout p records in
    let wide = length-chunk_bytes layout laws p records in
    let within = stands_within at text told is.stands (omega (arith, wide)) in
    let product : layout.width * length records ≤ layout.width * most = mul-le-mul_left layout.width is.are.few in
    let short : length text ≤ room = omega (arith, wide, within) in
    let split : room ≡ length text + (room - length text) = omega arith in
    none records (record {
      stands = (
        take (room - length text) is.stands.0,
        read ∙ ap (take room) is.stands.1 ∙ ap (λ k. take k (text ++ is.stands.0)) split ∙ take-append-add text is.stands.0 (room - length text),
      );
      are = is.are;
    })

pub chunk_fits_device : {X : Type 0} (layout : Layout X) → IsLayout layout → (vertices span most p at room size count : ℕ) (buffer : List ℕ) (records : List X) →
    room ≡ min (length buffer) (size - at) → length records ≡ count →
    IsChunkAt layout vertices span most p 0 (take room buffer) records → at + chunk_width layout.width count ≤ size
chunk_fits_device layout laws vertices span most p at room size count buffer records is_room many is =
    let wide = length-chunk_bytes layout laws p records in
    let within = stands_within 0 (chunk_bytes layout p records) (take room buffer) is.stands (omega (arith, wide)) in
    omega (arith, wide, within, length-take room buffer, ap (λ k. layout.width * k) many)

-- A write at the end.
pub appended : (piece : List ℕ) (at : ℕ) (old new : Option (List ℕ)) → IfSome old (λ bytes. at ≡ length bytes) →
    AsTold (λ before now. now ≡ after_write at piece before) old new → AsTold (Appends piece) old new
appended piece at None None sized written = tt
appended piece at None (Some now) sized written = written
appended piece at (Some before) None sized written = written
appended piece at (Some before) (Some now) sized written =
    written
    ∙ ap (λ xs. xs ++ piece ++ drop (at + length piece) before) (take_all at before (omega arith))
    ∙ ap (λ xs. before ++ piece ++ xs) (drop_all (at + length piece) before (omega arith))
    ∙ append-nil (before ++ piece)

-- What is said of a device that tells its bytes.
pub as_told : (P Q : List ℕ → Type 0) (told : Option (List ℕ)) → IfSome told P → ((bytes : List ℕ) → P bytes → Q bytes) → IfSome told Q
as_told P Q None is then = tt
as_told P Q (Some bytes) is then = then bytes is

pub as_told_of_two : (P R Q : List ℕ → Type 0) (told : Option (List ℕ)) → IfSome told P → IfSome told R → ((bytes : List ℕ) → P bytes → R bytes → Q bytes) → IfSome told Q
as_told_of_two P R Q None is also then = tt
as_told_of_two P R Q (Some bytes) is also then = then bytes is also

pub as_told_of_three : (P R S Q : List ℕ → Type 0) (told : Option (List ℕ)) → IfSome told P → IfSome told R → IfSome told S →
    ((bytes : List ℕ) → P bytes → R bytes → S bytes → Q bytes) → IfSome told Q
as_told_of_three P R S Q None is also too then = tt
as_told_of_three P R S Q (Some bytes) is also too then = then bytes is also too

pub as_told_of_any : (Q : List ℕ → Type 0) (told : Option (List ℕ)) → ((bytes : List ℕ) → Q bytes) → IfSome told Q
as_told_of_any Q None then = tt
as_told_of_any Q (Some bytes) then = then bytes
