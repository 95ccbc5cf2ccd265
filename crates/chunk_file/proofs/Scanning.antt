-- What a scan has found so far.
use Rattle.std.proofs.Common.{◌≡◌, ◌≢◌, ◌⊎◌, inl, inr, ℕ, ◌+◌, ◌-◌, ◌*◌, ◌<◌, ◌≤◌, min, List, [], ◌∷◌, ◌++◌, length, take, drop, map, refl, sym, ◌∙◌, ap, subst, arith, append-nil, append_assoc, length-append, length-take, length-drop}
use Rattle.std.specs.Int.{from_be_bytes, w32}
use Rattle.std.proofs.lemmas.List.{map-append, drop-drop, drop_at, get_or-set_same, get_or-set_other}
use Rattle.std.proofs.lemmas.List.Elements.{All-nil, All-cons, All-append}
use Rattle.std.proofs.lemmas.Bool.{cases_eq}
use Rattle.graph_model.specs.declared.edge.Edge.{Edge}
use Rattle.ports.specs.Bytes.{bytes_at}
use Rattle.partitioner.specs.declared.split.Split.{Split}
use Rattle.chunk_model.specs.Chunks.{Chunk}
use Rattle.chunk_model.specs.Layout.{Layout, edge_layout, edge_width}
use Rattle.chunk_model.specs.ChunkBytes.{chunk_bytes, chunk_width, bytes_of_chunks, starts_of}
use Rattle.chunk_model.proofs.LayoutLaws.{edge_layout_is}
use Rattle.chunk_model.proofs.OnDevice.{length-chunk_bytes, stands_within}
use Rattle.chunk_model.proofs.ManyChunks.{bytes_of_chunks-more, starts_of-here, starts_of-other}
use Rattle.chunk_file.specs.declared.index.Place.{Place}
use Rattle.chunk_file.specs.declared.index.TheConstants.{MOST_PLACES}
use Rattle.chunk_file.specs.Chunks.{ReadsChunk, NoChunkIn, AreChunkIn}
use Rattle.chunk_file.specs.Places.{no_places, places_of, with_place, total_of, on_graph}
use Rattle.chunk_file.specs.Scans.{IsEdgeChunk, NoEdgeChunk, IsNext, Scanned, StopsAt}
use Rattle.chunk_file.proofs.Lists.{total-more}
use Rattle.chunk_file.proofs.Heads.{head_tells, chunk_at_device, no_chunk_at_device}

-- No chunk where the device ends within the head.
pub short_of_head : (format : ℕ) (split : Split) (most at room size : ℕ) (buffer told : List ℕ) →
    size ≡ length told → room ≡ min (length buffer) (size - at) → 8 ≤ length buffer → room < 8 → NoEdgeChunk format split most at told
short_of_head format split most at room size buffer told sized is_room long short p below records is =
    let wide = length-chunk_bytes (edge_layout format) (edge_layout_is format) p records in
    let within = stands_within at (chunk_bytes (edge_layout format) p records) told is.stands (omega (arith, wide)) in
    absurd (omega (arith, wide, within))

-- No chunk of any partition, where there is none in the bytes that were read.
pub none_read : (format : ℕ) (split : Split) (most at room size : ℕ) (buffer told : List ℕ) →
    take room buffer ≡ bytes_at at room told → size ≡ length told → room ≡ min (length buffer) (size - at) →
    chunk_width (edge_width format) most ≤ length buffer →
    ((p : ℕ) → p < split.parts → NoChunkIn (edge_layout format) split most p 0 (take room buffer)) → NoEdgeChunk format split most at told
none_read format split most at room size buffer told read sized is_room fits none p below =
    no_chunk_at_device (edge_layout format) (edge_layout_is format) split.vertices split.span most p at room size buffer told read sized is_room fits (none p below)

-- the head names one partition
pub none_of_others : (format : ℕ) (split : Split) (most partition : ℕ) (front : List ℕ) → split.parts ≤ 64 →
    partition ≡ from_be_bytes w32 (bytes_at 0 4 front) →
    (partition < split.parts → NoChunkIn (edge_layout format) split most partition 0 front) →
    (p : ℕ) → p < split.parts → NoChunkIn (edge_layout format) split most p 0 front
none_of_others format split most partition front few told none p below records is =
    let tells = head_tells (edge_layout format) (edge_layout_is format) p front records (omega arith) is.are.counted is.stands in
    let same : p ≡ partition = sym tells.partition ∙ sym told in
    subst (λ k. k < split.parts → NoChunkIn (edge_layout format) split most k 0 front) (sym same) none below records is

-- The chunk that was read.
pub is_next : (format : ℕ) (split : Split) (most partition at room width count : ℕ) (buffer told : List ℕ) (edges : List Edge) →
    width ≡ edge_width format → length edges ≡ most → partition < split.parts → take room buffer ≡ bytes_at at room told →
    ReadsChunk (edge_layout format) split partition (take room buffer) count edges →
    IsNext format split most at told partition (8 + width * count)
is_next format split most partition at room width count buffer told edges is_width many below read reads =
    let items : List Edge = take count edges in
    let here = chunk_at_device (edge_layout format) split.vertices split.span (length edges) partition at room buffer told items read reads.chunk in
    record {
      chunk = record { partition = partition; items = items };
      is_chunk = record {
        partition = below;
        are = subst (λ m. AreChunkIn (edge_layout format) split m partition items) many here.are;
      };
      of_partition = refl;
      stands = here.stands;
      sized = sym (length-chunk_bytes (edge_layout format) (edge_layout_is format) partition items
          ∙ ap (λ k. 8 + edge_width format * k) (omega (arith, length-take count edges, reads.within))
          ∙ ap (λ w. 8 + w * count) (sym is_width));
    }

-- Places.
pub place_here : (index : List (List Place)) (engine p : ℕ) (place : Place) → 64 * engine + p < length index →
    places_of (with_place index engine p place) engine p ≡ places_of index engine p ++ place ∷ []
place_here index engine p place within =
    get_or-set_same index (64 * engine + p) (places_of index engine p ++ place ∷ []) no_places within

pub place_elsewhere : (index : List (List Place)) (engine p e q : ℕ) (place : Place) → 64 * e + q ≢ 64 * engine + p →
    places_of (with_place index engine p place) e q ≡ places_of index e q
place_elsewhere index engine p e q place other =
    get_or-set_other index (64 * engine + p) (64 * e + q) (places_of index engine p ++ place ∷ []) no_places other

-- **Nothing was found yet.**
pub scanned_none : (format : ℕ) (split : Split) (most engine : ℕ) (told : List ℕ) (index : List (List Place)) →
    Scanned format split most engine told index index (drop 65 told)
scanned_none format split most engine told index = record {
  chunks = [];
  are_chunks = All-nil (IsEdgeChunk format split most);
  stand = refl;
  added = record {
    here = λ p below. sym (append-nil (places_of index engine p));
    elsewhere = λ e p other below. refl;
  };
  counted = omega arith;
}

-- **One chunk more.**
pub scanned_more : (format : ℕ) (split : Split) (most engine at partition size : ℕ) (told : List ℕ) (old mid new : List (List Place)) →
    split.parts ≤ 64 → engine < 8 → length mid ≡ 512 → 65 ≤ at → at < length told →
    Scanned format split most engine told old mid (drop at told) → IsNext format split most at told partition size →
    new ≡ with_place mid engine partition (on_graph at) →
    Scanned format split most engine told old new (drop (at + size) told)
scanned_more format split most engine at partition size told old mid new few_parts few_engines lists from within so_far next is = record {
  chunks = so_far.chunks ++ c ∷ [];
  are_chunks = All-append (IsEdgeChunk format split most) so_far.chunks (c ∷ []) so_far.are_chunks
      (All-cons (IsEdgeChunk format split most) c [] next.is_chunk (All-nil (IsEdgeChunk format split most)));
  stand =
      so_far.stand
      ∙ ap (λ xs. bytes_of_chunks layout so_far.chunks ++ xs) here_and_behind
      ∙ sym (append_assoc (bytes_of_chunks layout so_far.chunks) text (drop (at + size) told))
      ∙ ap (λ xs. xs ++ drop (at + size) told) (sym (bytes_of_chunks-more layout so_far.chunks c));
  added = record { here = here; elsewhere = elsewhere };
  counted =
      omega (arith, so_far.counted, ap total_of is, total-more mid (64 * engine + partition) (on_graph at) in_index, length-append so_far.chunks (c ∷ []));
}
  where
    layout : Layout Edge
    layout = edge_layout format

    c : Chunk Edge
    c = next.chunk

    text : List ℕ
    text = chunk_bytes layout c.partition c.items

    here_and_behind : drop at told ≡ text ++ drop (at + size) told
    here_and_behind =
        next.stands.1
        ∙ ap (λ xs. text ++ xs)
        (sym (sym (drop-drop size at told) ∙ ap (drop size) next.stands.1 ∙ drop_at text next.stands.0 size (sym next.sized)))

    place : at ≡ 65 + length (bytes_of_chunks layout so_far.chunks)
    place =
        omega (arith, ap length so_far.stand, length-append (bytes_of_chunks layout so_far.chunks) (drop at told), length-drop 65 told, length-drop at told)

    in_index : 64 * engine + partition < length mid
    in_index = omega (arith, lists, next.is_chunk.partition, next.of_partition)

    here : (p : ℕ) → p < 64 → places_of new engine p ≡ places_of old engine p ++ map on_graph (starts_of layout p 65 (so_far.chunks ++ c ∷ []))
    here p below = by_place (cases_eq c.partition p)
      where
        by_place : (c.partition ≡ p) ⊎ (c.partition ≡ p → ⊥) → places_of new engine p ≡ places_of old engine p ++ map on_graph (starts_of layout p 65 (so_far.chunks ++ c ∷ []))
        by_place (inl same) =
            let of : partition ≡ p = sym next.of_partition ∙ same in
            ap (λ index. places_of index engine p) (is ∙ ap (λ k. with_place mid engine k (on_graph at)) of)
            ∙ place_here mid engine p (on_graph at) (omega (arith, in_index, of))
            ∙ ap (λ xs. xs ++ on_graph at ∷ []) (so_far.added.here p below)
            ∙ append_assoc (places_of old engine p) (map on_graph (starts_of layout p 65 so_far.chunks)) (on_graph at ∷ [])
            ∙ ap (λ k. places_of old engine p ++ (map on_graph (starts_of layout p 65 so_far.chunks) ++ on_graph k ∷ [])) place
            ∙ ap (λ xs. places_of old engine p ++ xs)
            (sym (ap (map on_graph) (starts_of-here layout p 65 so_far.chunks c same)
            ∙ map-append on_graph (starts_of layout p 65 so_far.chunks) ((65 + length (bytes_of_chunks layout so_far.chunks)) ∷ [])))
        by_place (inr other) =
            ap (λ index. places_of index engine p) is
            ∙ place_elsewhere mid engine partition engine p (on_graph at) (λ e. other (next.of_partition ∙ omega (arith, e)))
            ∙ so_far.added.here p below
            ∙ ap (λ xs. places_of old engine p ++ map on_graph xs) (sym (starts_of-other layout p 65 so_far.chunks c other))

    elsewhere : (e p : ℕ) → e ≢ engine → p < 64 → places_of new e p ≡ places_of old e p
    elsewhere e p other below =
        ap (λ index. places_of index e p) is
        ∙ place_elsewhere mid engine partition e p (on_graph at) (λ same. other (omega (arith, same, next.is_chunk.partition, next.of_partition)))
        ∙ so_far.added.elsewhere e p other below

-- **No chunk at this byte, or no room for its place.**
pub stops_at : (format : ℕ) (split : Split) (most engine at size : ℕ) (told : List ℕ) (old new : List (List Place)) →
    Scanned format split most engine told old new (drop at told) → size ≡ length told → at < size →
    NoEdgeChunk format split most at told ⊎ (total_of new ≡ MOST_PLACES) → StopsAt format split most engine old new at told
stops_at format split most engine at size told old new scanned sized within stopped =
    record { within = omega arith; scanned = scanned; stopped = stopped }
