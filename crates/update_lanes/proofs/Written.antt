-- One chunk more on the lanes.
use Rattle.std.proofs.Common.{◌≡◌, ◌≢◌, ℕ, ◌+◌, ◌==◌, ◌<◌, cond, Option, Some, None, IfSome, Result, List, [], ◌∷◌, ◌++◌, length, map, take, get_or, set, refl, sym, ◌∙◌, ap, subst, arith, zero-add, append-nil, append_assoc, length-append, length-set}
use Rattle.std.specs.List.{enumerate_from, filter}
use Rattle.std.proofs.Math.Seq.{take-append_seam}
use Rattle.std.proofs.lemmas.List.{map-append, get_or_default}
use Rattle.std.proofs.lemmas.List.Elements.{filter-append}
use Rattle.std.proofs.lemmas.List.FromFn.{length-enumerate_from}
use Rattle.std.proofs.lemmas.List.Sums.{sum_by-append}
use Rattle.std.proofs.lemmas.Bool.{eq-eqb, ne_eqb}
use Rattle.graph_model.specs.declared.value.Update.{Update}
use Rattle.graph_model.proofs.ListLemmas.{at_set, enumerate-more}
use Rattle.ports.specs.Bytes.{Torn}
use Rattle.ports.specs.Disk.{DiskState, Writes, ContinuesUnder}
use Rattle.ports.proofs.Going.{under_same}
use Rattle.ports.specs.Told.{AsTold}
use Rattle.ports.proofs.Told.{told_on}
use Rattle.ports.specs.Sink.{Appends}
use Rattle.chunk_model.specs.Chunks.{Chunk}
use Rattle.chunk_model.specs.Layout.{update_layout}
use Rattle.chunk_model.specs.ChunkBytes.{chunk_bytes, chunk_width, bytes_of_chunks}
use Rattle.chunk_model.proofs.ManyChunks.{bytes_of_chunks-more}
use Rattle.seeded_place.specs.Placing.{Placing, HasPlaced, engine_of, placed, on_engine}
use Rattle.phase_model.specs.declared.placed.Placed.{Placed}
use Rattle.phase_model.specs.Shelves.{Shelf, places_of, width_of_chunks}
use Rattle.update_lanes.specs.Lanes.{HasChunks, AreWritten, HasMade, GoOn}

-- an item beside its engine
abbrev beside : {X : Type 0} → (seed stream engines : ℕ) → ℕ × X → ℕ × X
beside seed stream engines numbered = (engine_of seed stream engines numbered.0, numbered.1)

length-map_is : {A B : Type 0} (f : A → B) (xs : List A) → length (map f xs) ≡ length xs
length-map_is f [] = refl
length-map_is f (x ∷ xs) = omega (arith, length-map_is f xs)

pub placed-more : {X : Type 0} (seed stream engines : ℕ) (xs : List X) (x : X) →
    placed seed stream engines (xs ++ x ∷ []) ≡ placed seed stream engines xs ++ (engine_of seed stream engines (length xs), x) ∷ []
placed-more {X} seed stream engines xs x =
    ap (map (beside seed stream engines)) (enumerate-more 0 xs x)
    ∙ map-append (beside seed stream engines) (enumerate_from 0 xs) ((0 + length xs, x) ∷ [])
    ∙ ap (λ k. let last : ℕ × X = (engine_of seed stream engines k, x) in map (beside seed stream engines) (enumerate_from 0 xs) ++ last ∷ []) (zero-add (length xs))

-- the chunks of the engine that the new one goes to
pub on_engine-here : {X : Type 0} (e : ℕ) (ps : List (ℕ × X)) (p : ℕ × X) → p.0 ≡ e → on_engine e (ps ++ p ∷ []) ≡ on_engine e ps ++ p.1 ∷ []
on_engine-here {X} e ps p here =
    ap (map (λ (pair : ℕ × X). pair.1)) (filter-append (λ (pair : ℕ × X). pair.0 == e) ps (p ∷ []) ∙ ap (λ b. filter (λ (pair : ℕ × X). pair.0 == e) ps ++ cond b (p ∷ []) []) (eq-eqb p.0 e here))
    ∙ map-append (λ (pair : ℕ × X). pair.1) (filter (λ (pair : ℕ × X). pair.0 == e) ps) (p ∷ [])

pub on_engine-other : {X : Type 0} (e : ℕ) (ps : List (ℕ × X)) (p : ℕ × X) → p.0 ≢ e → on_engine e (ps ++ p ∷ []) ≡ on_engine e ps
on_engine-other {X} e ps p other =
    ap (map (λ (pair : ℕ × X). pair.1)) (filter-append (λ (pair : ℕ × X). pair.0 == e) ps (p ∷ []) ∙ ap (λ b. filter (λ (pair : ℕ × X). pair.0 == e) ps ++ cond b (p ∷ []) []) (ne_eqb p.0 e other) ∙ append-nil _)

-- Places.
abbrev place_in : {X : Type 0} → ℕ → (ℕ → ℕ) → Shelf X → ℕ × (ℕ × Chunk X) → Placed
place_in {X} width ends whole numbered = record { engine = numbered.1.0; partition = numbered.1.1.partition; at = ends numbered.1.0 + width_of_chunks width (on_engine numbered.1.0 (take numbered.0 whole)) }

-- the place of a chunk depends on those before it alone
same_places : {X : Type 0} (width : ℕ) (ends : ℕ → ℕ) (before xs rest rest' : Shelf X) →
    map (place_in width ends (before ++ (xs ++ rest))) (enumerate_from (length before) xs) ≡ map (place_in width ends (before ++ (xs ++ rest'))) (enumerate_from (length before) xs)
same_places {X} width ends before [] rest rest' = refl
same_places {X} width ends before (x ∷ xs) rest rest' =
    let next = same_places width ends (before ++ x ∷ []) xs rest rest' in
    let long : length (before ++ x ∷ []) ≡ length before + 1 = length-append before (x ∷ []) in
    let one : (ys : Shelf X) → (before ++ x ∷ []) ++ (xs ++ ys) ≡ before ++ (x ∷ xs ++ ys) = λ ys. append_assoc before (x ∷ []) (xs ++ ys) in
    let head : (ys : Shelf X) → take (length before) (before ++ (x ∷ xs ++ ys)) ≡ before = λ ys. take-append_seam before (x ∷ xs ++ ys) in
    let at : Shelf X → Placed = λ (front : Shelf X). record { engine = x.0; partition = x.1.partition; at = ends x.0 + width_of_chunks width (on_engine x.0 front) } in
    let tail : map (place_in width ends (before ++ (x ∷ xs ++ rest))) (enumerate_from (length before + 1) xs) ≡ map (place_in width ends (before ++ (x ∷ xs ++ rest'))) (enumerate_from (length before + 1) xs) =
    subst (λ k. map (place_in width ends (before ++ (x ∷ xs ++ rest))) (enumerate_from k xs) ≡ map (place_in width ends (before ++ (x ∷ xs ++ rest'))) (enumerate_from k xs)) long
    (subst (λ a. map (place_in width ends a) (enumerate_from (length (before ++ x ∷ [])) xs) ≡ map (place_in width ends (before ++ (x ∷ xs ++ rest'))) (enumerate_from (length (before ++ x ∷ [])) xs)) (one rest)
    (subst (λ b. map (place_in width ends ((before ++ x ∷ []) ++ (xs ++ rest))) (enumerate_from (length (before ++ x ∷ [])) xs) ≡ map (place_in width ends b) (enumerate_from (length (before ++ x ∷ [])) xs)) (one rest') next)) in
    ap (λ front. at front ∷ map (place_in width ends (before ++ (x ∷ xs ++ rest))) (enumerate_from (length before + 1) xs)) (head rest ∙ sym (head rest'))
    ∙ ap (λ places. at (take (length before) (before ++ (x ∷ xs ++ rest'))) ∷ places) tail

pub places_of-more : {X : Type 0} (width : ℕ) (ends : ℕ → ℕ) (made : Shelf X) (c : ℕ × Chunk X) →
    places_of width ends (made ++ c ∷ []) ≡ places_of width ends made ++ record { engine = c.0; partition = c.1.partition; at = ends c.0 + width_of_chunks width (on_engine c.0 made) } ∷ []
places_of-more {X} width ends made c =
    let at : Shelf X → Placed = λ (front : Shelf X). record { engine = c.0; partition = c.1.partition; at = ends c.0 + width_of_chunks width (on_engine c.0 front) } in
    let none : made ++ [] ≡ made = append-nil made in
    let same : map (place_in width ends (made ++ c ∷ [])) (enumerate_from 0 made) ≡ map (place_in width ends (made ++ [])) (enumerate_from 0 made) = same_places width ends [] made (c ∷ []) [] in
    ap (map (place_in width ends (made ++ c ∷ []))) (enumerate-more 0 made c ∙ ap (λ k. enumerate_from 0 made ++ (k, c) ∷ []) (zero-add (length made)))
    ∙ map-append (place_in width ends (made ++ c ∷ [])) (enumerate_from 0 made) ((length made, c) ∷ [])
    ∙ ap (λ front. map (place_in width ends (made ++ c ∷ [])) (enumerate_from 0 made) ++ at front ∷ []) (take-append_seam made (c ∷ []))
    ∙ ap (λ places. places ++ at made ∷ []) (same ∙ ap (λ whole. map (place_in width ends whole) (enumerate_from 0 made)) none)

pub length-places_of : {X : Type 0} (width : ℕ) (ends : ℕ → ℕ) (made : Shelf X) → length (places_of width ends made) ≡ length made
length-places_of {X} width ends made = length-map_is (place_in width ends made) (enumerate_from 0 made) ∙ length-enumerate_from 0 made

pub length-placed : {X : Type 0} (seed stream engines : ℕ) (xs : List X) → length (placed seed stream engines xs) ≡ length xs
length-placed {X} seed stream engines xs = length-map_is (beside seed stream engines) (enumerate_from 0 xs) ∙ length-enumerate_from 0 xs

-- A lane with one chunk more.
told_more : (made : List (Chunk Update)) (c : Chunk Update) (old new : Option (List ℕ)) → IfSome old (λ told. told ≡ bytes_of_chunks update_layout made)
    → AsTold (Appends (chunk_bytes update_layout c.partition c.items)) old new → IfSome new (λ told. told ≡ bytes_of_chunks update_layout (made ++ c ∷ []))
told_more made c (Some old) (Some new) is appended = appended ∙ ap (λ bytes. bytes ++ chunk_bytes update_layout c.partition c.items) is ∙ sym (bytes_of_chunks-more update_layout made c)
told_more made c None None is appended = tt
told_more made c (Some old) None is appended = absurd appended
told_more made c None (Some new) is appended = absurd appended

lane_more : (made : List (Chunk Update)) (c : Chunk Update) (old new : DiskState) → HasChunks made old → new.size ≡ old.size + chunk_width 12 (length c.items)
    → AsTold (Appends (chunk_bytes update_layout c.partition c.items)) old.bytes new.bytes → HasChunks (made ++ c ∷ []) new
lane_more made c old new has grown appended = record {
  size_is = let more = sum_by-append (λ (d : Chunk Update). chunk_width 12 (length d.items)) made (c ∷ []) in omega (arith, more, grown, has.size_is);
  bytes_are = told_more made c old.bytes new.bytes has.bytes_are appended;
}

-- lanes of which one was written to go on
pub lane_goes_on : {X T E : Type 0} (state : X → DiskState) (number at : ℕ) (piece : List ℕ) (lanes : List X) (e : ℕ) (old new : X) {result : Result T E} → e < length lanes → get_or lanes e new ≡ old → Writes number at piece (state old) (state new) result → GoOn state number lanes (set lanes e new)
lane_goes_on {X} state number at piece lanes e old new within lane writes =
    let was : (d : X) → get_or lanes e d ≡ old = λ d. get_or_default lanes e d new within ∙ lane in
    record {
      many = length-set lanes e new;
      each = λ k d below. at_set (λ j x. ContinuesUnder number (state (get_or lanes j d)) (state x)) lanes e k new d within
          (λ same. subst (λ (x : X). ContinuesUnder number (state x) (state new)) (sym (was d)) (record {
            beat = λ early. omega (arith, writes.changes.beat);
            faults = writes.cause.later;
            told = told_on (Torn at (length piece)) (state old).bytes (state new).bytes writes.changes.bytes;
          }))
          (λ other. under_same number (state (get_or lanes k d)));
    }

-- **One chunk more was written.**
pub made_more : {X : Type 0} (state : X → DiskState) (seed stream engines : ℕ) (placer after : Placing) (lanes : List X) (places noted : List Placed) (made : List (Chunk Update)) (c : Chunk Update) (e at : ℕ) (new : X)
    → HasMade state seed stream engines placer lanes places made
    → e ≡ engine_of seed stream engines (length made) → HasPlaced seed stream engines (length made + 1) after
    → e < length lanes → at ≡ (state (get_or lanes e new)).size
    → (state new).size ≡ (state (get_or lanes e new)).size + chunk_width 12 (length c.items)
    → AsTold (Appends (chunk_bytes update_layout c.partition c.items)) (state (get_or lanes e new)).bytes (state new).bytes
    → noted ≡ places ++ record { engine = e; partition = c.partition; at = at } ∷ []
    → HasMade state seed stream engines after (set lanes e new) noted (made ++ c ∷ [])
made_more {X} state seed stream engines placer after lanes places noted made c e at new has engine_is has_placed within at_is grown appended noted_is = record {
  placer_has = subst (λ k. HasPlaced seed stream engines k after) (sym (length-append made (c ∷ []))) has_placed;
  written = subst (λ shelf. AreWritten state (set lanes e new) noted shelf) (sym whole) written;
}
  where
    before : Shelf Update
    before = placed seed stream engines made

    whole : placed seed stream engines (made ++ c ∷ []) ≡ before ++ (e, c) ∷ []
    whole = placed-more seed stream engines made c ∙ ap (λ k. let last : ℕ × Chunk Update = (k, c) in before ++ last ∷ []) (sym engine_is)

    lane : HasChunks (on_engine e before) (state (get_or lanes e new))
    lane = has.written.lanes_are e new within

    place : at ≡ 0 + width_of_chunks 12 (on_engine e before)
    place = at_is ∙ lane.size_is ∙ sym (zero-add (width_of_chunks 12 (on_engine e before)))

    written : AreWritten state (set lanes e new) noted (before ++ (e, c) ∷ [])
    written = record {
      places_are = noted_is ∙ ap (λ ps. ps ++ record { engine = e; partition = c.partition; at = at } ∷ []) has.written.places_are
          ∙ ap (λ k. places_of 12 (λ engine. 0) before ++ record { engine = e; partition = c.partition; at = k } ∷ []) place
          ∙ sym (places_of-more 12 (λ engine. 0) before (e, c));
      lanes_are = λ k d below.
          let within_old : k < length lanes = omega (arith, length-set lanes e new, below) in
          at_set (λ j x. HasChunks (on_engine j (before ++ (e, c) ∷ [])) (state x)) lanes e k new d within
          (λ same. subst (λ chunks. HasChunks chunks (state new)) (sym (on_engine-here e before (e, c) refl)) (lane_more (on_engine e before) c (state (get_or lanes e new)) (state new) lane grown appended))
          (λ other. subst (λ chunks. HasChunks chunks (state (get_or lanes k d))) (sym (on_engine-other k before (e, c) (λ is. other (sym is)))) (has.written.lanes_are k d within_old));
    }
