-- The chunks of a worker's lanes and their places, side by side.
use Rattle.std.proofs.Common.{◌≡◌, ℕ, suc, ◌+◌, ◌*◌, ◌<◌, ◌==◌, ◌&&◌, Bool, true, false, List, [], ◌∷◌, ◌++◌, length, map, filter, take, sum_by, refl, sym, ◌∙◌, ap, subst, arith, eq-eqb, append_assoc, zero-add, length-append}
use Rattle.std.specs.List.{All, enumerate_from}
use Rattle.std.proofs.lemmas.Bool.{and_parts, eqb-true, eqb-false, ne_eqb}
use Rattle.std.proofs.lemmas.List.{take_at, map-append, get_or_at}
use Rattle.std.proofs.lemmas.List.Elements.{filter-append}
use Rattle.std.proofs.lemmas.List.Concat.{length-flat_map}
use Rattle.std.proofs.lemmas.Grind.{flat_map-append}
use Rattle.graph_model.specs.declared.value.Update.{Update}
use Rattle.chunk_object.specs.Epochs.{cursor_of}
use Rattle.chunk_model.specs.Chunks.{Chunk}
use Rattle.chunk_model.specs.Layout.{update_layout}
use Rattle.chunk_model.specs.ChunkBytes.{StandsAt, chunk_bytes, bytes_of_chunks}
use Rattle.chunk_model.proofs.LayoutLaws.{update_layout_is}
use Rattle.chunk_model.proofs.OnDevice.{length-chunk_bytes, appended_stands}
use Rattle.seeded_place.specs.Placing.{on_engine}
use Rattle.phase_model.specs.declared.placed.Placed.{Placed}
use Rattle.phase_model.specs.Shelves.{Shelf, at_cursor, width_of_chunks, places_of}
use Rattle.chunk_file.specs.declared.index.Place.{Place}
use Rattle.scatter_epoch.specs.Joining.{places_at}
use Rattle.scatter_epoch.proofs.Pairs.{Paired, paired-if}

-- where a chunk comes to stand behind these
abbrev pub place_behind : Shelf Update → ℕ × Chunk Update → Placed
place_behind front c = record { engine = c.0; partition = c.1.partition; at = 0 + width_of_chunks 12 (on_engine c.0 front) }

abbrev pub walk : (front rest : Shelf Update) → List Placed
walk front [] = []
walk front (c ∷ rest) = place_behind front c ∷ walk (front ++ c ∷ []) rest

abbrev place_in : Shelf Update → ℕ × (ℕ × Chunk Update) → Placed
place_in whole numbered = place_behind (take numbered.0 whole) numbered.1

walk_is : (front rest : Shelf Update) → map (place_in (front ++ rest)) (enumerate_from (length front) rest) ≡ walk front rest
walk_is front [] = refl
walk_is front (c ∷ rest) =
    let head : take (length front) (front ++ c ∷ rest) ≡ front = take_at front (c ∷ rest) (length front) refl in
    let long : length (front ++ c ∷ []) ≡ length front + 1 = length-append front (c ∷ []) in
    let tail : map (place_in (front ++ c ∷ rest)) (enumerate_from (length front + 1) rest) ≡ walk (front ++ c ∷ []) rest =
    subst (λ whole. map (place_in whole) (enumerate_from (length front + 1) rest) ≡ walk (front ++ c ∷ []) rest) (append_assoc front (c ∷ []) rest)
    (subst (λ n. map (place_in ((front ++ c ∷ []) ++ rest)) (enumerate_from n rest) ≡ walk (front ++ c ∷ []) rest) long (walk_is (front ++ c ∷ []) rest)) in
    ap (λ before. place_behind before c ∷ map (place_in (front ++ c ∷ rest)) (enumerate_from (length front + 1) rest)) head
    ∙ ap (λ places. place_behind front c ∷ places) tail

pub places_walk : (made : Shelf Update) → places_of 12 (λ engine. 0) made ≡ walk [] made
places_walk made = walk_is [] made

-- a cursor is an engine and a partition
pub same_tests : (engine partition e p : ℕ) → partition < 64 → p < 64 → ((engine == e) && (partition == p)) ≡ (cursor_of engine partition == cursor_of e p)
same_tests engine partition e p small small' = by (engine == e) refl (partition == p) refl
  where
    by : (first : Bool) → (engine == e) ≡ first → (second : Bool) → (partition == p) ≡ second → (first && second) ≡ (cursor_of engine partition == cursor_of e p)
    by true is true is' = let a = eqb-true engine e is in let b = eqb-true partition p is' in sym (eq-eqb (64 * engine + partition) (64 * e + p) (omega (arith, a, b)))
    by true is false is' = let b = eqb-false partition p is' in sym (ne_eqb (64 * engine + partition) (64 * e + p) (λ same. b (let a = eqb-true engine e is in omega (arith, a, same))))
    by false is second is' = let a = eqb-false engine e is in sym (ne_eqb (64 * engine + partition) (64 * e + p) (λ same. a (omega (arith, same))))

-- what is true of each chunk, with its place, is true of those of a cursor
pub paired_walk : (R : Place → Chunk Update → Type 0) (worker e p : ℕ) → p < 64 → (front rest : Shelf Update) → All (λ (c : ℕ × Chunk Update). c.1.partition < 64) rest →
    ((before : Shelf Update) (c : ℕ × Chunk Update) (behind : Shelf Update) → before ++ c ∷ behind ≡ front ++ rest → c.0 ≡ e → c.1.partition ≡ p → R (record { lane = worker; at = 0 + width_of_chunks 12 (on_engine c.0 before) }) c.1) →
    Paired R (places_at worker e p (walk front rest)) (at_cursor rest (cursor_of e p))
paired_walk R worker e p small front [] below each = tt
paired_walk R worker e p small front (c ∷ rest) below each =
    let here : c.1.partition < 64 = below 0 c (omega arith) in
    let others : All (λ (d : ℕ × Chunk Update). d.1.partition < 64) rest = λ k d within. below (suc k) d (omega (arith, within)) in
    paired-if R (λ (q : Placed). record { lane = worker; at = q.at }) (λ (d : ℕ × Chunk Update). d.1) ((c.0 == e) && (c.1.partition == p)) (cursor_of c.0 c.1.partition == cursor_of e p) (place_behind front c) c
    (filter (λ (q : Placed). (q.engine == e) && (q.partition == p)) (walk (front ++ c ∷ []) rest)) (filter (λ (d : ℕ × Chunk Update). cursor_of d.0 d.1.partition == cursor_of e p) rest)
    (same_tests c.0 c.1.partition e p here small)
    (λ is. let parts = and_parts (c.0 == e) (c.1.partition == p) is in each front c rest refl (eqb-true c.0 e parts.0) (eqb-true c.1.partition p parts.1))
    (paired_walk R worker e p small (front ++ c ∷ []) rest others (λ before d behind whole. each before d behind (whole ∙ append_assoc front (c ∷ []) rest)))

-- Bytes.
pub on_engine-append : (e : ℕ) (xs ys : Shelf Update) → on_engine e (xs ++ ys) ≡ on_engine e xs ++ on_engine e ys
on_engine-append e xs ys =
    ap (map (λ (c : ℕ × Chunk Update). c.1)) (filter-append (λ (c : ℕ × Chunk Update). c.0 == e) xs ys)
    ∙ map-append (λ (c : ℕ × Chunk Update). c.1) (filter (λ (c : ℕ × Chunk Update). c.0 == e) xs) (filter (λ (c : ℕ × Chunk Update). c.0 == e) ys)

on_engine-cons : (e : ℕ) (c : ℕ × Chunk Update) (ys : Shelf Update) → c.0 ≡ e → on_engine e (c ∷ ys) ≡ c.1 ∷ on_engine e ys
on_engine-cons e c ys is = rw (eq-eqb c.0 e is) refl

pub length-bytes : (made : List (Chunk Update)) → length (bytes_of_chunks update_layout made) ≡ width_of_chunks 12 made
length-bytes made =
    length-flat_map (λ (c : Chunk Update). chunk_bytes update_layout c.partition c.items) made
    ∙ ap (λ (f : Chunk Update → ℕ). sum_by f made) (λ i c. length-chunk_bytes update_layout update_layout_is c.partition c.items i)

-- a chunk stands behind those before it
pub chunk_stands : (e : ℕ) (before : Shelf Update) (c : ℕ × Chunk Update) (behind : Shelf Update) → c.0 ≡ e →
    StandsAt (0 + width_of_chunks 12 (on_engine c.0 before)) (chunk_bytes update_layout c.1.partition c.1.items) (bytes_of_chunks update_layout (on_engine e (before ++ c ∷ behind)))
chunk_stands e before c behind is =
    let front : List ℕ = bytes_of_chunks update_layout (on_engine e before) in
    let text : List ℕ = chunk_bytes update_layout c.1.partition c.1.items in
    let rest : List ℕ = bytes_of_chunks update_layout (on_engine e behind) in
    let chunks : on_engine e (before ++ c ∷ behind) ≡ on_engine e before ++ c.1 ∷ on_engine e behind =
    on_engine-append e before (c ∷ behind) ∙ ap (λ cs. on_engine e before ++ cs) (on_engine-cons e c behind is) in
    let whole : bytes_of_chunks update_layout (on_engine e (before ++ c ∷ behind)) ≡ (front ++ text) ++ rest =
    ap (bytes_of_chunks update_layout) chunks
    ∙ flat_map-append (λ (d : Chunk Update). chunk_bytes update_layout d.partition d.items) (on_engine e before) (c.1 ∷ on_engine e behind)
    ∙ sym (append_assoc front text rest) in
    let at : length front ≡ 0 + width_of_chunks 12 (on_engine c.0 before) = length-bytes (on_engine e before) ∙ ap (λ k. width_of_chunks 12 (on_engine k before)) (sym is) ∙ sym (zero-add (width_of_chunks 12 (on_engine c.0 before))) in
    subst (λ bytes. StandsAt (0 + width_of_chunks 12 (on_engine c.0 before)) text bytes) (sym whole)
    (subst (λ k. StandsAt k text ((front ++ text) ++ rest)) at (appended_stands front text rest))

-- what is true of all is true of one among them
pub all_at : {A : Type 0} (P : A → Type 0) (before : List A) (x : A) (behind whole : List A) → before ++ x ∷ behind ≡ whole → All P whole → P x
all_at P before x behind whole is each =
    let here : All P (before ++ x ∷ behind) = subst (All P) (sym is) each in
    subst P (get_or_at before x behind x (length before) refl) (here (length before) x (omega (arith, length-append before (x ∷ behind))))
