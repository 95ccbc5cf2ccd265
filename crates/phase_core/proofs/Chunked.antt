-- The chunks of a cursor among all chunks.
use Rattle.std.proofs.Common.{◌≡◌, ℕ, zero, suc, ◌+◌, ◌<◌, ◌≤◌, ◌==◌, if◌then◌else◌, Bool, true, false, List, [], ◌∷◌, ◌++◌, length, get_or, map, filter, take, drop, refl, sym, ◌∙◌, ap, subst, add-zero, arith, length-append}
use Rattle.std.proofs.lemmas.List.{map-append, length-map, get_or_default, get_or-append-add}
use Rattle.std.specs.List.{All}
use Rattle.std.proofs.lemmas.List.Elements.{filter-append, All-append, All-cons, All-nil}
use Rattle.chunk_object.specs.Epochs.{cursor_of}
use Rattle.chunk_model.specs.Chunks.{Chunk}
use Rattle.graph_model.specs.declared.value.Update.{Update}
use Rattle.phase_core.specs.declared.chunk.PutChunk.{PutChunk}
use Rattle.phase_core.specs.View.{IsNumbered, placed_of, shelf_of}
use Rattle.phase_model.specs.Shelves.{Shelf, at_cursor, lens_of, records_at, no_chunk}

-- the chunks of a cursor, in two parts
pub at_cursor-append : {X : Type 0} (xs ys : Shelf X) (cursor : ℕ) → at_cursor (xs ++ ys) cursor ≡ at_cursor xs cursor ++ at_cursor ys cursor
at_cursor-append {X} xs ys cursor =
    ap (map (λ (c : ℕ × Chunk X). c.1)) (filter-append (λ (c : ℕ × Chunk X). cursor_of c.0 c.1.partition == cursor) xs ys)
    ∙ map-append (λ (c : ℕ × Chunk X). c.1) (filter (λ (c : ℕ × Chunk X). cursor_of c.0 c.1.partition == cursor) xs) (filter (λ (c : ℕ × Chunk X). cursor_of c.0 c.1.partition == cursor) ys)

pub lens-append : {X : Type 0} (xs ys : Shelf X) (cursor : ℕ) → lens_of (xs ++ ys) cursor ≡ lens_of xs cursor + lens_of ys cursor
lens-append xs ys cursor = ap length (at_cursor-append xs ys cursor) ∙ length-append (at_cursor xs cursor) (at_cursor ys cursor)

pub at_cursor-own : {X : Type 0} (c : ℕ × Chunk X) (cursor : ℕ) → cursor_of c.0 c.1.partition == cursor ≡ true → at_cursor (c ∷ []) cursor ≡ c.1 ∷ []
at_cursor-own c cursor test = rw test refl

pub at_cursor-other : {X : Type 0} (c : ℕ × Chunk X) (cursor : ℕ) → cursor_of c.0 c.1.partition == cursor ≡ false → at_cursor (c ∷ []) cursor ≡ []
at_cursor-other c cursor test = rw test refl

-- a chunk of the cursor behind others has their number there
pub records_behind : {X : Type 0} (xs : Shelf X) (c : ℕ × Chunk X) (ys : Shelf X) (cursor : ℕ) → cursor_of c.0 c.1.partition == cursor ≡ true →
    (lens_of xs cursor < lens_of (xs ++ c ∷ ys) cursor) × (records_at (xs ++ c ∷ ys) cursor (lens_of xs cursor) ≡ c.1.items)
records_behind {X} xs c ys cursor test =
    let front : List (Chunk X) = at_cursor xs cursor in
    let own : at_cursor (c ∷ ys) cursor ≡ c.1 ∷ at_cursor ys cursor = rw test refl in
    let all : at_cursor (xs ++ c ∷ ys) cursor ≡ front ++ c.1 ∷ at_cursor ys cursor = at_cursor-append xs (c ∷ ys) cursor ∙ ap (λ back. front ++ back) own in
    let long : length (front ++ c.1 ∷ at_cursor ys cursor) ≡ length front + suc (length (at_cursor ys cursor)) = length-append front (c.1 ∷ at_cursor ys cursor) in
    let here : get_or (front ++ c.1 ∷ at_cursor ys cursor) (length front) no_chunk ≡ c.1 =
    subst (λ k. get_or (front ++ c.1 ∷ at_cursor ys cursor) k no_chunk ≡ c.1) (add-zero (length front)) (get_or-append-add front (c.1 ∷ at_cursor ys cursor) 0 no_chunk) in
    (subst (λ made. length front < length made) (sym all) (omega (arith, long)), ap (λ (made : List (Chunk X)). (get_or made (length front) no_chunk).items) all ∙ ap (λ (c : Chunk X). c.items) here)

cut_at : {X : Type 0} (xs : List X) (i : ℕ) (d : X) → i < length xs → take i xs ++ get_or xs i d ∷ drop (suc i) xs ≡ xs
cut_at [] i d below = absurd (omega arith)
cut_at (x ∷ xs) zero d below = refl
cut_at (x ∷ xs) (suc i) d below = ap (λ rest. x ∷ rest) (cut_at xs i d (omega arith))

-- a chunk of the cursor among those put has the number of those before it
pub numbered : (chunks : List PutChunk) (cursor index : ℕ) (d : PutChunk) → index < length chunks →
    cursor_of (get_or chunks index d).engine (get_or chunks index d).partition == cursor ≡ true →
    IsNumbered chunks cursor (lens_of (shelf_of (take index chunks)) cursor) index
numbered chunks cursor index d below test =
    let c : PutChunk = get_or chunks index d in
    let cut : take index chunks ++ c ∷ drop (suc index) chunks ≡ chunks = cut_at chunks index d below in
    let shelf : shelf_of chunks ≡ shelf_of (take index chunks) ++ placed_of c ∷ shelf_of (drop (suc index) chunks) =
    ap shelf_of (sym cut) ∙ map-append placed_of (take index chunks) (c ∷ drop (suc index) chunks) in
    let behind = records_behind (shelf_of (take index chunks)) (placed_of c) (shelf_of (drop (suc index) chunks)) cursor test in
    record {
      below = below;
      counted = subst (λ made. lens_of (shelf_of (take index chunks)) cursor < lens_of made cursor) (sym shelf) behind.0;
      records = λ default.
          ap (λ made. records_at made cursor (lens_of (shelf_of (take index chunks)) cursor)) shelf
          ∙ behind.1
          ∙ ap (λ (c : PutChunk). c.updates.items) (get_or_default chunks index d default below);
    }

-- no cursor has more chunks than there are
kept_few : {X : Type 0} (test : X → Bool) (xs : List X) → length (filter test xs) ≤ length xs
kept_few test [] = omega arith
kept_few test (x ∷ xs) = by_test (test x) (kept_few test xs)
  where
    by_test : (kept : Bool) → length (filter test xs) ≤ length xs → length (if kept then x ∷ filter test xs else filter test xs) ≤ suc (length xs)
    by_test true few = omega arith
    by_test false few = omega arith

pub lens_few : (chunks : List PutChunk) (cursor : ℕ) → lens_of (shelf_of chunks) cursor ≤ length chunks
lens_few chunks cursor =
    let mine : List (ℕ × Chunk Update) = filter (λ (c : ℕ × Chunk Update). cursor_of c.0 c.1.partition == cursor) (shelf_of chunks) in
    let few = kept_few (λ (c : ℕ × Chunk Update). cursor_of c.0 c.1.partition == cursor) (shelf_of chunks) in
    omega (arith, few, length-map mine (λ (c : ℕ × Chunk Update). c.1), length-map chunks placed_of)

-- a chunk more, if it was added, of which each update goes to a vertex
pub within_pushed : (n : ℕ) (old new : List PutChunk) (c : PutChunk) (added : Bool) → new ≡ (if added then old ++ c ∷ [] else old) →
    All (λ (c : PutChunk). All (λ (u : Update). u.dst < n) c.updates.items) old → All (λ (u : Update). u.dst < n) c.updates.items →
    All (λ (c : PutChunk). All (λ (u : Update). u.dst < n) c.updates.items) new
within_pushed n old new c true is all own =
    let below : PutChunk → Type 0 = λ (c : PutChunk). All (λ (u : Update). u.dst < n) c.updates.items in
    subst (All below) (sym is) (All-append below old (c ∷ []) all (All-cons below c [] own (All-nil below)))
within_pushed n old new c false is all own = subst (All (λ (c : PutChunk). All (λ (u : Update). u.dst < n) c.updates.items)) (sym is) all
