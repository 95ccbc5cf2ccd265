-- The chunks of a cursor are those of its partition, among those of its engine.
use Rattle.std.proofs.Common.{◌≡◌, ℕ, ◌+◌, ◌*◌, ◌<◌, ◌==◌, Bool, true, false, [], ◌∷◌, refl, ap, arith, eq-eqb}
use Rattle.std.specs.List.{All}
use Rattle.std.proofs.lemmas.Bool.{eqb-true, eqb-false, ne_eqb}
use Rattle.std.proofs.lemmas.List.Elements.{All-head, All-tail}
use Rattle.chunk_object.specs.Epochs.{cursor_of}
use Rattle.chunk_model.specs.Chunks.{Chunk, chunks_of_partition}
use Rattle.seeded_place.specs.Placing.{on_engine}
use Rattle.phase_model.specs.Shelves.{Shelf, at_cursor}

-- there is room for the partition of a chunk among the cursors of an engine
abbrev pub IsNarrow : {X : Type 0} → ℕ × Chunk X → Type 0
IsNarrow c = c.1.partition < 64

-- one chunk more
more : {X : Type 0} (c : ℕ × Chunk X) (made : Shelf X) (e p : ℕ) → p < 64 → IsNarrow c → (first second : Bool) → (c.0 == e) ≡ first → (c.1.partition == p) ≡ second →
    at_cursor made (cursor_of e p) ≡ chunks_of_partition p (on_engine e made) → at_cursor (c ∷ made) (cursor_of e p) ≡ chunks_of_partition p (on_engine e (c ∷ made))
more c made e p small narrow true true is is' same =
    let engine = eqb-true c.0 e is in
    let partition = eqb-true c.1.partition p is' in
    let test : (cursor_of c.0 c.1.partition == cursor_of e p) ≡ true = eq-eqb (64 * c.0 + c.1.partition) (64 * e + p) (omega (arith, engine, partition)) in
    rw test (rw is (rw is' (ap (λ rest. c.1 ∷ rest) same)))
more c made e p small narrow true false is is' same =
    let partition = eqb-false c.1.partition p is' in
    let test : (cursor_of c.0 c.1.partition == cursor_of e p) ≡ false = ne_eqb (64 * c.0 + c.1.partition) (64 * e + p) (λ equal. partition (let engine = eqb-true c.0 e is in omega (arith, engine, equal))) in
    rw test (rw is (rw is' same))
more c made e p small narrow false second is is' same =
    let engine = eqb-false c.0 e is in
    let test : (cursor_of c.0 c.1.partition == cursor_of e p) ≡ false = ne_eqb (64 * c.0 + c.1.partition) (64 * e + p) (λ equal. engine (omega (arith, equal, small, narrow))) in
    rw test (rw is same)

pub cursor_chunks : {X : Type 0} (made : Shelf X) (e p : ℕ) → p < 64 → All IsNarrow made → at_cursor made (cursor_of e p) ≡ chunks_of_partition p (on_engine e made)
cursor_chunks [] e p small narrow = refl
cursor_chunks {X} (c ∷ made) e p small narrow =
    more c made e p small (All-head (IsNarrow {X = X}) c made narrow) (c.0 == e) (c.1.partition == p) refl refl (cursor_chunks made e p small (All-tail (IsNarrow {X = X}) c made narrow))
