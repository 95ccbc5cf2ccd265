-- Shelves: chunks that were placed, and what an epoch took of them.
use Rattle.std.proofs.Common.{◌≡◌, ◌≢◌, ℕ, ◌+◌, ◌/◌, ◌%◌, ◌<◌, ◌≤◌, ◌&&◌, nat_lt, if◌then◌else◌, Bool, true, false, List, [], ◌∷◌, ◌++◌, get_or, map, flat_map, refl, sym, ◌∙◌, ap, subst, arith}
use Rattle.std.specs.List.{All, count_by, fold, enumerate_from}
use Rattle.std.proofs.lemmas.Bool.{and_from, lt-ltb, ne_eqb}
use Rattle.std.proofs.lemmas.List.Elements.{All-head, All-tail, All-cons, All-nil, All-map}
use Rattle.std.proofs.lemmas.List.Folds.{flat_map-map}
use Rattle.std.proofs.lemmas.Grind.{flat_map-append}
use Rattle.gather_laws.specs.Laws.{MergeLaws}
use Rattle.gather_laws.proofs.MergeLemmas.{merged-cons, merged-append, merged_is_sum}
use Rattle.chunk_object.specs.declared.call.Call.{Call}
use Rattle.chunk_object.specs.History.{one_below}
use Rattle.chunk_object.specs.Epochs.{Terms, Epoch, all_calls, TakesEachOnce}
use Rattle.chunk_object.proofs.Dutiful.{cursor_parts}
use Rattle.chunk_model.specs.Chunks.{Chunk}
use Rattle.seeded_place.specs.Placing.{placed, engine_of}
use Rattle.seeded_place.proofs.Engines.{engine_below}
use Rattle.phase_model.specs.Shelves.{Shelf, lens_of, records_at}
use Rattle.phase_model.specs.Taken.{taken, records_taken}
use Rattle.phase_model.proofs.Lists.{records_taken-append}
use Rattle.phase_core.proofs.Shelved.{is_chunk, cursor_at, lens_other, records_all, all_taken, IsMerged, shelf_merged}
use Rattle.phase_core.proofs.Drained.{count_taken}
use Rattle.epoch_laws.specs.Phases.{Opens}
use Rattle.epoch_laws.proofs.Grouped.{flat_map-flat_map, flat_all}

-- placing changes no chunk
numbered_items : {Y : Type 0} (from : ℕ) (ys : List Y) → map (λ (numbered : ℕ × Y). numbered.1) (enumerate_from from ys) ≡ ys
numbered_items from [] = refl
numbered_items from (y ∷ ys) = ap (λ rest. y ∷ rest) (numbered_items (from + 1) ys)

pub over_placed : {Y Z : Type 0} (k : Y → List Z) (seed stream engines : ℕ) (ys : List Y) → flat_map (λ (c : ℕ × Y). k c.1) (placed seed stream engines ys) ≡ flat_map k ys
over_placed {Y} k seed stream engines ys =
    flat_map-map (λ (c : ℕ × Y). k c.1) (λ (numbered : ℕ × Y). (engine_of seed stream engines numbered.0, numbered.1)) (enumerate_from 0 ys)
    ∙ sym (flat_map-map k (λ (numbered : ℕ × Y). numbered.1) (enumerate_from 0 ys))
    ∙ ap (flat_map k) (numbered_items 0 ys)

pub placed_below : {Y : Type 0} (seed stream engines : ℕ) (ys : List Y) → 1 ≤ engines → All (λ (c : ℕ × Y). c.0 < engines) (placed seed stream engines ys)
placed_below {Y} seed stream engines ys some =
    All-map (λ (c : ℕ × Y). c.0 < engines) (λ (numbered : ℕ × Y). (engine_of seed stream engines numbered.0, numbered.1)) (enumerate_from 0 ys)
    (λ k d below. engine_below seed stream engines (get_or (enumerate_from 0 ys) k d).0 some)

-- and keeps what holds of it
numbered_all : {Y : Type 0} (P : Y → Type 0) (from : ℕ) (ys : List Y) → All P ys → All (λ (c : ℕ × Y). P c.1) (enumerate_from from ys)
numbered_all {Y} P from [] all = All-nil (λ (c : ℕ × Y). P c.1)
numbered_all {Y} P from (y ∷ ys) all = All-cons (λ (c : ℕ × Y). P c.1) (from, y) (enumerate_from (from + 1) ys) (All-head P y ys all) (numbered_all P (from + 1) ys (All-tail P y ys all))

pub placed_all : {Y : Type 0} (P : Y → Type 0) (seed stream engines : ℕ) (ys : List Y) → All P ys → All (λ (c : ℕ × Y). P c.1) (placed seed stream engines ys)
placed_all {Y} P seed stream engines ys all =
    All-map (λ (c : ℕ × Y). P c.1) (λ (numbered : ℕ × Y). (engine_of seed stream engines numbered.0, numbered.1)) (enumerate_from 0 ys) (numbered_all P 0 ys all)

-- each chunk stands at a cursor of so many engines and partitions
abbrev pub StandsBelow : {X : Type 0} → (engines parts : ℕ) → ℕ × Chunk X → Type 0
StandsBelow engines parts c = (c.0 < engines) × (c.1.partition < parts)

-- elsewhere there is none
pub none_outside : {X : Type 0} (engines parts : ℕ) (made : Shelf X) → parts ≤ 64 → All (StandsBelow engines parts) made → (cursor : ℕ) → (nat_lt (cursor / 64) engines && nat_lt (cursor % 64) parts) ≡ false → lens_of made cursor ≡ 0
none_outside engines parts [] few all cursor out = refl
none_outside engines parts (c ∷ made) few all cursor out =
    let here = All-head (StandsBelow engines parts) c made all in
    let apart : cursor_at c ≢ cursor = λ equal.
    let at = cursor_parts c.0 c.1.partition (omega (arith, here.1, few)) in
    let engine : cursor / 64 ≡ c.0 = subst (λ k. k / 64 ≡ c.0) equal at.0 in
    let partition : cursor % 64 ≡ c.1.partition = subst (λ k. k % 64 ≡ c.1.partition) equal at.1 in
    let first : nat_lt (cursor / 64) engines ≡ true = lt-ltb (cursor / 64) engines (omega (arith, engine, here.0)) in
    let second : nat_lt (cursor % 64) parts ≡ true = lt-ltb (cursor % 64) parts (omega (arith, partition, here.1)) in
    let inside : (nat_lt (cursor / 64) engines && nat_lt (cursor % 64) parts) ≡ true = and_from (nat_lt (cursor / 64) engines) (nat_lt (cursor % 64) parts) first second in
    grind (arith, inside, out) in
    lens_other c made cursor (ne_eqb (cursor_at c) cursor apart) ∙ none_outside engines parts made few (All-tail (StandsBelow engines parts) c made all) cursor out

-- what all workers took, list by list
pub over_lists : {X : Type 0} (h : X → List ℕ) (records : ℕ → ℕ → List X) (lists : List (List Call)) →
    flat_map h (records_taken records (flat_map (λ calls. calls) lists)) ≡ flat_map (λ calls. flat_map h (records_taken records calls)) lists
over_lists h records [] = refl
over_lists h records (calls ∷ lists) =
    ap (flat_map h) (records_taken-append records calls (flat_map (λ calls. calls) lists))
    ∙ flat_map-append h (records_taken records calls) (records_taken records (flat_map (λ calls. calls) lists))
    ∙ ap (λ back. flat_map h (records_taken records calls) ++ back) (over_lists h records lists)

module _ (unit : ℕ) (merge : ℕ → ℕ → ℕ) (IsSum : ℕ → Type 0) (laws : MergeLaws unit merge IsSum) where
  -- the merge of the merges of each
  pub each_merged : {Y : Type 0} (f : Y → List ℕ) → ((y : Y) → All IsSum (f y)) → (ys : List Y) → fold merge unit (map (λ y. fold merge unit (f y)) ys) ≡ fold merge unit (flat_map f ys)
  each_merged f sums [] = refl
  each_merged f sums (y ∷ ys) =
      merged-cons unit merge IsSum laws (fold merge unit (f y)) (map (λ y. fold merge unit (f y)) ys)
      (All-map IsSum (λ y. fold merge unit (f y)) (y ∷ ys) (λ k d below. merged_is_sum unit merge IsSum laws (f (get_or (y ∷ ys) k d)) (sums (get_or (y ∷ ys) k d))))
      ∙ ap (merge (fold merge unit (f y))) (each_merged f sums ys)
      ∙ sym (merged-append unit merge IsSum laws (f y) (flat_map f ys) (sums y) (all_taken unit merge IsSum laws f sums ys))

  -- what each chunk of a shelf gives is sums
  abbrev pub GivesSums : {X : Type 0} → (X → List ℕ) → ℕ × Chunk X → Type 0
  GivesSums {X} h c = All (λ x. All IsSum (h x)) c.1.items

  module _ {X : Type 0} (h : X → List ℕ) (made : Shelf X) (terms : Terms) (epoch : Epoch) (few : terms.partitions ≤ 64) (stands : All (StandsBelow terms.engines terms.partitions) made)
      (sums : All (GivesSums h) made) (opens : Opens made epoch) (once : TakesEachOnce terms epoch) where
    opened : (cursor : ℕ) (there : Bool) → (nat_lt (cursor / 64) terms.engines && nat_lt (cursor % 64) terms.partitions) ≡ there → (if there then epoch.lens cursor else 0) ≡ lens_of made cursor
    opened cursor true is = opens cursor
    opened cursor false is = sym (none_outside terms.engines terms.partitions made few stands cursor is)

    each_once : (cursor place : ℕ) → true ≡ true → count_by (is_chunk cursor place) (taken (all_calls epoch)) ≡ one_below (lens_of made cursor) place
    each_once cursor place mine =
        count_taken cursor place (all_calls epoch) ∙ once cursor place
        ∙ ap (λ n. one_below n place) (opened cursor (nat_lt (cursor / 64) terms.engines && nat_lt (cursor % 64) terms.partitions) refl)

    chunk_sums : All (IsMerged unit merge IsSum laws (flat_map h) (λ cursor. true) refl) made
    chunk_sums = λ k d below. record {
      sums = flat_all IsSum h (get_or made k d).1.items (sums k d below);
      others = λ never. absurd (grind (arith, never));
    }

    -- **Where each chunk was taken once, the merge over what all workers took is the merge over all chunks.**
    pub epoch_merged : fold merge unit (flat_map h (records_taken (records_at made) (all_calls epoch))) ≡ fold merge unit (flat_map (λ (c : ℕ × Chunk X). flat_map h c.1.items) made)
    epoch_merged =
        ap (fold merge unit) (flat_map-flat_map h (λ (chunk : ℕ × ℕ). records_at made chunk.0 chunk.1) (taken (all_calls epoch)))
        ∙ shelf_merged unit merge IsSum laws (flat_map h) (λ cursor. true) refl made (taken (all_calls epoch)) chunk_sums each_once

    -- what one worker took gives sums
    pub list_sums : (calls : List Call) → All IsSum (flat_map h (records_taken (records_at made) calls))
    list_sums calls =
        subst (All IsSum) (sym (flat_map-flat_map h (λ (chunk : ℕ × ℕ). records_at made chunk.0 chunk.1) (taken calls)))
        (all_taken unit merge IsSum laws (λ (chunk : ℕ × ℕ). flat_map h (records_at made chunk.0 chunk.1))
        (λ chunk. flat_all IsSum h (records_at made chunk.0 chunk.1) (records_all (λ cursor records. All (λ x. All IsSum (h x)) records) made sums chunk.0 chunk.1 (All-nil (λ x. All IsSum (h x))))) (taken calls))

    -- **And so is the merge of what each worker merged.**
    pub workers_merged : fold merge unit (map (λ calls. fold merge unit (flat_map h (records_taken (records_at made) calls))) epoch.lists) ≡ fold merge unit (flat_map (λ (c : ℕ × Chunk X). flat_map h c.1.items) made)
    workers_merged =
        each_merged (λ calls. flat_map h (records_taken (records_at made) calls)) list_sums epoch.lists
        ∙ ap (fold merge unit) (sym (over_lists h (records_at made) epoch.lists))
        ∙ epoch_merged
