-- One partition more of an engine.
use Rattle.std.proofs.Common.{◌≡◌, ℕ, ◌+◌, ◌-◌, ◌*◌, ◌^◌, ◌<◌, ◌≤◌, ◌==◌, zero, suc, cond, List, [], ◌∷◌, ◌++◌, length, take, drop, replicate, filter, Option, Some, None, IfSome, Result, Ok, Err, IfOk, inl, refl, sym, ◌∙◌, ap, subst, arith, sum_by, append_assoc, length-append, length-take-le, length-drop, eq-eqb}
use Rattle.std.proofs.lemmas.Bool.{ne_eqb}
use Rattle.std.proofs.lemmas.List.{append-nil, length-replicate, take_at, drop_at, drop-drop, take-append-drop}
use Rattle.std.proofs.lemmas.List.Elements.{filter-append, All-take, All-drop, All-replicate}
use Rattle.std.proofs.lemmas.List.FromFn.{length-range_with_len, length-map-range_with_len}
use Rattle.std.proofs.lemmas.List.Sums.{sum_by-cons}
use Rattle.std.proofs.lemmas.Grind.{flat_map-append}
use Rattle.graph_model.specs.declared.value.Value.{Value}
use Rattle.graph_model.specs.Partitions.{master_of, parts_of_master, first_vertex}
use Rattle.graph_model.specs.Programs.{Rules}
use Rattle.partitioner.specs.declared.split.Split.{Split}
use Rattle.partitioner.specs.Splits.{own_below}
use Rattle.partitioner.proofs.Owned.{own_below-master, own_below-other, own_before-fits}
use Rattle.ports.specs.Bytes.{bytes_at, after_write, Torn}
use Rattle.ports.specs.Disk.{DiskState, IsDisk, InEveryImage}
use Rattle.ports.specs.Stops.{Leaves}
use Rattle.ports.specs.Told.{AsTold}
use Rattle.ports.proofs.Parts.{bytes_at-within, bytes_at-split, bytes_at-torn, bytes_at-after_write, torn_after_write}
use Rattle.ports.proofs.Told.{as_told_same, as_told_then, as_told_to, sized_at}
use Rattle.ports.proofs.Stops.{started}
use Rattle.graph_model.specs.Rounds.{merged}
use Rattle.graph_model.proofs.RoundLemmas.{of_vertices_is}
use Rattle.graph_model.proofs.ListLemmas.{range_with_len-more}
use Rattle.replica_merge.specs.declared.replicas.Replicas.{Replicas}
use Rattle.replica_merge.specs.Merging.{MergesAll, sums_for}
use Rattle.store_model.specs.Slots.{slot_start, slot_size, slot_values, set_start, device_size, value_bytes, values_bytes, IsClosed}
use Rattle.store_model.proofs.SlotLemmas.{set_within}
use Rattle.store_reader.specs.Reading.{own_in, master_in, len_in, before_in}
use Rattle.checkpoint.specs.Applied.{sums_in, values_in, applied, changes, changed_by}
use Rattle.checkpoint.specs.SlotStates.{HasExactSize, SameOther, WhileClosing, WhileWriting}
use Rattle.checkpoint.specs.Storing.{StandBefore, EngineStandsBefore, EngineBefore, StoresPartition, StoresFront}
use Rattle.store_model.proofs.ValueBytes.{length-values_bytes}
use Rattle.checkpoint.proofs.SlotSteps.{writing_on}
use Rattle.checkpoint.proofs.ValueSteps.{length-start_each, length-next_each}

-- The partitions of a master, one more looked at.
pub parts_more : (engines p e : ℕ) → master_of engines p ≡ e → parts_of_master engines (p + 1) e ≡ parts_of_master engines p e ++ p ∷ []
parts_more engines p e mine =
    ap (filter (λ q. master_of engines q == e)) (range_with_len-more p)
    ∙ filter-append (λ q. master_of engines q == e) _ (p ∷ [])
    ∙ ap (λ b. parts_of_master engines p e ++ cond b (p ∷ []) []) (eq-eqb (master_of engines p) e mine)

pub parts_same : (engines p e : ℕ) → (master_of engines p ≡ e → ⊥) → parts_of_master engines (p + 1) e ≡ parts_of_master engines p e
parts_same engines p e other =
    ap (filter (λ q. master_of engines q == e)) (range_with_len-more p)
    ∙ filter-append (λ q. master_of engines q == e) _ (p ∷ [])
    ∙ ap (λ b. parts_of_master engines p e ++ cond b (p ∷ []) []) (ne_eqb (master_of engines p) e other)
    ∙ append-nil (parts_of_master engines p e)

-- Bytes of values.
pub values_bytes-take : (n : ℕ) (xs : List Value) → n ≤ length xs → values_bytes (take n xs) ≡ take (16 * n) (values_bytes xs)
values_bytes-take n xs within =
    let long : length (values_bytes (take n xs)) ≡ 16 * n = omega (arith, length-values_bytes (take n xs), length-take-le n xs within) in
    sym (ap (take (16 * n)) (ap values_bytes (sym (take-append-drop n xs)) ∙ flat_map-append value_bytes (take n xs) (drop n xs))
    ∙ take_at (values_bytes (take n xs)) (values_bytes (drop n xs)) (16 * n) long)

pub values_bytes-drop : (n : ℕ) (xs : List Value) → n ≤ length xs → values_bytes (drop n xs) ≡ drop (16 * n) (values_bytes xs)
values_bytes-drop n xs within =
    let long : length (values_bytes (take n xs)) ≡ 16 * n = omega (arith, length-values_bytes (take n xs), length-take-le n xs within) in
    sym (ap (drop (16 * n)) (ap values_bytes (sym (take-append-drop n xs)) ∙ flat_map-append value_bytes (take n xs) (drop n xs))
    ∙ drop_at (values_bytes (take n xs)) (values_bytes (drop n xs)) (16 * n) long)

-- the other slot's values stand where it is the same
other_values : (own slot : ℕ) (read now : List ℕ) → SameOther own slot read now → slot_values own (1 - slot) now ≡ slot_values own (1 - slot) read
other_values own slot read now same =
    let at : ℕ = slot_start own (1 - slot) in
    sym (bytes_at-within at (slot_size own) 24 (16 * own) now (omega arith))
    ∙ ap (bytes_at 24 (16 * own)) same
    ∙ bytes_at-within at (slot_size own) 24 (16 * own) read (omega arith)

-- Changes.
changes-front : (xs b : List Value) → length b ≤ length xs → changes xs b ≡ changes (take (length b) xs) b
changes-front [] [] within = refl
changes-front (x ∷ xs) [] within = refl
changes-front [] (y ∷ b) within = absurd (omega arith)
changes-front (x ∷ xs) (y ∷ b) within = omega (arith, changes-front xs b (omega arith))

pub changes-split : (xs a b : List Value) → length a + length b ≤ length xs → changes xs (a ++ b) ≡ changes xs a + changes (take (length b) (drop (length a) xs)) b
changes-split [] [] b within = omega (arith, changes-front [] b (omega arith))
changes-split (x ∷ xs) [] b within = omega (arith, changes-front (x ∷ xs) b (omega arith))
changes-split [] (y ∷ a) b within = absurd (omega arith)
changes-split (x ∷ xs) (y ∷ a) b within = omega (arith, changes-split xs a b (omega arith))

module _ (rules : Rules) (split : Split) (round : ℕ) where
  pub length-values_in : (r : ℕ) (sums : List ℕ) (p : ℕ) (before : List Value) → length sums ≡ len_in split p → length before ≡ len_in split p → length (values_in rules split r sums p before) ≡ len_in split p
  length-values_in zero sums p before many long =
      let vertices = length-range_with_len (first_vertex split.vertices split.parts p) (len_in split p) in
      length-start_each rules _ sums (vertices ∙ sym many) ∙ many
  length-values_in (suc r) sums p before many long = length-next_each rules before sums (long ∙ sym many) ∙ many

  applied-more : (sums : ℕ → List ℕ) (ps : List ℕ) (p : ℕ) (before : List Value) →
      applied rules split round sums (ps ++ p ∷ []) before
      ≡ applied rules split round sums ps before ++ values_in rules split round (sums p) p (take (len_in split p) (drop (sum_by (len_in split) ps) before))
  applied-more sums [] p before = append-nil (values_in rules split round (sums p) p (take (len_in split p) before))
  applied-more sums (q ∷ qs) p before =
      let here : List Value = values_in rules split round (sums q) q (take (len_in split q) before) in
      let behind : drop (sum_by (len_in split) qs) (drop (len_in split q) before) ≡ drop (sum_by (len_in split) (q ∷ qs)) before =
      drop-drop (sum_by (len_in split) qs) (len_in split q) before ∙ ap (λ n. drop n before) (sym (sum_by-cons (len_in split) q qs)) in
      ap (λ rest. here ++ rest) (applied-more sums qs p (drop (len_in split q) before))
      ∙ sym (append_assoc here (applied rules split round sums qs (drop (len_in split q) before)) (values_in rules split round (sums p) p (take (len_in split p) (drop (sum_by (len_in split) qs) (drop (len_in split q) before)))))
      ∙ ap (λ xs. (here ++ applied rules split round sums qs (drop (len_in split q) before)) ++ values_in rules split round (sums p) p (take (len_in split p) xs)) behind

  changed_more : (r : ℕ) (before a b : List Value) (changed more : ℕ) → length a + length b ≤ length before → changed ≡ changed_by r before a → more ≡ changed_by r (take (length b) (drop (length a) before)) b →
      changed + more ≡ changed_by r before (a ++ b)
  changed_more zero before a b changed more within first next = omega (arith, length-append a b)
  changed_more (suc r) before a b changed more within first next = omega (arith, changes-split before a b within)

  module _ (slot number : ℕ) (sums : List (List ℕ) → ℕ → List ℕ) (Told : List (List ℕ) → Type 0) (start : DiskState) where
    -- what was written so far of an engine's partitions
    pub record SoFar (engine p changed : ℕ) (now : DiskState) : Type 0 where
      pub any_moment : Leaves number start now (WhileClosing (own_in split engine) slot start)
      pub closed : InEveryImage now (IsClosed (own_in split engine) slot)
      pub exact : HasExactSize (own_in split engine) now
      pub bytes : AsTold (SameOther (own_in split engine) slot) start.bytes now.bytes
      pub stored : (devices : List (List ℕ)) (read told : List ℕ) (before : List Value) → Told devices → start.bytes ≡ Some read → now.bytes ≡ Some told → EngineBefore split engine (1 - slot) round before read →
          StoresFront rules split engine round (sums devices) slot (parts_of_master split.engines p engine) (own_below split.vertices split.engines split.parts p engine) before changed told

    -- a partition of another master
    pub skip : (engine p changed : ℕ) (now : DiskState) → (master_in split p ≡ engine → ⊥) → SoFar engine p changed now → SoFar engine (p + 1) changed now
    skip engine p changed now other so_far = record {
      any_moment = so_far.any_moment;
      closed = so_far.closed;
      exact = so_far.exact;
      bytes = so_far.bytes;
      stored = λ devices read told before told_devices told_read told_now stands.
          let front = so_far.stored devices read told before told_devices told_read told_now stands in
          subst (λ (ps : List ℕ). StoresFront rules split engine round (sums devices) slot ps (own_below split.vertices split.engines split.parts (p + 1) engine) before changed told)
          (sym (parts_same split.engines p engine other))
          (subst (λ (count : ℕ). StoresFront rules split engine round (sums devices) slot (parts_of_master split.engines p engine) count before changed told)
          (sym (own_below-other split.vertices split.engines split.parts p engine other)) front);
    }

    -- the values before of one partition
    stands_in : (p : ℕ) (before : List Value) (read mid : List ℕ) → p < split.parts → EngineBefore split (master_in split p) (1 - slot) round before read → SameOther (own_in split (master_in split p)) slot read mid →
        StandBefore split p (1 - slot) round (take (len_in split p) (drop (before_in split p) before)) mid
    stands_in p before read mid below stands same =
        let own : ℕ = own_in split (master_in split p) in
        let count : ℕ = before_in split p in
        let len : ℕ = len_in split p in
        let fits : count + len ≤ own = own_before-fits split.vertices split.engines split.parts p below in
        let inside : len ≤ length (drop count before) = omega (arith, length-drop count before, stands.long) in
        record {
          fit = All-take (λ (x : Value). (x.main < 2 ^ 64) × (x.side < 2 ^ 64)) len (drop count before) (All-drop (λ (x : Value). (x.main < 2 ^ 64) × (x.side < 2 ^ 64)) count before stands.fit);
          long = length-take-le len (drop count before) inside;
          stand = λ later. values_bytes-take len (drop count before) inside
              ∙ ap (take (16 * len)) (values_bytes-drop count before (omega (arith, stands.long)))
              ∙ ap (bytes_at (16 * count) (16 * len)) (stands.stand later ∙ sym (other_values own slot read mid same))
              ∙ bytes_at-within (slot_start own (1 - slot) + 24) (16 * own) (16 * count) (16 * len) mid (omega arith);
        }

    -- a partition of the engine's own
    pub step : (p changed more : ℕ) (mid new : DiskState) → slot < 2 → p < split.parts → IsDisk mid → ((devices : List (List ℕ)) → length (sums devices p) ≡ len_in split p) → SoFar (master_in split p) p changed mid →
        Leaves number mid new (WhileWriting (own_in split (master_in split p)) slot mid) → InEveryImage new (IsClosed (own_in split (master_in split p)) slot) → HasExactSize (own_in split (master_in split p)) new →
        AsTold (SameOther (own_in split (master_in split p)) slot) mid.bytes new.bytes →
        ((devices : List (List ℕ)) (read told : List ℕ) (before : List Value) → Told devices → mid.bytes ≡ Some read → new.bytes ≡ Some told → StandBefore split p (1 - slot) round before read →
        StoresPartition rules split round (sums devices p) p slot before more read told) →
        SoFar (master_in split p) (p + 1) (changed + more) new
    step p changed more mid new small below law many so_far run closed exact bytes written = record {
      any_moment = writing_on (own_in split (master_in split p)) slot number start mid new law so_far.any_moment run;
      closed = closed;
      exact = exact;
      bytes = as_told_then (SameOther (own_in split (master_in split p)) slot) (SameOther (own_in split (master_in split p)) slot) (SameOther (own_in split (master_in split p)) slot)
          (λ a b d first next. next ∙ first) start.bytes mid.bytes new.bytes so_far.bytes bytes;
      stored = λ devices read told before told_devices told_read told_new stands.
          let own : ℕ = own_in split (master_in split p) in
          let count : ℕ = before_in split p in
          let len : ℕ = len_in split p in
          let at : ℕ = slot_start own slot + 24 in
          let fits : count + len ≤ own = own_before-fits split.vertices split.engines split.parts p below in
          let middle = as_told_to (SameOther own slot) read mid.bytes (subst (λ (x : Option (List ℕ)). AsTold (SameOther own slot) x mid.bytes) told_read so_far.bytes) in
          let m : List ℕ = middle.0 in
          let part : List Value = take len (drop count before) in
          let old = stands_in p before read m below stands middle.2 in
          let front = so_far.stored devices read m before told_devices told_read middle.1 stands in
          let one = written devices m told part told_devices middle.1 told_new old in
          let ps : List ℕ = parts_of_master split.engines p (master_in split p) in
          let a : List Value = applied rules split round (sums devices) ps before in
          let b : List Value = values_in rules split round (sums devices p) p part in
          let piece : List ℕ = values_bytes b in
          let long_b : length b ≡ len = length-values_in round (sums devices p) p part (many devices) old.long in
          let long_piece : length piece ≡ 16 * len = omega (arith, length-values_bytes b, long_b) in
          let long_m : length m ≡ device_size own = sym (sized_at mid m law middle.1) ∙ so_far.exact.now in
          let inside : set_start own slot count + 16 * len ≤ device_size own = set_within own slot count len small fits in
          let all : applied rules split round (sums devices) (ps ++ p ∷ []) before ≡ a ++ b = applied-more (sums devices) ps p before in
          let next_count : own_below split.vertices split.engines split.parts (p + 1) (master_in split p) ≡ count + len = own_below-master split.vertices split.engines split.parts p (master_in split p) refl in
          let torn : Torn (at + 16 * count) (length piece) m (after_write (at + 16 * count) piece m) = torn_after_write (at + 16 * count) piece m in
          let stand : bytes_at at (16 * (count + len)) told ≡ values_bytes (a ++ b) =
          (let sum : 16 * (count + len) ≡ 16 * count + 16 * len = omega arith in ap (λ n. bytes_at at n told) sum)
          ∙ bytes_at-split at (16 * count) (16 * len) told
          ∙ ap (λ bytes. bytes_at at (16 * count) bytes ++ bytes_at (at + 16 * count) (16 * len) bytes) one.written
          ∙ ap (λ xs. xs ++ bytes_at (at + 16 * count) (16 * len) (after_write (at + 16 * count) piece m))
          (bytes_at-torn (at + 16 * count) (length piece) m (after_write (at + 16 * count) piece m) at (16 * count) torn (inl (omega arith)) (omega (arith, long_m, inside)) ∙ front.stand)
          ∙ ap (λ n. values_bytes a ++ bytes_at (at + 16 * count) n (after_write (at + 16 * count) piece m)) (sym long_piece)
          ∙ ap (λ xs. values_bytes a ++ xs) (bytes_at-after_write (at + 16 * count) piece m (omega (arith, long_m, inside)))
          ∙ sym (flat_map-append value_bytes a b) in
          let here : StoresFront rules split (master_in split p) round (sums devices) slot (ps ++ p ∷ []) (count + len) before (changed + more) told = record {
            long = ap length all ∙ length-append a b ∙ (let sum : length a + length b ≡ count + len = omega (arith, front.long, long_b) in sum);
            stand = stand ∙ ap values_bytes (sym all);
            counted = changed_more round before a b changed more (omega (arith, front.long, long_b, stands.long)) front.counted
                (one.counted ∙ ap (λ xs. changed_by round xs b) (ap (λ n. take n (drop count before)) (sym long_b) ∙ ap (λ n. take (length b) (drop n before)) (sym front.long)))
                ∙ ap (changed_by round before) (sym all);
          } in
          subst (λ (qs : List ℕ). StoresFront rules split (master_in split p) round (sums devices) slot qs (own_below split.vertices split.engines split.parts (p + 1) (master_in split p)) before (changed + more) told)
          (sym (parts_more split.engines p (master_in split p) refl))
          (subst (λ (n : ℕ). StoresFront rules split (master_in split p) round (sums devices) slot (ps ++ p ∷ []) n before (changed + more) told) (sym next_count) here);
    }

    nothing_changed : (r : ℕ) (before : List Value) → 0 ≡ changed_by r before []
    nothing_changed zero before = refl
    nothing_changed (suc r) [] = refl
    nothing_changed (suc r) (x ∷ xs) = refl

    -- before any partition
    pub begun : (engine : ℕ) → IsDisk start → HasExactSize (own_in split engine) start → InEveryImage start (IsClosed (own_in split engine) slot) → SoFar engine 0 0 start
    begun engine law exact closed = record {
      any_moment = started number start (WhileClosing (own_in split engine) slot start) law (λ c image. record { image = c; is_image = image; long = refl; other = refl; itself = inl refl });
      closed = closed;
      exact = exact;
      bytes = as_told_same (SameOther (own_in split engine) slot) (λ a. refl) start.bytes;
      stored = λ devices read told before told_devices told_read told_now stands. record { long = refl; stand = refl; counted = nothing_changed round before };
    }

    -- after the last one
    pub ended : (engine p changed : ℕ) (now : DiskState) → p ≡ split.parts → SoFar engine p changed now → SoFar engine split.parts changed now
    ended engine p changed now last so_far = subst (λ (q : ℕ). SoFar engine q changed now) last so_far

    pub step_of : (engine p changed more : ℕ) (mid new : DiskState) → slot < 2 → master_in split p ≡ engine → p < split.parts → IsDisk mid → ((devices : List (List ℕ)) → length (sums devices p) ≡ len_in split p) → SoFar engine p changed mid →
        Leaves number mid new (WhileWriting (own_in split (master_in split p)) slot mid) → InEveryImage new (IsClosed (own_in split (master_in split p)) slot) → HasExactSize (own_in split (master_in split p)) new →
        AsTold (SameOther (own_in split (master_in split p)) slot) mid.bytes new.bytes →
        ((devices : List (List ℕ)) (read told : List ℕ) (before : List Value) → Told devices → mid.bytes ≡ Some read → new.bytes ≡ Some told → StandBefore split p (1 - slot) round before read →
        StoresPartition rules split round (sums devices p) p slot before more read told) →
        SoFar engine (p + 1) (changed + more) new
    step_of engine p changed more mid new small mine below law many so_far run closed exact bytes written =
        subst (λ (e : ℕ). SoFar e (p + 1) (changed + more) new) mine
        (step p changed more mid new small below law many (subst (λ (e : ℕ). SoFar e p changed mid) (sym mine) so_far) run closed exact bytes written)

-- what a merge leaves is the sums
pub sums_are : (rules : Rules) (split : Split) (replicas : List Replicas) (devices : List (List ℕ)) (p : ℕ) (into : List ℕ) → length into ≡ len_in split p → MergesAll rules replicas devices p into → into ≡ sums_in rules split replicas devices p
sums_are rules split replicas devices p into long merges =
    of_vertices_is (λ v. merged rules (sums_for replicas devices p v)) into (len_in split p) 0 long (λ v below. merges v (omega arith))

pub length-sums_in : (rules : Rules) (split : Split) (replicas : List Replicas) (devices : List (List ℕ)) (p : ℕ) → length (sums_in rules split replicas devices p) ≡ len_in split p
length-sums_in rules split replicas devices p = length-map-range_with_len (λ v. merged rules (sums_for replicas devices p v)) 0 (len_in split p)

pub if_ok_map : {T E : Type 0} {P Q : T → Type 0} (r : Result T E) → ((x : T) → P x → Q x) → IfOk r P → IfOk r Q
if_ok_map (Ok x) f p = f x p
if_ok_map (Err e) f p = tt

-- the values before of an engine, where the other slot is the same
engine_stands : (split : Split) (engine slot round : ℕ) (before : List Value) (read mid : List ℕ) → EngineBefore split engine (1 - slot) round before read → SameOther (own_in split engine) slot read mid → EngineBefore split engine (1 - slot) round before mid
engine_stands split engine slot round before read mid stands same = record {
  fit = stands.fit;
  long = stands.long;
  stand = λ later. stands.stand later ∙ sym (other_values (own_in split engine) slot read mid same);
}

-- round 0 does not read the values before
applied_first : (rules : Rules) (split : Split) (sums : ℕ → List ℕ) (ps : List ℕ) (before other : List Value) → applied rules split 0 sums ps before ≡ applied rules split 0 sums ps other
applied_first rules split sums [] before other = refl
applied_first rules split sums (p ∷ ps) before other =
    ap (λ rest. values_in rules split 0 (sums p) p [] ++ rest) (applied_first rules split sums ps (drop (len_in split p) before) (drop (len_in split p) other))

zeros : ℕ → List Value
zeros n = replicate n (record { main = 0; side = 0 })

-- so that for it any values do
pub usable : (rules : Rules) (split : Split) (engine slot round : ℕ) (sums : ℕ → List ℕ) (ps : List ℕ) (before : List Value) (read : List ℕ) → (1 ≤ round → EngineStandsBefore split engine slot before read) →
    (other : List Value) × EngineBefore split engine slot round other read × (applied rules split round sums ps other ≡ applied rules split round sums ps before) × ((now : List Value) → changed_by round other now ≡ changed_by round before now)
unfolding zeros
usable rules split engine slot zero sums ps before read stands = (
  zeros (own_in split engine),
  record {
    fit = All-replicate (λ (x : Value). (x.main < 2 ^ 64) × (x.side < 2 ^ 64)) (own_in split engine) (record { main = 0; side = 0 }) (omega arith, omega arith);
    long = length-replicate (own_in split engine) _;
    stand = λ later. absurd (omega arith);
  },
  applied_first rules split sums ps (zeros (own_in split engine)) before,
  λ now. refl,
)
usable rules split engine slot (suc round) sums ps before read stands =
    let some : EngineStandsBefore split engine slot before read = stands (omega arith) in
    (before, record { fit = some.fit; long = some.long; stand = λ later. some.stand }, refl, λ now. refl)

-- what stands in the slot when all partitions were written
pub all_stand : (rules : Rules) (split : Split) (engine round slot : ℕ) (sums : ℕ → List ℕ) (before : List Value) (changed : ℕ) (x : Option (List ℕ)) →
    ((now : List ℕ) → x ≡ Some now → StoresFront rules split engine round sums slot (parts_of_master split.engines split.parts engine) (own_in split engine) before changed now) →
    IfSome x (λ read. slot_values (own_in split engine) slot read ≡ values_bytes (applied rules split round sums (parts_of_master split.engines split.parts engine) before))
all_stand rules split engine round slot sums before changed (Some now) stores = (stores now refl).stand
all_stand rules split engine round slot sums before changed None stores = tt

pub all_counted : (rules : Rules) (split : Split) (engine round slot : ℕ) (sums : ℕ → List ℕ) (before : List Value) (changed : ℕ) (mid : List ℕ) (x : Option (List ℕ)) → AsTold (SameOther (own_in split engine) slot) (Some mid) x →
    ((now : List ℕ) → x ≡ Some now → StoresFront rules split engine round sums slot (parts_of_master split.engines split.parts engine) (own_in split engine) before changed now) →
    changed ≡ changed_by round before (applied rules split round sums (parts_of_master split.engines split.parts engine) before)
all_counted rules split engine round slot sums before changed mid (Some now) told stores = (stores now refl).counted
all_counted rules split engine round slot sums before changed mid None told stores = absurd told

-- what stands in the slot, and how many values changed, when all partitions were written
pub round_stands : (rules : Rules) (split : Split) (engine round slot : ℕ) (sums : ℕ → List ℕ) (before : List Value) (changed : ℕ) (read told : List ℕ) (x : Option (List ℕ)) →
    (1 ≤ round → EngineStandsBefore split engine (1 - slot) before read) → SameOther (own_in split engine) slot read told → AsTold (SameOther (own_in split engine) slot) (Some told) x →
    ((other : List Value) (now : List ℕ) → x ≡ Some now → EngineBefore split engine (1 - slot) round other told →
    StoresFront rules split engine round sums slot (parts_of_master split.engines split.parts engine) (own_in split engine) other changed now) →
    IfSome x (λ bytes. slot_values (own_in split engine) slot bytes ≡ values_bytes (applied rules split round sums (parts_of_master split.engines split.parts engine) before))
    × (changed ≡ changed_by round before (applied rules split round sums (parts_of_master split.engines split.parts engine) before))
round_stands rules split engine round slot sums before changed read told x stands same now_told stores =
    let ps : List ℕ = parts_of_master split.engines split.parts engine in
    let with_any = usable rules split engine (1 - slot) round sums ps before read stands in
    let ready : EngineBefore split engine (1 - slot) round with_any.0 told = engine_stands split engine slot round with_any.0 read told with_any.1 same in (
      subst (λ (vs : List Value). IfSome x (λ bytes. slot_values (own_in split engine) slot bytes ≡ values_bytes vs)) with_any.2
          (all_stand rules split engine round slot sums with_any.0 changed x (λ now told_now. stores with_any.0 now told_now ready)),
      all_counted rules split engine round slot sums with_any.0 changed told x now_told (λ now told_now. stores with_any.0 now told_now ready)
          ∙ with_any.3 (applied rules split round sums ps with_any.0)
          ∙ ap (changed_by round before) with_any.2,
    )
