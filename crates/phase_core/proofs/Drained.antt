-- Where a partition has no chunk left, each of its chunks was taken once.
use Rattle.std.proofs.Common.{◌≡◌, ◌≢◌, ℕ, zero, suc, ◌+◌, ◌-◌, ◌/◌, ◌%◌, ◌<◌, ◌≤◌, ◌==◌, ◌&&◌, nat_lt, if◌then◌else◌, Bool, true, false, List, [], ◌∷◌, ◌++◌, get_or, flat_map, refl, sym, ◌∙◌, ap, subst, zero-add, eq-eqb, arith}
use Rattle.std.specs.List.{All, count_by, fold}
use Rattle.std.proofs.Math.Nat.{div-add-mod}
use Rattle.std.proofs.lemmas.Bool.{eqb-true, eqb-false, ltb-true, ne_eqb}
use Rattle.std.proofs.lemmas.List.Elements.{All-head, All-tail}
use Rattle.graph_model.specs.declared.value.Update.{Update}
use Rattle.graph_model.specs.Programs.{Rules}
use Rattle.chunk_object.specs.declared.call.Call.{Call}
use Rattle.chunk_object.specs.declared.call.Call.TheVariants as call
use Rattle.chunk_object.specs.History.{one_below, takes}
use Rattle.chunk_object.specs.Epochs.{cursor_of}
use Rattle.chunk_object.proofs.Covered.{count-cons, count_by-append}
use Rattle.chunk_object.proofs.Dutiful.{cursor_parts}
use Rattle.phase_model.specs.Taken.{taken}
use Rattle.phase_core.specs.declared.event.Event.{Event}
use Rattle.phase_core.specs.declared.event.Event.TheVariants.{Claim, Look, Heads, Admit, Finish}
use Rattle.phase_core.specs.declared.event.Reply.{Reply}
use Rattle.phase_core.specs.declared.event.Reply.TheVariants.{Took, Exhausted, Number, Admitted, Contended, Finished, NotNow}
use Rattle.phase_core.specs.Machine.{Machine, fresh, is_timely, reply, after_reply, stepped}
use Rattle.phase_core.specs.Runs.{ran, calls_of, all_calls}
use Rattle.phase_core.specs.Sums.{merged_at, AreSums, IsOfSplit, IsDrained, updates_put}
use Rattle.phase_core.proofs.Shelved.{is_chunk, cursor_at, lens_other, IsMerged, shelf_merged}
use Rattle.phase_core.proofs.Taking.{values_are_sums, values_of_records, merged_fresh, split_kept}
use Rattle.gather_laws.specs.Laws.{GatherLaws}
use Rattle.graph_model.specs.Partitions.{partition_of}
use Rattle.partitioner.specs.declared.split.Split.{Split}
use Rattle.partitioner.specs.Splits.{IsSplit}
use Rattle.chunk_model.specs.Chunks.{Chunk}
use Rattle.phase_model.specs.Shelves.{Shelf, lens_of, records_at}
use Rattle.phase_model.specs.Sums.{values_to}
use Rattle.phase_model.proofs.Sent.{values_to-append}
use Rattle.phase_model.proofs.Lists.{values_none}

-- taking is standing among what was taken
pub count_taken : (cursor place : ℕ) (calls : List Call) → count_by (is_chunk cursor place) (taken calls) ≡ count_by (takes cursor place) calls
count_taken cursor place [] = refl
count_taken cursor place (call.Took claimed given ∷ calls) =
    count-cons (is_chunk cursor place) (claimed, given) (taken calls)
    ∙ ap (λ k. (if is_chunk cursor place (claimed, given) then 1 else 0) + k) (count_taken cursor place calls)
    ∙ sym (count-cons (takes cursor place) (call.Took claimed given) calls)
count_taken cursor place (c ∷ calls) = count_taken cursor place calls ∙ sym (count-cons (takes cursor place) c calls ∙ zero-add (count_by (takes cursor place) calls))

-- one take counts for the chunk that it was given
next_one : (n t : ℕ) → 0 + (if n == t then 1 else 0) + one_below n t ≡ one_below (suc n) t
next_one n t = grind arith

took_count : (cursor c n t k : ℕ) (same : Bool) → c == cursor ≡ same → (c ≡ cursor → k ≡ n) →
    count_by (takes c t) (call.Took cursor n ∷ []) + one_below k t ≡ one_below (if same then suc n else k) t
took_count cursor c n t k true is at =
    let here : c ≡ cursor = eqb-true c cursor is in
    ap (λ b. 0 + (if b && n == t then 1 else 0) + one_below k t) (eq-eqb cursor c (sym here))
    ∙ ap (λ j. 0 + (if n == t then 1 else 0) + one_below j t) (at here)
    ∙ next_one n t
took_count cursor c n t k false is at =
    ap (λ b. 0 + (if b && n == t then 1 else 0) + one_below k t) (ne_eqb cursor c (λ equal. eqb-false c cursor is (sym equal))) ∙ zero-add (one_below k t)

module _ (rules : Rules) (m : Machine) (c t : ℕ) where
  abbrev pub Counts : Event → Reply → Type 0
  Counts event r = count_by (takes c t) (calls_of event r) + one_below (m.object.next c) t ≡ one_below ((after_reply rules m event r).object.next c) t

  claim_counts : (worker engine partition : ℕ) (timely less : Bool) →
      Counts (Claim worker engine partition) (if timely then (if less then Took (m.object.next (cursor_of engine partition)) else Exhausted) else NotNow)
  claim_counts worker engine partition true true =
      took_count (cursor_of engine partition) c (m.object.next (cursor_of engine partition)) t (m.object.next c) (c == cursor_of engine partition) refl (λ same. ap m.object.next same)
  claim_counts worker engine partition true false = zero-add (one_below (m.object.next c) t)
  claim_counts worker engine partition false less = zero-add (one_below (m.object.next c) t)

  admit_counts : (worker partition seen : ℕ) (timely same : Bool) → Counts (Admit worker partition seen) (if timely then (if same then Admitted else Contended (m.object.heads partition)) else NotNow)
  admit_counts worker partition seen true true = zero-add (one_below (m.object.next c) t)
  admit_counts worker partition seen true false = zero-add (one_below (m.object.next c) t)
  admit_counts worker partition seen false same = zero-add (one_below (m.object.next c) t)

  look_counts : (worker engine partition left : ℕ) (timely : Bool) → Counts (Look worker engine partition) (if timely then Number left else NotNow)
  look_counts worker engine partition left true = zero-add (one_below (m.object.next c) t)
  look_counts worker engine partition left false = zero-add (one_below (m.object.next c) t)

  heads_counts : (worker partition heads : ℕ) (timely : Bool) → Counts (Heads worker partition) (if timely then Number heads else NotNow)
  heads_counts worker partition heads true = zero-add (one_below (m.object.next c) t)
  heads_counts worker partition heads false = zero-add (one_below (m.object.next c) t)

  finish_counts : (worker : ℕ) (timely : Bool) → Counts (Finish worker) (if timely then Finished else NotNow)
  finish_counts worker true = zero-add (one_below (m.object.next c) t)
  finish_counts worker false = zero-add (one_below (m.object.next c) t)

  counts_step : (event : Event) → Counts event (reply m event)
  counts_step (Claim worker engine partition) =
      claim_counts worker engine partition (is_timely m (Claim worker engine partition)) (nat_lt (m.object.next (cursor_of engine partition)) (m.object.len (cursor_of engine partition)))
  counts_step (Look worker engine partition) = look_counts worker engine partition (m.object.len (cursor_of engine partition) - m.object.next (cursor_of engine partition)) (is_timely m (Look worker engine partition))
  counts_step (Heads worker partition) = heads_counts worker partition (m.object.heads partition) (is_timely m (Heads worker partition))
  counts_step (Admit worker partition seen) = admit_counts worker partition seen (is_timely m (Admit worker partition seen)) (m.object.heads partition == seen)
  counts_step (Finish worker) = finish_counts worker (is_timely m (Finish worker))

-- no cursor has given more chunks than it has
abbrev pub IsWithin : Machine → Type 0
IsWithin m = (cursor : ℕ) → m.object.next cursor ≤ m.object.len cursor

module _ (rules : Rules) (m : Machine) (within : IsWithin m) where
  claim_within : (worker engine partition : ℕ) (timely less : Bool) → nat_lt (m.object.next (cursor_of engine partition)) (m.object.len (cursor_of engine partition)) ≡ less →
      IsWithin (after_reply rules m (Claim worker engine partition) (if timely then (if less then Took (m.object.next (cursor_of engine partition)) else Exhausted) else NotNow))
  claim_within worker engine partition true true is c = by_cursor (c == cursor_of engine partition) refl
    where
      by_cursor : (same : Bool) → c == cursor_of engine partition ≡ same → (if same then suc (m.object.next (cursor_of engine partition)) else m.object.next c) ≤ m.object.len c
      by_cursor true here =
          let left = ltb-true (m.object.next (cursor_of engine partition)) (m.object.len (cursor_of engine partition)) is in
          subst (λ k. suc (m.object.next (cursor_of engine partition)) ≤ m.object.len k) (sym (eqb-true c (cursor_of engine partition) here)) left
      by_cursor false here = within c
  claim_within worker engine partition true false is c = within c
  claim_within worker engine partition false less is c = within c

  admit_within : (worker partition seen : ℕ) (timely same : Bool) → IsWithin (after_reply rules m (Admit worker partition seen) (if timely then (if same then Admitted else Contended (m.object.heads partition)) else NotNow))
  admit_within worker partition seen true true = within
  admit_within worker partition seen true false = within
  admit_within worker partition seen false same = within

  finish_within : (worker : ℕ) (timely : Bool) → IsWithin (after_reply rules m (Finish worker) (if timely then Finished else NotNow))
  finish_within worker true = within
  finish_within worker false = within

  within_step : (event : Event) → IsWithin (stepped rules m event)
  within_step (Claim worker engine partition) = claim_within worker engine partition (is_timely m (Claim worker engine partition)) (nat_lt (m.object.next (cursor_of engine partition)) (m.object.len (cursor_of engine partition))) refl
  within_step (Look worker engine partition) = within
  within_step (Heads worker partition) = within
  within_step (Admit worker partition seen) = admit_within worker partition seen (is_timely m (Admit worker partition seen)) (m.object.heads partition == seen)
  within_step (Finish worker) = finish_within worker (is_timely m (Finish worker))

len_kept : (rules : Rules) (m : Machine) (event : Event) (r : Reply) → (after_reply rules m event r).object.len ≡ m.object.len
len_kept rules m (Claim worker engine partition) (Took chunk) = refl
len_kept rules m (Claim worker engine partition) Exhausted = refl
len_kept rules m (Admit worker partition seen) Admitted = refl
len_kept rules m (Finish worker) Finished = refl
len_kept rules m _ _ = refl

module _ (rules : Rules) where
  -- how often each chunk was taken in a run
  pub counts_run : (m : Machine) (events : List Event) (c t : ℕ) → count_by (takes c t) (all_calls rules m events) + one_below (m.object.next c) t ≡ one_below ((ran rules m events).object.next c) t
  counts_run m [] c t = zero-add (one_below (m.object.next c) t)
  counts_run m (event ∷ events) c t =
      let next : Machine = stepped rules m event in
      let now = counts_step rules m c t event in
      let later = counts_run next events c t in
      let both = count_by-append (takes c t) (calls_of event (reply m event)) (all_calls rules next events) in
      omega (arith, now, later, both)

  pub within_run : (m : Machine) (events : List Event) → IsWithin m → IsWithin (ran rules m events)
  within_run m [] within = within
  within_run m (event ∷ events) within = within_run (stepped rules m event) events (within_step rules m within event)

  pub split_run : (m : Machine) (events : List Event) → (ran rules m events).split ≡ m.split
  split_run m [] = refl
  split_run m (event ∷ events) = split_run (stepped rules m event) events ∙ split_kept rules m event (reply m event)

  pub len_run : (m : Machine) (events : List Event) → (ran rules m events).object.len ≡ m.object.len
  len_run m [] = refl
  len_run m (event ∷ events) = len_run (stepped rules m event) events ∙ len_kept rules m event (reply m event)

none_below : (place : ℕ) → one_below 0 place ≡ 0
none_below place = grind arith

-- a cursor that no engine has holds no chunk
no_engine : (split : Split) → split.parts ≤ 64 → (chunks : Shelf Update) → All (IsOfSplit split) chunks → (cursor : ℕ) → split.engines ≤ cursor / 64 → lens_of chunks cursor ≡ 0
no_engine split few [] all cursor past = refl
no_engine split few (c ∷ chunks) all cursor past =
    let here : IsOfSplit split c = All-head (IsOfSplit split) c chunks all in
    let small : c.1.partition < 64 = omega (arith, here.partition, few) in
    let apart : cursor_at c ≢ cursor = λ equal.
    let quotient : cursor / 64 ≡ c.0 = subst (λ k. k / 64 ≡ c.0) equal (cursor_parts c.0 c.1.partition small).0 in
    let below = here.engine in
    omega (arith, quotient, past, below) in
    lens_other c chunks cursor (ne_eqb (cursor_at c) cursor apart) ∙ no_engine split few chunks (All-tail (IsOfSplit split) c chunks all) cursor past

values_of_put : (vertex : ℕ) (chunks : Shelf Update) → flat_map (λ (c : ℕ × Chunk Update). values_to vertex c.1.items) chunks ≡ values_to vertex (updates_put chunks)
values_of_put vertex [] = refl
values_of_put vertex (c ∷ chunks) =
    ap (λ back. values_to vertex c.1.items ++ back) (values_of_put vertex chunks) ∙ sym (values_to-append vertex c.1.items (updates_put chunks))

module _ (rules : Rules) (IsSum : ℕ → Type 0) (laws : GatherLaws rules IsSum) (split : Split) (is : IsSplit split) (chunks : Shelf Update) (events : List Event) (vertex : ℕ)
    (sums : AreSums IsSum chunks) (all : All (IsOfSplit split) chunks)
    (drained : IsDrained (ran rules (fresh split rules.unit chunks) events) (partition_of split.vertices split.parts vertex)) where
  abbrev start : Machine
  start = fresh split rules.unit chunks

  abbrev home : ℕ
  home = partition_of split.vertices split.parts vertex

  abbrev mine : ℕ → Bool
  mine cursor = cursor % 64 == home

  abbrev g : List Update → List ℕ
  g = values_to vertex

  -- a chunk of another partition sends nothing to the vertex
  merged_chunk : (c : ℕ × Chunk Update) → IsOfSplit split c → All (λ (u : Update). IsSum u.value) c.1.items → IsMerged rules.unit rules.merge IsSum laws.merging g mine refl c
  merged_chunk c of_split values = record {
    sums = values_are_sums IsSum vertex c.1.items values;
    others = λ other. values_none vertex c.1.items
        (λ k d below equal.
        let small : c.1.partition < 64 = omega (arith, of_split.partition, is.few) in
        let at_home : partition_of split.vertices split.parts (get_or c.1.items k d).dst ≡ c.1.partition = of_split.home k d below in
        let same : home ≡ c.1.partition = subst (λ v. partition_of split.vertices split.parts v ≡ c.1.partition) equal at_home in
        eqb-false (cursor_at c % 64) home other ((cursor_parts c.0 c.1.partition small).1 ∙ sym same));
  }

  all_chunks : (made : Shelf Update) → All (IsOfSplit split) made → AreSums IsSum made → All (IsMerged rules.unit rules.merge IsSum laws.merging g mine refl) made
  all_chunks made of_split values = λ k d below. merged_chunk (get_or made k d) (of_split k d below) (values k d below)

  abbrev end : Machine
  end = ran rules start events

  at_most_len : (cursor : ℕ) → end.object.len cursor ≤ end.object.next cursor → end.object.next cursor ≡ lens_of chunks cursor
  at_most_len cursor empty =
      let len : end.object.len cursor ≡ lens_of chunks cursor = ap (λ (f : ℕ → ℕ). f cursor) (len_run rules start events) in
      let most = within_run rules start events (λ k. omega arith) cursor in
      omega (arith, len, most, empty)

  -- each chunk of a cursor of the partition was given to somebody
  all_given : (cursor : ℕ) → mine cursor ≡ true → (there : Bool) → nat_lt (cursor / 64) split.engines ≡ there → end.object.next cursor ≡ lens_of chunks cursor
  all_given cursor own true is_there =
      let at : cursor_of (cursor / 64) home ≡ cursor = omega (arith, div-add-mod cursor 64, eqb-true (cursor % 64) home own) in
      let empty : end.object.len cursor ≤ end.object.next cursor =
      subst (λ k. end.object.len k ≤ end.object.next k) at (drained (cursor / 64) (subst (λ (s : Split). cursor / 64 < s.engines) (sym (split_run rules start events)) (ltb-true (cursor / 64) split.engines is_there))) in
      at_most_len cursor empty
  all_given cursor own false is_there =
      let past : split.engines ≤ cursor / 64 = grind arith in
      let none : lens_of chunks cursor ≡ 0 = no_engine split is.few chunks all cursor past in
      let len : end.object.len cursor ≡ lens_of chunks cursor = ap (λ (f : ℕ → ℕ). f cursor) (len_run rules start events) in
      at_most_len cursor (omega (arith, len, none))

  -- each chunk of the partition was taken once
  once : (cursor place : ℕ) → mine cursor ≡ true → count_by (is_chunk cursor place) (taken (all_calls rules start events)) ≡ one_below (lens_of chunks cursor) place
  once cursor place own =
      let counts = counts_run rules start events cursor place in
      let none : one_below 0 place ≡ 0 = none_below place in
      let counted : count_by (takes cursor place) (all_calls rules start events) ≡ one_below (end.object.next cursor) place = omega (arith, counts, none) in
      count_taken cursor place (all_calls rules start events) ∙ counted ∙ ap (λ n. one_below n place) (all_given cursor own (nat_lt (cursor / 64) split.engines) refl)

  -- **The merge is that of all updates that were put to the vertex.**
  pub merged_all : merged_at rules (ran rules start events) vertex ≡ fold rules.merge rules.unit (values_to vertex (updates_put chunks))
  merged_all =
      merged_fresh rules IsSum laws split chunks events vertex sums
      ∙ ap (fold rules.merge rules.unit) (values_of_records (records_at chunks) vertex (taken (all_calls rules start events)))
      ∙ shelf_merged rules.unit rules.merge IsSum laws.merging g mine refl chunks (taken (all_calls rules start events)) (all_chunks chunks all sums) once
      ∙ ap (fold rules.merge rules.unit) (values_of_put vertex chunks)
