-- What each worker took, and what the merge of all sums is.
use Rattle.std.proofs.Common.{◌≡◌, ◌≢◌, ℕ, ◌==◌, ◌&&◌, not, nat_lt, nat_le, if◌then◌else◌, Bool, true, false, List, [], ◌∷◌, ◌++◌, map, filter, flat_map, refl, sym, ◌∙◌, ap, subst, append-nil, eq-eqb}
use Rattle.std.specs.List.{All, fold, range_with_len}
use Rattle.std.proofs.lemmas.Bool.{eqb-true, eqb-false, cond-true, cond-false, ne_eqb}
use Rattle.std.proofs.lemmas.List.Sums.{fold-append}
use Rattle.std.proofs.lemmas.List.Elements.{All-map, All-filter, All-nil}
use Rattle.gather_laws.specs.Laws.{GatherLaws}
use Rattle.gather_laws.proofs.MergeLemmas.{merged_is_sum, merged-append}
use Rattle.graph_model.specs.declared.value.Update.{Update}
use Rattle.graph_model.specs.Programs.{Rules}
use Rattle.partitioner.specs.declared.split.Split.{Split}
use Rattle.chunk_object.specs.declared.call.Call.{Call}
use Rattle.chunk_object.specs.Epochs.{cursor_of}
use Rattle.phase_model.specs.Shelves.{Shelf, records_at}
use Rattle.phase_model.specs.Taken.{taken, records_of, records_taken}
use Rattle.phase_model.specs.Sums.{values_to}
use Rattle.phase_model.proofs.Lists.{records_taken-append}
use Rattle.phase_model.proofs.Sent.{values_to-append}
use Rattle.phase_core.specs.declared.event.Event.{Event}
use Rattle.phase_core.specs.declared.event.Event.TheVariants.{Claim, Look, Heads, Admit, Finish}
use Rattle.phase_core.specs.declared.event.Reply.{Reply}
use Rattle.phase_core.specs.declared.event.Reply.TheVariants.{Took, Exhausted, Number, Admitted, Finished, NotNow}
use Rattle.phase_core.specs.Machine.{Machine, fresh, is_active, is_cursor, works_at, is_timely, answer, folded, reply, after_reply, stepped}
use Rattle.phase_core.specs.Sums.{merged_at, AreSums}
use Rattle.phase_core.proofs.Shelved.{records_all, all_taken}
use Rattle.phase_core.proofs.Merging.{merged_raised, merged_sums, merged_units, folded_merge}
use Rattle.phase_core.specs.Runs.{ran, worker_of, calls_of, all_calls, calls_by}

module _ (rules : Rules) where
  pub chunks_kept : (m : Machine) (event : Event) (r : Reply) → (after_reply rules m event r).chunks ≡ m.chunks
  chunks_kept m (Claim worker engine partition) (Took chunk) = refl
  chunks_kept m (Claim worker engine partition) Exhausted = refl
  chunks_kept m (Admit worker partition seen) Admitted = refl
  chunks_kept m (Finish worker) Finished = refl
  chunks_kept m _ _ = refl

  pub split_kept : (m : Machine) (event : Event) (r : Reply) → (after_reply rules m event r).split ≡ m.split
  split_kept m (Claim worker engine partition) (Took chunk) = refl
  split_kept m (Claim worker engine partition) Exhausted = refl
  split_kept m (Admit worker partition seen) Admitted = refl
  split_kept m (Finish worker) Finished = refl
  split_kept m _ _ = refl

  -- the values to a vertex in what the calls took
  abbrev pub values_in : Machine → ℕ → List Call → List ℕ
  values_in m vertex calls = values_to vertex (records_taken (records_at m.chunks) calls)

  -- the sum of a worker after an event of its own, and of another
  own_sum : (m : Machine) (event : Event) (r : Reply) (worker vertex : ℕ) → worker ≡ worker_of event → (after_reply rules m event r).sums worker vertex ≡ fold rules.fold (m.sums worker vertex) (values_in m vertex (calls_of event r))
  own_sum m (Claim w engine partition) (Took chunk) worker vertex own =
      let test : worker == w ≡ true = eq-eqb worker w own in
      let records : List Update = records_at m.chunks (cursor_of engine partition) chunk in
      ap (λ (f : ℕ → ℕ). f vertex) (cond-true (worker == w) (folded rules records (m.sums w)) (m.sums worker) test)
      ∙ ap (λ k. folded rules records (m.sums k) vertex) (sym own)
      ∙ ap (λ l. fold rules.fold (m.sums worker vertex) (values_to vertex l)) (sym (append-nil records))
  own_sum m (Look w engine partition) (Number left) worker vertex own = refl
  own_sum m (Heads w partition) (Number heads) worker vertex own = refl
  own_sum m (Admit w partition seen) Admitted worker vertex own = refl
  own_sum m (Finish w) Finished worker vertex own = refl
  own_sum m _ _ worker vertex own = refl

  other_sum : (m : Machine) (event : Event) (r : Reply) (worker vertex : ℕ) → worker ≢ worker_of event → (after_reply rules m event r).sums worker vertex ≡ m.sums worker vertex
  other_sum m (Claim w engine partition) (Took chunk) worker vertex other =
      ap (λ (f : ℕ → ℕ). f vertex) (cond-false (worker == w) (folded rules (records_at m.chunks (cursor_of engine partition) chunk) (m.sums w)) (m.sums worker) (ne_eqb worker w other))
  other_sum m (Look w engine partition) (Number left) worker vertex other = refl
  other_sum m (Heads w partition) (Number heads) worker vertex other = refl
  other_sum m (Admit w partition seen) Admitted worker vertex other = refl
  other_sum m (Finish w) Finished worker vertex other = refl
  other_sum m _ _ worker vertex other = refl

  sum_after : (m : Machine) (event : Event) (r : Reply) (worker vertex : ℕ) (own : Bool) → worker == worker_of event ≡ own →
      (after_reply rules m event r).sums worker vertex ≡ fold rules.fold (m.sums worker vertex) (values_in m vertex (if own then calls_of event r else []))
  sum_after m event r worker vertex true test = own_sum m event r worker vertex (eqb-true worker (worker_of event) test)
  sum_after m event r worker vertex false test = other_sum m event r worker vertex (eqb-false worker (worker_of event) test)

  values_in-append : (m : Machine) (vertex : ℕ) (xs ys : List Call) → values_in m vertex (xs ++ ys) ≡ values_in m vertex xs ++ values_in m vertex ys
  values_in-append m vertex xs ys =
      ap (values_to vertex) (records_taken-append (records_at m.chunks) xs ys) ∙ values_to-append vertex (records_taken (records_at m.chunks) xs) (records_taken (records_at m.chunks) ys)

  -- **The sum of a worker is the fold of the updates in the chunks that it took.**
  pub own_sums : (m : Machine) (events : List Event) (worker vertex : ℕ) →
      (ran rules m events).sums worker vertex ≡ fold rules.fold (m.sums worker vertex) (values_in m vertex (calls_by worker rules m events))
  own_sums m [] worker vertex = refl
  own_sums m (event ∷ events) worker vertex =
      let r : Reply = reply m event in
      let next : Machine = stepped rules m event in
      let own : List Call = if worker == worker_of event then calls_of event r else [] in
      let later : List Call = calls_by worker rules next events in
      own_sums next events worker vertex
      ∙ ap (λ s. fold rules.fold s (values_in next vertex later)) (sum_after m event r worker vertex (worker == worker_of event) refl)
      ∙ ap (λ chunks. fold rules.fold (fold rules.fold (m.sums worker vertex) (values_in m vertex own)) (values_to vertex (records_taken (records_at chunks) later))) (chunks_kept m event r)
      ∙ sym (ap (fold rules.fold (m.sums worker vertex)) (values_in-append m vertex own later) ∙ fold-append rules.fold (m.sums worker vertex) (values_in m vertex own) (values_in m vertex later))

-- the numbers of all cursors and places are sums
pub values_are_sums : (IsSum : ℕ → Type 0) (vertex : ℕ) (updates : List Update) → All (λ (u : Update). IsSum u.value) updates → All IsSum (values_to vertex updates)
values_are_sums IsSum vertex updates all =
    All-map IsSum (λ (u : Update). u.value) (filter (λ (u : Update). u.dst == vertex) updates)
    (All-filter (λ (u : Update). u.dst == vertex) (λ (u : Update). IsSum u.value) updates all)

pub values_of_records : (records : ℕ → ℕ → List Update) (vertex : ℕ) (chunks : List (ℕ × ℕ)) → values_to vertex (records_of records chunks) ≡ flat_map (λ chunk. values_to vertex (records chunk.0 chunk.1)) chunks
values_of_records records vertex [] = refl
values_of_records records vertex (c ∷ chunks) =
    values_to-append vertex (records c.0 c.1) (records_of records chunks) ∙ ap (λ back. values_to vertex (records c.0 c.1) ++ back) (values_of_records records vertex chunks)

-- an event of a worker that is none is no call
and_false : (a b : Bool) → a ≡ false → (a && b) ≡ false
and_false a b is = rw is refl

not_timely : (m : Machine) (event : Event) → is_active m (worker_of event) ≡ false → is_timely m event ≡ false
not_timely m (Claim worker engine partition) is =
    and_false (is_active m worker && is_cursor m engine partition && works_at m worker partition) (not (m.refused worker (cursor_of engine partition)))
    (and_false (is_active m worker && is_cursor m engine partition) (works_at m worker partition) (and_false (is_active m worker) (is_cursor m engine partition) is))
not_timely m (Look worker engine partition) is = and_false (is_active m worker) (is_cursor m engine partition) is
not_timely m (Heads worker partition) is = and_false (is_active m worker) (nat_lt partition m.split.parts) is
not_timely m (Admit worker partition seen) is =
    and_false (is_active m worker && nat_lt partition m.split.parts && not (works_at m worker partition) && nat_le 1 seen) (nat_le seen 7)
    (and_false (is_active m worker && nat_lt partition m.split.parts && not (works_at m worker partition)) (nat_le 1 seen)
    (and_false (is_active m worker && nat_lt partition m.split.parts) (not (works_at m worker partition)) (and_false (is_active m worker) (nat_lt partition m.split.parts) is)))
not_timely m (Finish worker) is = is

no_call : (event : Event) → calls_of event NotNow ≡ []
no_call (Claim worker engine partition) = refl
no_call (Look worker engine partition) = refl
no_call (Heads worker partition) = refl
no_call (Admit worker partition seen) = refl
no_call (Finish worker) = refl

no_worker : (m : Machine) (event : Event) → nat_lt (worker_of event) m.split.engines ≡ false → calls_of event (reply m event) ≡ []
no_worker m event none =
    ap (calls_of event) (cond-false (is_timely m event) (answer m.object event) NotNow (not_timely m event (and_false (nat_lt (worker_of event) m.split.engines) (not (m.finished (worker_of event))) none)))
    ∙ no_call event

module _ (rules : Rules) (IsSum : ℕ → Type 0) (laws : GatherLaws rules IsSum) where
  records_sums : (chunks : Shelf Update) → AreSums IsSum chunks → (cursor place vertex : ℕ) → All IsSum (values_to vertex (records_at chunks cursor place))
  records_sums chunks sums cursor place vertex =
      values_are_sums IsSum vertex (records_at chunks cursor place)
      (records_all (λ k records. All (λ (u : Update). IsSum u.value) records) chunks sums cursor place (All-nil (λ (u : Update). IsSum u.value)))

  taken_sums : (m : Machine) → AreSums IsSum m.chunks → (vertex : ℕ) (calls : List Call) → All IsSum (values_in rules m vertex calls)
  taken_sums m sums vertex calls =
      subst (All IsSum) (sym (values_of_records (records_at m.chunks) vertex (taken calls)))
      (all_taken rules.unit rules.merge IsSum laws.merging (λ chunk. values_to vertex (records_at m.chunks chunk.0 chunk.1)) (λ chunk. records_sums m.chunks sums chunk.0 chunk.1 vertex) (taken calls))

  abbrev pub merged : List ℕ → ℕ
  merged = fold rules.merge rules.unit

  with_unit : (s : ℕ) → IsSum s → rules.merge s rules.unit ≡ s
  with_unit s is = laws.merging.commutes s rules.unit is laws.merging.unit_is_sum ∙ laws.merging.neutral s is

  -- every sum of every worker is a sum of the program
  abbrev pub HasSums : Machine → Type 0
  HasSums m = (worker vertex : ℕ) → IsSum (m.sums worker vertex)

  sums_step : (m : Machine) (event : Event) (r : Reply) → AreSums IsSum m.chunks → HasSums m → HasSums (after_reply rules m event r)
  sums_step m event r sums has worker vertex =
      let own : List Call = if worker == worker_of event then calls_of event r else [] in
      let all : All IsSum (values_in rules m vertex own) = taken_sums m sums vertex own in
      subst IsSum (sym (sum_after rules m event r worker vertex (worker == worker_of event) refl
      ∙ folded_merge rules.unit rules.merge IsSum laws.merging rules.fold laws.folding (m.sums worker vertex) (values_in rules m vertex own) (has worker vertex) all))
      (laws.merging.merge_is_sum (m.sums worker vertex) (merged (values_in rules m vertex own)) (has worker vertex) (merged_is_sum rules.unit rules.merge IsSum laws.merging (values_in rules m vertex own) all))

  module _ (m : Machine) (event : Event) (vertex : ℕ) (sums : AreSums IsSum m.chunks) (has : HasSums m) where
    abbrev calls : List Call
    calls = calls_of event (reply m event)

    taken_here : All IsSum (values_in rules m vertex calls)
    taken_here = taken_sums m sums vertex calls

    abbrev raise : ℕ
    raise = merged (values_in rules m vertex calls)

    is_raise : IsSum raise
    is_raise = merged_is_sum rules.unit rules.merge IsSum laws.merging (values_in rules m vertex calls) taken_here

    raised : (worker : ℕ) (own : Bool) → worker == worker_of event ≡ own → (stepped rules m event).sums worker vertex ≡ (if own then rules.merge (m.sums worker vertex) raise else m.sums worker vertex)
    raised worker true test =
        sum_after rules m event (reply m event) worker vertex true test
        ∙ folded_merge rules.unit rules.merge IsSum laws.merging rules.fold laws.folding (m.sums worker vertex) (values_in rules m vertex calls) (has worker vertex) taken_here
    raised worker false test = sum_after rules m event (reply m event) worker vertex false test

    by_worker : (there : Bool) → nat_lt (worker_of event) m.split.engines ≡ there →
        (if there then rules.merge (merged_at rules m vertex) raise else merged_at rules m vertex) ≡ rules.merge (merged_at rules m vertex) raise
    by_worker true is = refl
    by_worker false is =
        sym (ap (λ l. rules.merge (merged_at rules m vertex) (merged (values_in rules m vertex l))) (no_worker m event is)
        ∙ with_unit (merged_at rules m vertex) (merged_sums rules.unit rules.merge IsSum laws.merging (λ worker. m.sums worker vertex) (λ worker. has worker vertex) m.split.engines))

    -- the merge of all sums after an event
    merged_step : merged_at rules (stepped rules m event) vertex ≡ rules.merge (merged_at rules m vertex) raise
    merged_step =
        ap (λ (split : Split). merged (map (λ worker. (stepped rules m event).sums worker vertex) (range_with_len 0 split.engines))) (split_kept rules m event (reply m event))
        ∙ merged_raised rules.unit rules.merge IsSum laws.merging (λ worker. m.sums worker vertex) (λ worker. (stepped rules m event).sums worker vertex) (worker_of event) raise
        (λ worker. has worker vertex) is_raise (λ worker. raised worker (worker == worker_of event) refl) m.split.engines
        ∙ by_worker (nat_lt (worker_of event) m.split.engines) refl

  -- **The merge of all sums after any events is the merge of those before and of all that was taken.**
  merged_run : (m : Machine) (events : List Event) (vertex : ℕ) → AreSums IsSum m.chunks → HasSums m →
      merged_at rules (ran rules m events) vertex ≡ rules.merge (merged_at rules m vertex) (merged (values_in rules m vertex (all_calls rules m events)))
  merged_run m [] vertex sums has = sym (with_unit (merged_at rules m vertex) (merged_sums rules.unit rules.merge IsSum laws.merging (λ worker. m.sums worker vertex) (λ worker. has worker vertex) m.split.engines))
  merged_run m (event ∷ events) vertex sums has =
      let r : Reply = reply m event in
      let next : Machine = stepped rules m event in
      let now : List Call = calls_of event r in
      let later : List Call = all_calls rules next events in
      let next_sums : AreSums IsSum next.chunks = subst (AreSums IsSum) (sym (chunks_kept rules m event r)) sums in
      let same : values_in rules next vertex later ≡ values_in rules m vertex later = ap (λ chunks. values_to vertex (records_taken (records_at chunks) later)) (chunks_kept rules m event r) in
      let is_now = merged_is_sum rules.unit rules.merge IsSum laws.merging (values_in rules m vertex now) (taken_sums m sums vertex now) in
      let is_later = merged_is_sum rules.unit rules.merge IsSum laws.merging (values_in rules m vertex later) (taken_sums m sums vertex later) in
      let is_before = merged_sums rules.unit rules.merge IsSum laws.merging (λ worker. m.sums worker vertex) (λ worker. has worker vertex) m.split.engines in
      merged_run next events vertex next_sums (sums_step m event r sums has)
      ∙ ap (λ l. rules.merge (merged_at rules next vertex) (merged l)) same
      ∙ ap (λ s. rules.merge s (merged (values_in rules m vertex later))) (merged_step m event vertex sums has)
      ∙ laws.merging.associates (merged_at rules m vertex) (merged (values_in rules m vertex now)) (merged (values_in rules m vertex later)) is_before is_now is_later
      ∙ ap (rules.merge (merged_at rules m vertex))
      (sym (ap merged (values_in-append rules m vertex now later) ∙ merged-append rules.unit rules.merge IsSum laws.merging (values_in rules m vertex now) (values_in rules m vertex later)
      (taken_sums m sums vertex now) (taken_sums m sums vertex later)))

  -- from the start, the merge of all that was taken
  pub merged_fresh : (split : Split) (chunks : Shelf Update) (events : List Event) (vertex : ℕ) → AreSums IsSum chunks →
      merged_at rules (ran rules (fresh split rules.unit chunks) events) vertex ≡ merged (values_to vertex (records_taken (records_at chunks) (all_calls rules (fresh split rules.unit chunks) events)))
  merged_fresh split chunks events vertex sums =
      let m : Machine = fresh split rules.unit chunks in
      let all : List Call = all_calls rules m events in
      merged_run m events vertex sums (λ worker vertex. laws.merging.unit_is_sum)
      ∙ ap (λ s. rules.merge s (merged (values_in rules m vertex all))) (merged_units rules.unit rules.merge IsSum laws.merging split.engines)
      ∙ laws.merging.neutral (merged (values_in rules m vertex all)) (merged_is_sum rules.unit rules.merge IsSum laws.merging (values_in rules m vertex all) (taken_sums m sums vertex all))
