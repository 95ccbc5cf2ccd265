-- Each kind of step keeps the rule, and tells what it is to tell.
use Rattle.std.proofs.Common.{◌≡◌, ◌≢◌, ℕ, suc, ◌+◌, ◌-◌, ◌*◌, ◌/◌, ◌%◌, ◌^◌, ◌<◌, ◌≤◌, true, false, eqb, List, [], ◌∷◌, ◌++◌, get_or, set, refl, ap, sym, ◌∙◌, subst, ⊎_elim, arith}
use Rattle.std.specs.List.{All, filter}
use Rattle.std.proofs.lemmas.Bool.{cases_eq, cases_lt, cond-true, cond-false, eq-eqb, ne_eqb, false≢true, lt-ltb, le-ltb}
use Rattle.std.proofs.lemmas.List.{set-get_or}
use Rattle.std.proofs.lemmas.Nat.{div-mul-add, mod-mul-add}
use Rattle.std.proofs.Math.Nat.{mod-eq_of_lt}
use Rattle.std.proofs.lemmas.List.Elements.{All-weaker}
use mathlib.Core.Option.{some}
use prog.Atomic.{either}
use lib.ListN.{get_elem?}
use Rattle.atomic_table.specs.Table.{State}
use Rattle.atomic_table.proofs.Lists.{set_again}
use Rattle.chunk_object.specs.declared.call.Call.{Call}
use Rattle.chunk_object.specs.declared.call.Call.TheVariants.{Open, Greet, Took, Exhausted, Look, Heads, Admitted, Contended}
use Rattle.chunk_object.specs.declared.call.Entry.{Entry}
use Rattle.chunk_object.specs.History.{living, stages, object_after, sets_word, IsCaller, bears_on, exhausts, opens, refusals, refusals_of, admissions_of, opened_len, total, engine_count, epoch_of, most_chunks, IsHistory}
use Rattle.chunk_object.proofs.Histories.{count_by_worker, total_small}
use Rattle.chunk_object.proofs.Legal.{next_le_len, next_is_len, len_is, taken_by_le_next}
use Rattle.chunk_object.proofs.Moves.{refusals_of_moves, admissions_of_moves, taken_by_moves, opened_len_moves}
use Rattle.chunk_cursor.specs.declared.view.View.{View}
use Rattle.chunk_cursor.specs.View.{entry, with_call, knows, IsFirst, IsAlone, MayClaim, MayAdmit, MayTake}
use Rattle.chunk_cursor.specs.Rule.{half, Shows, IsSeated, IsKept}
use Rattle.chunk_cursor.specs.Steps.{claim_at, admit_at, StandsIn, AllStandIn}
use Rattle.chunk_cursor.proofs.Helping.{few_engines, heads_below}
use Rattle.chunk_cursor.proofs.Growing.{IsPlain, open_grows, greet_grows, took_grows, exhausted_grows, look_grows, heads_grows, admitted_grows, contended_grows}
use Rattle.chunk_cursor.proofs.Words.{open_shows, greet_shows, took_shows, exhausted_shows, look_shows, heads_shows, admitted_shows, contended_shows}
use Rattle.chunk_cursor.proofs.Seatings.{seat_at_zero, seat_serial, seat_small, seat_lives, seat_bears, seat_calls, call_any}

abbrev pub Table : Type 0
Table = State (Unit {0}) View

module _ (s : Table) (k : IsKept s) (id : ℕ) (v : View) (at : get_elem? s.views id ≡ some v) (alive : v.spent ≡ false) where
  abbrev after_step : Call → List ℕ → Table
  after_step c words = record { words = words; homes = s.homes; views = set s.views id (with_call v c) }

  keeps_call : (c : Call) → IsPlain c → (sets_word c ≡ true → IsAlone v) → IsHistory (k.history ++ entry v c ∷ []) → (words : List ℕ) → Shows words (k.history ++ entry v c ∷ []) → IsKept (after_step c words)
  keeps_call c plain alone is words shows =
      let seats = call_any k.history k.first s.views k.seats id v at alive c plain alone in
      record { history = k.history ++ entry v c ∷ []; first = seats.0; is = is; shows = shows; seats = seats.1 }

  small : v.worker ≤ 8
  small = seat_small k.history k.first s.views k.seats id v at alive

  lives : v.serial ≢ 0 → stages k.history v.serial ≡ living
  lives = seat_lives k.history k.first s.views k.seats id v at alive

  pub keeps_open : (cursor len : ℕ) → cursor < 512 → len ≤ most_chunks → IsAlone v → IsKept (after_step (Open cursor len) (set s.words cursor (len * half)))
  keeps_open cursor len below few alone =
      keeps_call (Open cursor len) tt (λ sets. alone) (open_grows k.history k.is v.serial v.worker lives small cursor len alone.first.0 few) _ (open_shows s.words k.history k.shows v.serial v.worker cursor len below)

  pub keeps_greet : (p : ℕ) → p < 64 → IsAlone v → IsKept (after_step (Greet p) (set s.words (512 + p) 1))
  keeps_greet p below alone =
      keeps_call (Greet p) tt (λ sets. alone) (greet_grows k.history k.is v.serial v.worker lives small p alone.first.0) _ (greet_shows s.words k.history k.shows v.serial v.worker p below)

  -- all that bears on the seat's worker stands in the history as the seat knows it
  bears : filter (bears_on v.worker) k.history ≡ filter (bears_on v.worker) (knows v)
  bears = seat_bears k.history k.first s.views k.seats id v at alive

  module _ (cursor : ℕ) (below : cursor < 512) where
    abbrev word : ℕ
    word = get_or s.words cursor 0

    abbrev len : ℕ
    len = (object_after k.history).len cursor

    abbrev next : ℕ
    next = (object_after k.history).next cursor

    abbrev refused : ℕ
    refused = refusals cursor k.history

    refused_small : refused ≤ 9
    refused_small =
        let callers : All (λ e. e.worker < 9) k.history = All-weaker IsCaller (λ (e : Entry). e.worker < 9) (λ e c. let w = c.0 in omega (arith, w)) k.history k.is.callers in
        subst (λ n. n ≤ 9) (sym (count_by_worker (λ e. opens cursor e.call) (λ e. exhausts cursor e.call) 9 0 (λ n. 0) k.history callers refl))
        (total_small 9 (λ worker. refusals_of worker cursor k.history) (λ worker. k.is.refused_once worker cursor))

    next_small : next ≤ len
    next_small = next_le_len cursor k.history k.is.legal

    len_small : len ≤ most_chunks
    len_small = k.is.lens cursor

    -- where someone was refused, none is left
    none_left : 0 < refused → next ≡ len
    none_left = next_is_len cursor k.history k.is.legal

    high_is : word / half ≡ len
    high_is = ap (λ n. n / half) (k.shows.cursors cursor below) ∙ div-mul-add len half (next + refused) (omega (arith, refused_small, next_small, len_small))

    low_is : word % half ≡ next + refused
    low_is = ap (λ n. n % half) (k.shows.cursors cursor below) ∙ mod-mul-add len half (next + refused) (omega (arith, refused_small, next_small, len_small))

    added_is : (word + 1) % 2 ^ 64 ≡ word + 1
    added_is = mod-eq_of_lt (omega (arith, k.shows.cursors cursor below, refused_small, next_small, len_small))

    pub opened_is : word / half ≡ opened_len cursor (knows v)
    opened_is = high_is ∙ (len_is cursor k.history ∙ opened_len_moves v.worker k.history (knows v) bears cursor)

    low_below : word % half < word / half → word % half ≡ next
    low_below less = ⊎_elim
        (λ some. absurd (omega (arith, none_left some, low_is, high_is)))
        (λ none. omega (arith, low_is))
        (cases_lt 0 refused)

    low_above : word / half ≤ word % half → len ≤ next
    low_above more = ⊎_elim
        (λ some. omega (arith, none_left some))
        (λ none. omega (arith, low_is, high_is))
        (cases_lt 0 refused)

    pub keeps_claim : MayClaim v cursor → IsKept (after_step (claim_at cursor word) (set s.words cursor ((word + 1) % 2 ^ 64)))
    keeps_claim may = subst (λ n. IsKept (after_step (claim_at cursor word) (set s.words cursor n))) (sym added_is) (⊎_elim
        (λ less.
        let call : claim_at cursor word ≡ Took cursor (word % half) = cond-true _ (Took cursor (word % half)) (Exhausted cursor) (lt-ltb _ _ less) in
        let given = low_below less in
        subst (λ c. IsKept (after_step c (set s.words cursor (word + 1)))) (sym call)
        (keeps_call (Took cursor (word % half)) tt (λ sets. absurd (false≢true sets))
        (took_grows k.history k.is v.serial v.worker lives small cursor (word % half) (given, subst (λ n. word % half < n) high_is less))
        _ (took_shows s.words k.history k.shows v.serial v.worker cursor (word % half) below given)))
        (λ more.
        let call : claim_at cursor word ≡ Exhausted cursor = cond-false _ (Took cursor (word % half)) (Exhausted cursor) (le-ltb _ _ more) in
        subst (λ c. IsKept (after_step c (set s.words cursor (word + 1)))) (sym call)
        (keeps_call (Exhausted cursor) tt (λ sets. absurd (false≢true sets))
        (exhausted_grows k.history k.is v.serial v.worker lives small cursor (low_above more) (refusals_of_moves v.worker k.history (knows v) bears cursor ∙ may))
        _ (exhausted_shows s.words k.history k.shows v.serial v.worker cursor below)))
        (cases_lt (word % half) (word / half)))

    pub may_take : word % half < word / half → MayTake v cursor (word % half)
    may_take less = (
      omega (arith, taken_by_moves v.worker k.history (knows v) bears cursor, taken_by_le_next v.worker cursor k.history k.is.legal, low_below less),
      subst (λ n. word % half < n) opened_is less,
    )

    pub keeps_look : IsKept (after_step (Look cursor (word / half - word % half)) (set s.words cursor word))
    keeps_look = subst (λ ws. IsKept (after_step (Look cursor (word / half - word % half)) ws)) (sym (set-get_or s.words cursor 0))
        (keeps_call (Look cursor (word / half - word % half)) tt (λ sets. absurd (false≢true sets))
        (look_grows k.history k.is v.serial v.worker lives small cursor (word / half - word % half) (⊎_elim
        (λ some. omega (arith, none_left some, low_is, high_is))
        (λ none. omega (arith, low_is, high_is))
        (cases_lt 0 refused)))
        _ (look_shows s.words k.history k.shows v.serial v.worker cursor (word / half - word % half)))

    pub len_most : word / half ≤ most_chunks
    len_most = omega (arith, high_is, len_small)

  module _ (p : ℕ) (below : p < 64) where
    abbrev helpers : ℕ
    helpers = get_or s.words (512 + p) 0

    helpers_is : helpers ≡ (object_after k.history).heads p
    helpers_is = k.shows.helpers p below

    pub keeps_heads : IsKept (after_step (Heads p helpers) (set s.words (512 + p) helpers))
    keeps_heads = subst (λ ws. IsKept (after_step (Heads p helpers) ws)) (sym (set-get_or s.words (512 + p) 0))
        (keeps_call (Heads p helpers) tt (λ sets. absurd (false≢true sets))
        (heads_grows k.history k.is v.serial v.worker lives small p helpers helpers_is)
        _ (heads_shows s.words k.history k.shows v.serial v.worker p helpers))

    module _ (may : MayAdmit v p) where
      not_first : id ≢ 0
      not_first zero = may.split (seat_serial k.history k.first s.views k.seats id v at alive ∙ zero)

      seated : IsSeated k.history k.first id v
      seated = k.seats.seated id v at not_first alive

      engines_are : engine_count (epoch_of v.held) ≡ engine_count (epoch_of k.history)
      engines_are = ap (total 8) seated.engines

      greeted_now : (epoch_of k.history).greeted p ≡ true
      greeted_now = ap (λ f. f p) (sym seated.greeted) ∙ may.greeted

      some_engine : 0 < engine_count (epoch_of k.history)
      some_engine = subst (λ n. 0 < n) engines_are may.opened

      no_master : v.worker ≢ p % engine_count (epoch_of k.history)
      no_master = subst (λ n. v.worker ≢ p % n) engines_are may.no_master

      fresh : admissions_of v.worker p k.history ≡ 0
      fresh = admissions_of_moves v.worker k.history (knows v) bears p ∙ may.once

      pub may_heads : (1 ≤ helpers) × (helpers ≤ 7)
      may_heads =
          let most = heads_below _ _ _ k.is.helped p v.worker greeted_now seated.is_split (few_engines k.history) seated.worker some_engine no_master fresh in
          (omega (arith, helpers_is, k.is.helped.counted p greeted_now), omega (arith, helpers_is, most))

      pub keeps_admit : (heads : ℕ) → IsKept (after_step (admit_at p heads helpers) (set s.words (512 + p) (either (eqb helpers heads) (heads + 1) helpers)))
      keeps_admit heads = ⊎_elim
          (λ same.
          let call : admit_at p heads helpers ≡ Admitted p heads = cond-true (eqb helpers heads) _ _ (eq-eqb helpers heads same) in
          let new : suc heads ≡ either (eqb helpers heads) (heads + 1) helpers = sym (ap (λ b. either b (heads + 1) helpers) (eq-eqb helpers heads same) ∙ omega arith) in
          subst (λ c. IsKept (after_step c (set s.words (512 + p) (either (eqb helpers heads) (heads + 1) helpers)))) (sym call)
          (subst (λ n. IsKept (after_step (Admitted p heads) (set s.words (512 + p) n))) new
          (keeps_call (Admitted p heads) tt (λ sets. absurd (false≢true sets))
          (admitted_grows k.history k.is v.serial v.worker lives small p heads (sym same ∙ helpers_is) greeted_now seated.is_split (few_engines k.history) seated.worker some_engine no_master fresh)
          _ (admitted_shows s.words k.history k.shows v.serial v.worker p heads below))))
          (λ other.
          let call : admit_at p heads helpers ≡ Contended p heads helpers = cond-false (eqb helpers heads) _ _ (ne_eqb helpers heads other) in
          let old : s.words ≡ set s.words (512 + p) (either (eqb helpers heads) (heads + 1) helpers) =
          sym (ap (λ b. set s.words (512 + p) (either b (heads + 1) helpers)) (ne_eqb helpers heads other) ∙ set-get_or s.words (512 + p) 0) in
          subst (λ c. IsKept (after_step c (set s.words (512 + p) (either (eqb helpers heads) (heads + 1) helpers)))) (sym call)
          (subst (λ ws. IsKept (after_step (Contended p heads helpers) ws)) old
          (keeps_call (Contended p heads helpers) tt (λ sets. absurd (false≢true sets))
          (contended_grows k.history k.is v.serial v.worker lives small p heads helpers (helpers_is, other))
          _ (contended_shows s.words k.history k.shows v.serial v.worker p heads helpers))))
          (cases_eq helpers heads)

  pub stands_in : StandsIn v
  stands_in = record { history = k.history; is = k.is; calls = seat_calls k.history k.first s.views k.seats id v at alive; bears = bears }

  pub all_stand_in : IsFirst v → AllStandIn v
  all_stand_in first =
      let zero : id ≡ 0 = sym (seat_serial k.history k.first s.views k.seats id v at alive) ∙ first.0 in
      let same : k.first ≡ v = sym (seat_at_zero k.history k.first s.views k.seats id v at alive zero) in
      subst AllStandIn same (record { history = k.history; is = k.is; calls = k.seats.calls; none_later = k.seats.none_later; bears = k.seats.bears })

  pub keeps_settle : IsKept (record { words = set s.words 0 (get_or s.words 0 0); homes = s.homes; views = set s.views id v })
  keeps_settle = subst IsKept (λ i. record { words = sym (set-get_or s.words 0 0) i; homes = s.homes; views = sym (set_again s.views id v at) i }) k
