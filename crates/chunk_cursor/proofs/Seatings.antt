-- The seats after a call that is no split or join.
use Rattle.std.proofs.Common.{◌≡◌, ◌≢◌, ℕ, ◌≤◌, true, false, eqb, List, [], ◌∷◌, ◌++◌, set, refl, ap, sym, ◌∙◌, subst, ⊎_elim, arith, append_assoc}
use Rattle.std.specs.List.{filter}
use Rattle.std.proofs.lemmas.Bool.{cases_eq, cases_Bool}
use Rattle.std.proofs.lemmas.List.{length-set, get_or_past}
use mathlib.Core.Option.{some, some-injective}
use lib.ListN.{get_elem?}
use Rattle.atomic_table.proofs.Lists.{at_set, set_here, set_else}
use Rattle.chunk_object.specs.declared.call.Call.{Call}
use Rattle.chunk_object.specs.declared.call.Entry.{Entry}
use Rattle.chunk_object.specs.History.{living, stages, entries_of, sets_word, bears_on, epoch_of}
use Rattle.chunk_object.proofs.Histories.{filter_both, filter-filter}
use Rattle.chunk_object.proofs.Pushes.{entries_push, entries_pass, bears_pass}
use Rattle.chunk_cursor.specs.declared.view.View.{View}
use Rattle.chunk_cursor.specs.View.{entry, with_call, knows, out_at, IsAlone}
use Rattle.chunk_cursor.specs.Rule.{IsSeated, IsBack, AreSeated}
use Rattle.chunk_cursor.proofs.Growing.{IsPlain, epoch_calm, stages_plain}

module _ (h : List Entry) (first : View) (views : List View) (seats : AreSeated h first views) where
  -- nobody but the first seat is split off for the number 8
  pub none_at_eight : out_at first 8 ≡ 0
  none_at_eight = get_or_past first.out 8 0 (omega (arith, seats.workers))

  pub first_is_back : IsBack first 0
  first_is_back worker e = refl

  module _ (id : ℕ) (v : View) (at : get_elem? views id ≡ some v) (alive : v.spent ≡ false) where
    pub seat_at_zero : id ≡ 0 → v ≡ first
    seat_at_zero zero = some-injective v first (sym at ∙ (ap (λ i. get_elem? views i) zero ∙ seats.place))

    pub seat_serial : v.serial ≡ id
    seat_serial = ⊎_elim (λ zero. ap (λ (u : View). u.serial) (seat_at_zero zero) ∙ (seats.number.0 ∙ sym zero)) (λ ne. (seats.seated id v at ne alive).serial) (cases_eq id 0)

    pub seat_small : v.worker ≤ 8
    seat_small = ⊎_elim
        (λ zero. let e : v.worker ≡ 8 = ap (λ (u : View). u.worker) (seat_at_zero zero) ∙ seats.number.1 in omega arith)
        (λ ne. let s = (seats.seated id v at ne alive).worker in omega (arith, s))
        (cases_eq id 0)

    pub seat_lives : v.serial ≢ 0 → stages h v.serial ≡ living
    seat_lives ne =
        let other : id ≢ 0 = λ zero. ne (seat_serial ∙ zero) in
        ap (stages h) seat_serial ∙ (seats.seated id v at other alive).lives

    -- what bears on a seat's worker stands in the history as the seat knows it
    pub seat_bears : filter (bears_on v.worker) h ≡ filter (bears_on v.worker) (knows v)
    seat_bears = ⊎_elim
        (λ zero. subst (λ (u : View). filter (bears_on u.worker) h ≡ filter (bears_on u.worker) (knows u)) (sym (seat_at_zero zero)) first_bears)
        (λ ne. (seats.seated id v at ne alive).bears)
        (cases_eq id 0)
      where
        first_bears : filter (bears_on first.worker) h ≡ filter (bears_on first.worker) (knows first)
        first_bears =
            seats.bears first.worker (ap (out_at first) seats.number.1 ∙ none_at_eight) ∙ ap (λ l. filter (bears_on first.worker) (l ++ first.story)) (sym seats.held)

    pub seat_calls : entries_of v.serial h ≡ entries_of v.serial v.story
    seat_calls = ⊎_elim
        (λ zero. subst (λ (u : View). entries_of u.serial h ≡ entries_of u.serial u.story) (sym (seat_at_zero zero))
        (subst (λ s. entries_of s h ≡ entries_of s first.story) (sym seats.number.0) (seats.calls 0 first_is_back)))
        (λ ne.
        let own = (seats.seated id v at ne alive).calls in
        ap (λ s. entries_of s h) seat_serial ∙ (sym (filter-filter (λ e. eqb e.serial id) h) ∙ (ap (entries_of id) own ∙ ap (λ s. entries_of s v.story) (sym seat_serial))))
        (cases_eq id 0)

  -- the first seat calls
  call_first : (c : Call) → IsPlain c → (sets_word c ≡ true → IsAlone first) → AreSeated (h ++ entry first c ∷ []) (with_call first c) (set views 0 (with_call first c))
  call_first c plain alone = record {
    place = set_here views 0 (with_call first c) (omega (arith, seats.count));
    number = seats.number;
    held = seats.held;
    lives = seats.lives;
    workers = seats.workers;
    count = length-set views 0 (with_call first c) ∙ seats.count;
    outs = seats.outs;
    calls = λ serial back. filter_both (λ e. eqb e.serial serial) h first.story (entry first c ∷ []) (seats.calls serial back);
    none_later = λ serial later. entries_pass h (entry first c) serial (λ e. omega (arith, e, seats.number.0)) ∙ seats.none_later serial later;
    unborn_later = λ serial later. ap (λ f. f serial) (stages_plain h (entry first c) plain) ∙ seats.unborn_later serial later;
    bears = λ worker none. filter_both (bears_on worker) h first.story (entry first c ∷ []) (seats.bears worker none);
    seated = λ id v at ne alive. seated_still id v (sym (set_else views 0 id (with_call first c) ne) ∙ at) ne alive;
  }
    where
      seated_still : (id : ℕ) (v : View) → get_elem? views id ≡ some v → id ≢ 0 → v.spent ≡ false → IsSeated (h ++ entry first c ∷ []) (with_call first c) id v
      seated_still id v at ne alive =
          let s = seats.seated id v at ne alive in
          let calm : sets_word c ≡ false = ⊎_elim (λ sets. absurd (ne (sym s.known ∙ (alone sets).none_out v.worker))) (λ calm. calm) (cases_Bool (sets_word c)) in
          let other : first.worker ≢ v.worker = λ e. omega (arith, e, seats.number.1, s.worker) in
          let apart : first.serial ≢ id = λ e. ne (sym e ∙ seats.number.0) in
          let epoch : epoch_of (h ++ entry first c ∷ []) ≡ epoch_of h = epoch_calm h (entry first c) plain calm in record {
            serial = s.serial;
            worker = s.worker;
            known = s.known;
            calls = entries_pass h (entry first c) id apart ∙ s.calls;
            bears = bears_pass h (entry first c) v.worker calm other ∙ s.bears;
            held = bears_pass first.story (entry first c) v.worker calm other ∙ s.held;
            lives = ap (λ f. f id) (stages_plain h (entry first c) plain) ∙ s.lives;
            apart = entries_pass first.story (entry first c) id apart ∙ s.apart;
            quiet = s.quiet;
            engines = s.engines ∙ ap (λ t. t.engines) (sym epoch);
            greeted = s.greeted ∙ ap (λ t. t.greeted) (sym epoch);
            is_split = ap (λ t. t.is_split) epoch ∙ s.is_split;
          }

  -- another seat calls
  call_other : (id : ℕ) (v : View) → get_elem? views id ≡ some v → v.spent ≡ false → id ≢ 0 → (c : Call) → IsPlain c → (sets_word c ≡ true → IsAlone v) → AreSeated (h ++ entry v c ∷ []) first (set views id (with_call v c))
  call_other id v at alive ne c plain alone = record {
    place = set_else views id 0 (with_call v c) (λ e. ne (sym e)) ∙ seats.place;
    number = seats.number;
    held = seats.held;
    lives = seats.lives;
    workers = seats.workers;
    count = length-set views id (with_call v c) ∙ seats.count;
    outs = seats.outs;
    calls = λ serial back. entries_pass h (entry v c) serial (λ e. ne (sym s.serial ∙ (e ∙ back v.worker (s.known ∙ (sym s.serial ∙ e))))) ∙ seats.calls serial back;
    none_later = λ serial later. entries_pass h (entry v c) serial (λ e. omega (arith, e, s.serial, s.known, seats.outs v.worker)) ∙ seats.none_later serial later;
    unborn_later = λ serial later. ap (λ f. f serial) (stages_plain h (entry v c) plain) ∙ seats.unborn_later serial later;
    bears = λ worker none. bears_pass h (entry v c) worker calm (λ e. ne (sym s.known ∙ (ap (out_at first) e ∙ none))) ∙ seats.bears worker none;
    seated = λ j u there other lively. ⊎_elim
        (λ same. subst (λ i. IsSeated (h ++ entry v c ∷ []) first i u) (sym same.0) (subst (IsSeated (h ++ entry v c ∷ []) first id) same.1 seated_here))
        (λ else. seated_else j u else.1 other lively else.0)
        (at_set views id j (with_call v c) u there);
  }
    where
      s : IsSeated h first id v
      s = seats.seated id v at ne alive

      calm : sets_word c ≡ false
      calm = ⊎_elim (λ sets. absurd (ne (sym s.serial ∙ (alone sets).first.0))) (λ calm. calm) (cases_Bool (sets_word c))

      epoch : epoch_of (h ++ entry v c ∷ []) ≡ epoch_of h
      epoch = epoch_calm h (entry v c) plain calm

      seated_here : IsSeated (h ++ entry v c ∷ []) first id (with_call v c)
      seated_here = record {
        serial = s.serial;
        worker = s.worker;
        known = s.known;
        calls = entries_push h (entry v c) id s.serial ∙ ap (λ l. l ++ entry v c ∷ []) s.calls;
        bears = filter_both (bears_on v.worker) h (knows v) (entry v c ∷ []) s.bears ∙ ap (filter (bears_on v.worker)) (append_assoc v.held v.story (entry v c ∷ []));
        held = s.held;
        lives = ap (λ f. f id) (stages_plain h (entry v c) plain) ∙ s.lives;
        apart = s.apart;
        quiet = λ worker other. bears_pass v.story (entry v c) worker calm (λ e. other (sym e)) ∙ s.quiet worker other;
        engines = s.engines ∙ ap (λ t. t.engines) (sym epoch);
        greeted = s.greeted ∙ ap (λ t. t.greeted) (sym epoch);
        is_split = ap (λ t. t.is_split) epoch ∙ s.is_split;
      }

      seated_else : (j : ℕ) (u : View) → get_elem? views j ≡ some u → j ≢ 0 → u.spent ≡ false → j ≢ id → IsSeated (h ++ entry v c ∷ []) first j u
      seated_else j u there other lively apart =
          let r = seats.seated j u there other lively in record {
            serial = r.serial;
            worker = r.worker;
            known = r.known;
            calls = entries_pass h (entry v c) j (λ e. apart (sym e ∙ s.serial)) ∙ r.calls;
            bears = bears_pass h (entry v c) u.worker calm (λ e. apart (sym r.known ∙ (ap (out_at first) (sym e) ∙ s.known))) ∙ r.bears;
            held = r.held;
            lives = ap (λ f. f j) (stages_plain h (entry v c) plain) ∙ r.lives;
            apart = r.apart;
            quiet = r.quiet;
            engines = r.engines ∙ ap (λ t. t.engines) (sym epoch);
            greeted = r.greeted ∙ ap (λ t. t.greeted) (sym epoch);
            is_split = ap (λ t. t.is_split) epoch ∙ r.is_split;
          }

  -- any seat calls
  pub call_any : (id : ℕ) (v : View) → get_elem? views id ≡ some v → v.spent ≡ false → (c : Call) → IsPlain c → (sets_word c ≡ true → IsAlone v) → (f : View) × AreSeated (h ++ entry v c ∷ []) f (set views id (with_call v c))
  call_any id v at alive c plain alone = ⊎_elim
      (λ zero.
      let same : v ≡ first = seat_at_zero id v at alive zero in
      let P : ℕ → View → Type 0 = λ i u. (f : View) × AreSeated (h ++ entry u c ∷ []) f (set views i (with_call u c)) in
      subst (λ i. P i v) (sym zero) (subst (P 0) (sym same) (with_call first c, call_first c plain (λ sets. subst IsAlone same (alone sets)))))
      (λ ne. (first, call_other id v at alive ne c plain alone))
      (cases_eq id 0)
