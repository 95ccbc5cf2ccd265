-- The seats after a split and after a join.
use Rattle.std.proofs.Common.{◌≡◌, ◌≢◌, ℕ, zero, suc, ◌<◌, true, false, eqb, List, [], ◌∷◌, ◌++◌, length, set, refl, ap, sym, ◌∙◌, subst, inl, inr, ◌⊎◌, ⊎_elim, arith, ne_eqb}
use Rattle.std.specs.List.{filter}
use Rattle.std.proofs.lemmas.Bool.{cases_eq, eqb-true, false≢true}
use Rattle.std.proofs.lemmas.List.{append-nil, length-set, length_push, get_or-set_same, get_or-set_other}
use Rattle.std.proofs.lemmas.List.Elements.{filter-append}
use mathlib.Core.Option.{some, some-injective, some-ne-none}
use lib.ListN.{get_elem?}
use Rattle.atomic_table.proofs.Lists.{at_set, set_here, set_else, at_longer}
use Rattle.chunk_object.specs.declared.call.Call.TheVariants.{Split, Join}
use Rattle.chunk_object.specs.declared.call.Entry.{Entry}
use Rattle.chunk_object.specs.History.{living, gone, stages, entries_of, bears_on, final, no_epoch, epoch_step, epoch_of}
use Rattle.chunk_object.proofs.Histories.{put_at_here, put_at_else, filter_both, filter_left, filter-filter, filter_apart}
use Rattle.chunk_object.proofs.Pushes.{stages_push, entries_pass, bears_pass, epoch_push}
use Rattle.chunk_cursor.specs.declared.view.View.{View}
use Rattle.chunk_cursor.specs.View.{entry, out_at, nobody, after_split, split_off, after_join}
use Rattle.chunk_cursor.specs.Rule.{IsSeated, IsBack, AreSeated}

-- an element of a list with one more
at_new : {X : Type 0} (l : List X) (a b : X) (j : ℕ) → get_elem? (l ++ a ∷ []) j ≡ some b → (get_elem? l j ≡ some b) ⊎ ((j ≡ length l) × (a ≡ b))
at_new [] a b zero e = inr (refl, some-injective a b e)
at_new [] a b (suc j) e = absurd (some-ne-none b (sym e))
at_new (x ∷ l) a b zero e = inl e
at_new (x ∷ l) a b (suc j) e = ⊎_elim (λ before. inl before) (λ last. inr (ap suc last.0, last.1)) (at_new l a b j e)

module _ (h : List Entry) (first : View) (views : List View) (seats : AreSeated h first views) where
  -- no seat that is out is numbered beyond the splits
  later_is_back : (serial : ℕ) → first.splits < serial → IsBack first serial
  later_is_back serial later worker e = absurd (omega (arith, seats.outs worker, e))

  -- a seat for the number n is split off
  module _ (n : ℕ) (below : n < 8) (none : out_at first n ≡ 0) where
    abbrev parting : Entry
    parting = entry first (Split (suc first.splits) n)

    out_here : out_at (after_split n first) n ≡ suc first.splits
    out_here = get_or-set_same first.out n (suc first.splits) 0 (omega (arith, seats.workers))

    out_else : (worker : ℕ) → worker ≢ n → out_at (after_split n first) worker ≡ out_at first worker
    out_else worker ne = get_or-set_other first.out n worker (suc first.splits) 0 ne

    split_back : (serial : ℕ) → IsBack (after_split n first) serial → IsBack first serial
    split_back serial back worker e = ⊎_elim
        (λ same. sym e ∙ (ap (out_at first) same ∙ none))
        (λ ne. back worker (out_else worker ne ∙ e))
        (cases_eq worker n)

    split_calls : (serial : ℕ) → IsBack first serial → entries_of serial (h ++ parting ∷ []) ≡ entries_of serial (first.story ++ parting ∷ [])
    split_calls serial back = filter_both (λ e. eqb e.serial serial) h first.story (parting ∷ []) (seats.calls serial back)

    split_stage : (serial : ℕ) → serial ≢ suc first.splits → stages (h ++ parting ∷ []) serial ≡ stages h serial
    split_stage serial ne = ap (λ f. f serial) (stages_push h parting) ∙ put_at_else (suc first.splits) living (stages h) serial ne

    seated_old : (j : ℕ) (u : View) → IsSeated h first j u → j ≢ 0 → IsSeated (h ++ parting ∷ []) (after_split n first) j u
    seated_old j u s ne =
        let apart : first.serial ≢ j = λ e. ne (sym e ∙ seats.number.0) in
        let other : first.worker ≢ u.worker = λ e. omega (arith, e, seats.number.1, s.worker) in
        let epoch = epoch_push h parting seats.number.0 in record {
          serial = s.serial;
          worker = s.worker;
          known = out_else u.worker (λ e. ne (sym s.known ∙ (ap (out_at first) e ∙ none))) ∙ s.known;
          calls = entries_pass h parting j apart ∙ s.calls;
          bears = bears_pass h parting u.worker refl other ∙ s.bears;
          held = bears_pass first.story parting u.worker refl other ∙ s.held;
          lives = split_stage j (λ e. omega (arith, e, seats.outs u.worker, s.known)) ∙ s.lives;
          apart = entries_pass first.story parting j apart ∙ s.apart;
          quiet = s.quiet;
          engines = s.engines ∙ ap (λ t. t.engines) (sym epoch);
          greeted = s.greeted ∙ ap (λ t. t.greeted) (sym epoch);
          is_split = ap (λ t. t.is_split) epoch;
        }

    seated_new : IsSeated (h ++ parting ∷ []) (after_split n first) (suc first.splits) (split_off n first)
    seated_new =
        let apart : first.serial ≢ suc first.splits = λ e. omega (arith, e, seats.number.0) in
        let later : first.splits < suc first.splits = omega arith in
        let same : epoch_of (first.story ++ parting ∷ []) ≡ epoch_of (h ++ parting ∷ []) = ap (final epoch_step no_epoch) (sym (split_calls 0 (λ worker e. refl))) in record {
          serial = refl;
          worker = below;
          known = out_here;
          calls = entries_pass h parting (suc first.splits) apart ∙ seats.none_later (suc first.splits) later;
          bears = filter_both (bears_on n) h first.story (parting ∷ []) (seats.bears n none) ∙ ap (filter (bears_on n)) (sym (append-nil (first.story ++ parting ∷ [])));
          held = refl;
          lives = ap (λ f. f (suc first.splits)) (stages_push h parting) ∙ put_at_here (suc first.splits) living (stages h) (suc first.splits) refl;
          apart = entries_pass first.story parting (suc first.splits) apart ∙ (sym (seats.calls (suc first.splits) (later_is_back (suc first.splits) later)) ∙ seats.none_later (suc first.splits) later);
          quiet = λ worker other. refl;
          engines = ap (λ t. t.engines) same;
          greeted = ap (λ t. t.greeted) same;
          is_split = ap (λ t. t.is_split) (epoch_push h parting seats.number.0);
        }

    pub split_seats : AreSeated (h ++ parting ∷ []) (after_split n first) (set views 0 (after_split n first) ++ split_off n first ∷ [])
    split_seats = record {
      place = at_longer (set views 0 (after_split n first)) (split_off n first ∷ []) 0 _ (set_here views 0 (after_split n first) (omega (arith, seats.count)));
      number = seats.number;
      held = seats.held;
      lives = seats.lives;
      workers = length-set first.out n (suc first.splits) ∙ seats.workers;
      count = omega (arith, length_push (set views 0 (after_split n first)) (split_off n first), length-set views 0 (after_split n first), seats.count);
      outs = λ worker. ⊎_elim
          (λ same. omega (arith, ap (out_at (after_split n first)) same, out_here))
          (λ ne. omega (arith, out_else worker ne, seats.outs worker))
          (cases_eq worker n);
      calls = λ serial back. split_calls serial (split_back serial back);
      none_later = λ serial later. entries_pass h parting serial (λ e. omega (arith, e, seats.number.0)) ∙ seats.none_later serial (omega arith);
      unborn_later = λ serial later. split_stage serial (λ e. omega arith) ∙ seats.unborn_later serial (omega arith);
      bears = λ worker out. filter_both (bears_on worker) h first.story (parting ∷ [])
          (seats.bears worker (⊎_elim (λ same. ap (out_at first) same ∙ none) (λ ne. sym (out_else worker ne) ∙ out) (cases_eq worker n)));
      seated = λ j u at ne alive. ⊎_elim
          (λ before. seated_old j u (seats.seated j u (sym (set_else views 0 j (after_split n first) ne) ∙ before) ne alive) ne)
          (λ last.
          let place : j ≡ suc first.splits = last.0 ∙ (length-set views 0 (after_split n first) ∙ seats.count) in
          subst (λ i. IsSeated (h ++ parting ∷ []) (after_split n first) i u) (sym place) (subst (IsSeated (h ++ parting ∷ []) (after_split n first) (suc first.splits)) last.1 seated_new))
          (at_new (set views 0 (after_split n first)) (split_off n first) u j at);
    }

  -- the seat u is joined
  module _ (id : ℕ) (u : View) (at : get_elem? views id ≡ some u) (alive : u.spent ≡ false) (ne : id ≢ 0) where
    abbrev return : Entry
    return = entry first (Join u.serial u.worker)

    s : IsSeated h first id u
    s = seats.seated id u at ne alive

    back_here : out_at (after_join first u) u.worker ≡ 0
    back_here = get_or-set_same first.out u.worker 0 0 (omega (arith, seats.workers, s.worker))

    back_else : (worker : ℕ) → worker ≢ u.worker → out_at (after_join first u) worker ≡ out_at first worker
    back_else worker other = get_or-set_other first.out u.worker worker 0 0 other

    -- the list of the seat that is joined has no calls of others
    list_apart : (serial : ℕ) → serial ≢ id → entries_of serial u.story ≡ []
    list_apart serial other = ap (entries_of serial) (sym s.calls) ∙ filter_apart (λ e. eqb e.serial serial) (λ e. eqb e.serial id) apart h
      where
        apart : (e : Entry) → eqb e.serial id ≡ true → eqb e.serial serial ≡ false
        apart e own = ne_eqb e.serial serial (λ same. other (sym same ∙ eqb-true e.serial id own))

    list_own : entries_of id h ≡ entries_of id (first.story ++ u.story)
    list_own =
        sym (filter-filter (λ e. eqb e.serial id) h)
        ∙ (ap (entries_of id) s.calls ∙ sym (filter-append (λ e. eqb e.serial id) first.story u.story ∙ ap (λ l. l ++ entries_of id u.story) s.apart))

    list_other : (serial : ℕ) → serial ≢ id → IsBack (after_join first u) serial → entries_of serial h ≡ entries_of serial (first.story ++ u.story)
    list_other serial other back = seats.calls serial is_back ∙ sym (filter_left (λ e. eqb e.serial serial) first.story u.story (list_apart serial other))
      where
        is_back : IsBack first serial
        is_back worker e = ⊎_elim
            (λ same. absurd (other (sym e ∙ (ap (out_at first) same ∙ s.known))))
            (λ apart. back worker (back_else worker apart ∙ e))
            (cases_eq worker u.worker)

    join_stage : (serial : ℕ) → serial ≢ id → stages (h ++ return ∷ []) serial ≡ stages h serial
    join_stage serial other = ap (λ f. f serial) (stages_push h return) ∙ put_at_else u.serial gone (stages h) serial (λ e. other (e ∙ s.serial))

    join_bears : (worker : ℕ) → out_at (after_join first u) worker ≡ 0 → filter (bears_on worker) h ≡ filter (bears_on worker) (first.story ++ u.story)
    join_bears worker out = ⊎_elim
        (λ same. subst (λ w. filter (bears_on w) h ≡ filter (bears_on w) (first.story ++ u.story)) (sym same) (s.bears ∙ sym (filter_both (bears_on u.worker) first.story u.held u.story s.held)))
        (λ other. seats.bears worker (sym (back_else worker other) ∙ out) ∙ sym (filter_left (bears_on worker) first.story u.story (s.quiet worker other)))
        (cases_eq worker u.worker)

    seated_still : (j : ℕ) (w : View) → IsSeated h first j w → j ≢ 0 → j ≢ id → IsSeated (h ++ return ∷ []) (after_join first u) j w
    seated_still j w r more apart =
        let not_first : first.serial ≢ j = λ e. more (sym e ∙ seats.number.0) in
        let not_eight : first.worker ≢ w.worker = λ e. omega (arith, e, seats.number.1, r.worker) in
        let other : w.worker ≢ u.worker = λ e. apart (sym r.known ∙ (ap (out_at first) e ∙ s.known)) in
        let epoch = epoch_push h return seats.number.0 in record {
          serial = r.serial;
          worker = r.worker;
          known = back_else w.worker other ∙ r.known;
          calls = entries_pass h return j not_first ∙ r.calls;
          bears = bears_pass h return w.worker refl not_eight ∙ r.bears;
          held = bears_pass (first.story ++ u.story) return w.worker refl not_eight ∙ (filter_left (bears_on w.worker) first.story u.story (s.quiet w.worker other) ∙ r.held);
          lives = join_stage j apart ∙ r.lives;
          apart = entries_pass (first.story ++ u.story) return j not_first ∙ (filter_left (λ e. eqb e.serial j) first.story u.story (list_apart j apart) ∙ r.apart);
          quiet = r.quiet;
          engines = r.engines ∙ ap (λ t. t.engines) (sym epoch);
          greeted = r.greeted ∙ ap (λ t. t.greeted) (sym epoch);
          is_split = ap (λ t. t.is_split) epoch ∙ r.is_split;
        }

    pub join_seats : AreSeated (h ++ return ∷ []) (after_join first u) (set (set views 0 (after_join first u)) id nobody)
    join_seats = record {
      place = set_else (set views 0 (after_join first u)) id 0 nobody (λ e. ne (sym e)) ∙ set_here views 0 (after_join first u) (omega (arith, seats.count));
      number = seats.number;
      held = seats.held;
      lives = seats.lives;
      workers = length-set first.out u.worker 0 ∙ seats.workers;
      count = length-set (set views 0 (after_join first u)) id nobody ∙ (length-set views 0 (after_join first u) ∙ seats.count);
      outs = λ worker. ⊎_elim
          (λ same. omega (arith, ap (out_at (after_join first u)) same, back_here))
          (λ other. omega (arith, back_else worker other, seats.outs worker))
          (cases_eq worker u.worker);
      calls = λ serial back. filter_both (λ e. eqb e.serial serial) h (first.story ++ u.story) (return ∷ [])
          (⊎_elim (λ own. subst (λ t. entries_of t h ≡ entries_of t (first.story ++ u.story)) (sym own) list_own) (λ other. list_other serial other back) (cases_eq serial id));
      none_later = λ serial later. entries_pass h return serial (λ e. omega (arith, e, seats.number.0)) ∙ seats.none_later serial later;
      unborn_later = λ serial later. join_stage serial (λ e. omega (arith, e, seats.outs u.worker, s.known)) ∙ seats.unborn_later serial later;
      bears = λ worker out. filter_both (bears_on worker) h (first.story ++ u.story) (return ∷ []) (join_bears worker out);
      seated = λ j w there more lively. ⊎_elim
          (λ same. absurd (false≢true (sym (ap (λ (v : View). v.spent) same.1 ∙ lively))))
          (λ else. seated_still j w (seats.seated j w (sym (set_else views 0 j (after_join first u) more) ∙ else.1) more lively) more else.0)
          (at_set (set views 0 (after_join first u)) id j nobody w there);
    }
