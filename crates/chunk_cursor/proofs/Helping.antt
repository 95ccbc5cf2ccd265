-- What bounds the helper counts is kept by each call.
use Rattle.std.proofs.Common.{◌≡◌, ◌≢◌, ℕ, suc, ◌+◌, ◌/◌, ◌%◌, ◌<◌, ◌≤◌, ◌==◌, Bool, true, false, cond, ◌&&◌, eqb, List, [], ◌∷◌, refl, ap, sym, ◌∙◌, subst, ⊎_elim, arith, eq-eqb, ne_eqb, mod-lt}
use Rattle.std.proofs.lemmas.Bool.{cases_eq, cases_lt, cond-true, cond-false, cond_both, false≢true, and_left, and_right}
use Rattle.chunk_object.specs.declared.call.Call.{Call}
use Rattle.chunk_object.specs.declared.call.Call.TheVariants.{Open, Greet, Split}
use Rattle.chunk_object.specs.declared.call.Entry.{Entry}
use Rattle.chunk_object.specs.Object.{put_at}
use Rattle.chunk_object.specs.History.{final, entries_of, total, EpochSoFar, no_epoch, epoch_step, epoch_of, epoch_to_open, engine_count, engines_at_greet, engines_after, next_epoch, epoch_after, AreHelped}
use Rattle.chunk_object.proofs.Histories.{put_at_here, put_at_else, total_zero, total_same, total_small, total_one_more, total_apart}

-- an engine counts once
engines_step : (t : EpochSoFar) (c : Call) → ((engine : ℕ) → t.engines engine ≤ 1) → (engine : ℕ) → (epoch_after t c).engines engine ≤ 1
engines_step t (Open cursor len) once engine = cond_both (cursor % 64 == 0) _ _ (λ (f : ℕ → ℕ). f engine ≤ 1) (λ e. one_more) (λ e. before engine)
  where
    before : (engine : ℕ) → (epoch_to_open t).engines engine ≤ 1
    before engine = cond_both t.is_split (next_epoch t) t (λ (u : EpochSoFar). u.engines engine ≤ 1) (λ e. omega arith) (λ e. once engine)

    one_more : put_at (cursor / 64) 1 (epoch_to_open t).engines engine ≤ 1
    one_more = cond_both (engine == cursor / 64) 1 ((epoch_to_open t).engines engine) (λ n. n ≤ 1) (λ e. omega arith) (λ e. before engine)
engines_step t _ once engine = once engine

engines_run : (l : List Entry) (t : EpochSoFar) → ((engine : ℕ) → t.engines engine ≤ 1) → (engine : ℕ) → (final epoch_step t l).engines engine ≤ 1
engines_run [] t once engine = once engine
engines_run (e ∷ l) t once engine = engines_run l (epoch_after t e.call) (engines_step t e.call once) engine

pub few_engines : (l : List Entry) → engine_count (epoch_of l) ≤ 8
few_engines l = total_small 8 (epoch_of l).engines (engines_run (entries_of 0 l) no_epoch (λ engine. omega arith))

module _ (heads : ℕ → ℕ) (f : ℕ → ℕ → ℕ) (t : EpochSoFar) (are : AreHelped heads f t) where
  -- a greeted partition has no helper
  abbrev pub greeted_count : ℕ → ℕ → ℕ → ℕ
  greeted_count p worker q = cond (eqb p q) 0 (f worker q)

  count_here : (p worker q : ℕ) → q ≡ p → greeted_count p worker q ≡ 0
  count_here p worker q e = cond-true (eqb p q) 0 (f worker q) (eq-eqb p q (sym e))

  count_else : (p worker q : ℕ) → q ≢ p → greeted_count p worker q ≡ f worker q
  count_else p worker q ne = cond-false (eqb p q) 0 (f worker q) (ne_eqb p q (λ e. ne (sym e)))

  pub helped_greet : (p : ℕ) → AreHelped (put_at p 1 heads) (greeted_count p) (epoch_after t (Greet p))
  helped_greet p = record {
    counted = λ q h. ⊎_elim
        (λ e. put_at_here p 1 heads q e ∙ ap suc (sym (total_zero 8 _ (λ worker. count_here p worker q e))))
        (λ ne. put_at_else p 1 heads q ne ∙ (are.counted q (sym (put_at_else p true t.greeted q ne) ∙ h) ∙ ap suc (total_same 8 _ _ (λ worker. sym (count_else p worker q ne)))))
        (cases_eq q p);
    once = λ worker q. ⊎_elim
        (λ e. subst (λ n. n ≤ 1) (sym (count_here p worker q e)) (omega arith))
        (λ ne. subst (λ n. n ≤ 1) (sym (count_else p worker q ne)) (are.once worker q))
        (cases_eq q p);
    no_master = λ q h. ⊎_elim
        (λ e. count_here p _ q e)
        (λ ne.
        let same : engines_at_greet (epoch_after t (Greet p)) q ≡ engines_at_greet t q = ap (λ b. cond b (engine_count t) (t.past q)) (put_at_else p true t.greeted q ne) in
        count_else p _ q ne ∙ (ap (λ n. f (q % n) q) same ∙ are.no_master q (subst (λ n. 0 < n) same h)))
        (cases_eq q p);
    unsplit = λ unsplit worker q h. ⊎_elim
        (λ e. count_here p worker q e)
        (λ ne. count_else p worker q ne ∙ are.unsplit unsplit worker q (sym (put_at_else p true t.greeted q ne) ∙ h))
        (cases_eq q p);
  }

  pub helped_open : (cursor len : ℕ) → AreHelped heads f (epoch_after t (Open cursor len))
  helped_open cursor len = opened t.is_split refl
    where
      past_master : (engines : ℕ → ℕ) → t.is_split ≡ false → (p : ℕ) (b : Bool) → t.greeted p ≡ b → 0 < cond b (total 8 engines) (t.past p) → f (p % cond b (total 8 engines) (t.past p)) p ≡ 0
      past_master engines unsplit p true greeted h = are.unsplit unsplit _ p greeted
      past_master engines unsplit p false greeted h =
          let same : engines_at_greet t p ≡ t.past p = ap (λ b. cond b (engine_count t) (t.past p)) greeted in
          ap (λ n. f (p % n) p) (sym same) ∙ are.no_master p (subst (λ n. 0 < n) (sym same) h)

      opened : (b : Bool) → t.is_split ≡ b → AreHelped heads f (let u = cond b (next_epoch t) t in record { is_split = false; engines = engines_after cursor u.engines; greeted = u.greeted; past = u.past })
      opened true e = record {
        counted = λ p h. absurd (false≢true h);
        once = are.once;
        no_master = are.no_master;
        unsplit = λ unsplit worker p h. absurd (false≢true h);
      }
      opened false e = record {
        counted = are.counted;
        once = are.once;
        no_master = λ p h. past_master (engines_after cursor t.engines) e p (t.greeted p) refl h;
        unsplit = λ unsplit. are.unsplit e;
      }

  pub helped_split : (serial worker : ℕ) → AreHelped heads f (epoch_after t (Split serial worker))
  helped_split serial worker = record {
    counted = are.counted;
    once = are.once;
    no_master = are.no_master;
    unsplit = λ unsplit worker p h. absurd (false≢true (sym unsplit));
  }

  abbrev pub admitted_count : ℕ → ℕ → ℕ → ℕ → ℕ
  admitted_count p by worker q = cond (eqb p q && eqb by worker) (suc (f worker q)) (f worker q)

  -- one more is admitted where neither it nor the master was
  module _ (p by : ℕ) (greeted : t.greeted p ≡ true) (split : t.is_split ≡ true) (few : engine_count t ≤ 8) (small : by < 8) (some : 0 < engine_count t) (no_master : by ≢ p % engine_count t) (fresh : f by p ≡ 0) where
    added_here : (worker q : ℕ) → q ≡ p → worker ≡ by → admitted_count p by worker q ≡ 1
    added_here worker q e same =
        cond-true (eqb p q && eqb by worker) _ _ (ap (λ b. b && eqb by worker) (eq-eqb p q (sym e)) ∙ eq-eqb by worker (sym same))
        ∙ ap suc ((λ i. f (same i) (e i)) ∙ fresh)

    added_else : (worker q : ℕ) → q ≢ p → admitted_count p by worker q ≡ f worker q
    added_else worker q ne = cond-false (eqb p q && eqb by worker) _ _ (and_left (eqb p q) _ (ne_eqb p q (λ e. ne (sym e))))

    added_other : (worker q : ℕ) → worker ≢ by → admitted_count p by worker q ≡ f worker q
    added_other worker q ne = cond-false (eqb p q && eqb by worker) _ _ (and_right (eqb p q) _ (ne_eqb by worker (λ e. ne (sym e))))

    here_is : engines_at_greet t p ≡ engine_count t
    here_is = cond-true (t.greeted p) (engine_count t) (t.past p) greeted

    pub heads_below : heads p ≤ 7
    heads_below =
        let master : f (p % engine_count t) p ≡ 0 = ap (λ n. f (p % n) p) (sym here_is) ∙ are.no_master p (subst (λ n. 0 < n) (sym here_is) some) in
        let below : p % engine_count t < 8 = omega (arith, mod-lt p some) in
        let most : total 8 (λ worker. f worker p) + 2 ≤ 8 = ⊎_elim
        (λ lt. total_apart 8 (λ worker. f worker p) (λ worker. are.once worker p) by (p % engine_count t) lt below fresh master)
        (λ ge. total_apart 8 (λ worker. f worker p) (λ worker. are.once worker p) (p % engine_count t) by (omega arith) small master fresh)
        (cases_lt by (p % engine_count t)) in
        omega (arith, are.counted p greeted)

    pub helped_admit : AreHelped (put_at p (suc (heads p)) heads) (admitted_count p by) t
    helped_admit = record {
      counted = λ q h. ⊎_elim
          (λ e. put_at_here p _ heads q e ∙ ap suc (are.counted p greeted ∙ (sym (total_one_more 8 by (λ worker. f worker p) small) ∙ total_same 8 _ _ (λ worker. added_at worker q e))))
          (λ ne. put_at_else p _ heads q ne ∙ (are.counted q h ∙ ap suc (total_same 8 _ _ (λ worker. sym (added_else worker q ne)))))
          (cases_eq q p);
      once = λ worker q. ⊎_elim
          (λ same. ⊎_elim (λ e. subst (λ n. n ≤ 1) (sym (added_here worker q e same)) (omega arith)) (λ ne. subst (λ n. n ≤ 1) (sym (added_else worker q ne)) (are.once worker q)) (cases_eq q p))
          (λ other. subst (λ n. n ≤ 1) (sym (added_other worker q other)) (are.once worker q))
          (cases_eq worker by);
      no_master = λ q h. ⊎_elim
          (λ e. let n : engines_at_greet t q ≡ engine_count t = ap (engines_at_greet t) e ∙ here_is in
          added_other _ q (λ same. no_master (sym same ∙ (λ i. e i % n i))) ∙ are.no_master q h)
          (λ ne. added_else _ q ne ∙ are.no_master q h)
          (cases_eq q p);
      unsplit = λ unsplit. absurd (false≢true (sym unsplit ∙ split));
    }
      where
        added_at : (worker q : ℕ) → q ≡ p → cond (eqb by worker) (suc (f worker p)) (f worker p) ≡ admitted_count p by worker q
        added_at worker q e =
            ap (λ r. cond (eqb by worker) (suc (f worker r)) (f worker r)) (sym e)
            ∙ sym (ap (λ b. cond (b && eqb by worker) (suc (f worker q)) (f worker q)) (eq-eqb p q (sym e)))
