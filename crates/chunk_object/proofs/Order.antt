-- The calls of a caller stand behind its split and before its join.
use Rattle.std.proofs.Common.{◌≡◌, ◌≢◌, ℕ, Bool, true, false, eqb, List, [], ◌∷◌, ◌++◌, refl, ap, sym, ◌∙◌, subst, ⊎_elim}
use Rattle.std.specs.List.{filter}
use Rattle.std.proofs.lemmas.Bool.{cases_eq, cases_Bool, cond-true, cond-false, ne_eqb}
use Rattle.chunk_object.specs.declared.call.Call.{Call}
use Rattle.chunk_object.specs.declared.call.Call.TheVariants.{Split, Join}
use Rattle.chunk_object.specs.declared.call.Entry.{Entry}
use Rattle.chunk_object.specs.History.{Stage, unborn, living, gone, final, EachStep, Turns, stage_after, stage_step, MayStand, IsOrdered, stages, entries_of, IsCutAt, BeginsBehind, EndsBefore}
use Rattle.chunk_object.proofs.Histories.{put_at_here, put_at_else, EachStep-left, EachStep-right}

-- a list whose filtered list is cut at an element, cut there
record IsCut {X : Type 0} (p : X → Bool) (l xs : List X) (x : X) (ys : List X) : Type 0 where
  front : List X
  rest : List X
  is : l ≡ front ++ x ∷ rest
  before : filter p front ≡ xs
  behind : filter p rest ≡ ys

module _ {X : Type 0} (p : X → Bool) where
  kept : (y : X) (l : List X) → p y ≡ true → filter p (y ∷ l) ≡ y ∷ filter p l
  kept y l h = cond-true (p y) (y ∷ filter p l) (filter p l) h

  left : (y : X) (l : List X) → p y ≡ false → filter p (y ∷ l) ≡ filter p l
  left y l h = cond-false (p y) (y ∷ filter p l) (filter p l) h

  cut_here : (y x : X) (l xs ys : List X) → p y ≡ true → ((zs : List X) → filter p l ≡ zs ++ x ∷ ys → IsCut p l zs x ys) → (y ∷ filter p l) ≡ xs ++ x ∷ ys → IsCut p (y ∷ l) xs x ys
  cut_here y x l [] ys h later e = record { front = []; rest = l; is = cc (e); before = refl; behind = cc (e) }
  cut_here y x l (z ∷ xs) ys h later e =
      let c = later xs (cc (e)) in
      let same : y ≡ z = cc (e) in
      record { front = y ∷ c.front; rest = c.rest; is = ap (λ t. y ∷ t) c.is; before = kept y c.front h ∙ (λ i. same i ∷ c.before i); behind = c.behind }

  cut_at : (l xs : List X) (x : X) (ys : List X) → filter p l ≡ xs ++ x ∷ ys → IsCut p l xs x ys
  cut_at [] [] x ys e = absurd (cc (e))
  cut_at [] (z ∷ xs) x ys e = absurd (cc (e))
  cut_at (y ∷ l) xs x ys e = ⊎_elim
      (λ h. cut_here y x l xs ys h (λ zs. cut_at l zs x ys) (sym (kept y l h) ∙ e))
      (λ h.
      let c = cut_at l xs x ys (sym (left y l h) ∙ e) in
      record { front = y ∷ c.front; rest = c.rest; is = ap (λ t. y ∷ t) c.is; before = left y c.front h ∙ c.before; behind = c.behind })
      (cases_Bool (p y))

-- a caller that is not split off yet never was
was_unborn : (serial : ℕ) (stage : ℕ → Stage) (c : Call) → stage_after stage c serial ≡ unborn → stage serial ≡ unborn
was_unborn serial stage (Split new worker) e = ⊎_elim
    (λ same. absurd (cc (sym (put_at_here new living stage serial same) ∙ e)))
    (λ ne. sym (put_at_else new living stage serial ne) ∙ e)
    (cases_eq serial new)
was_unborn serial stage (Join old worker) e = ⊎_elim
    (λ same. absurd (cc (sym (put_at_here old gone stage serial same) ∙ e)))
    (λ ne. sym (put_at_else old gone stage serial ne) ∙ e)
    (cases_eq serial old)
was_unborn serial stage _ e = e

-- a caller that was joined stays so
stays_gone : (serial : ℕ) (stage : ℕ → Stage) (c : Call) → Turns stage c → stage serial ≡ gone → stage_after stage c serial ≡ gone
stays_gone serial stage (Split new worker) turns e = ⊎_elim
    (λ same. absurd (cc (sym e ∙ (ap stage same ∙ turns))))
    (λ ne. put_at_else new living stage serial ne ∙ e)
    (cases_eq serial new)
stays_gone serial stage (Join old worker) turns e = ⊎_elim
    (λ same. put_at_here old gone stage serial same)
    (λ ne. put_at_else old gone stage serial ne ∙ e)
    (cases_eq serial old)
stays_gone serial stage _ turns e = e

module _ (serial : ℕ) (other : serial ≢ 0) where
  begun_unborn : (stage : ℕ → Stage) (l : List Entry) → final stage_step stage l serial ≡ unborn → stage serial ≡ unborn
  begun_unborn stage [] e = e
  begun_unborn stage (x ∷ l) e = was_unborn serial stage x.call (begun_unborn (stage_after stage x.call) l e)

  own_lives : (stage : ℕ → Stage) (x : Entry) → MayStand stage x → x.serial ≡ serial → stage serial ≡ living
  own_lives stage x stands own = ap stage (sym own) ∙ stands.0 (λ zero. other (sym own ∙ zero))

  passes : (x : Entry) (l : List Entry) → (x.serial ≡ serial → ⊥) → entries_of serial l ≡ [] → entries_of serial (x ∷ l) ≡ []
  passes x l ne none = left (λ y. eqb y.serial serial) x l (ne_eqb x.serial serial ne) ∙ none

  none_before : (stage : ℕ → Stage) (l : List Entry) → EachStep stage_step MayStand stage l → final stage_step stage l serial ≡ unborn → entries_of serial l ≡ []
  none_before stage [] run e = refl
  none_before stage (x ∷ l) run e =
      passes x l
      (λ own. cc (sym (own_lives stage x run.0 own) ∙ begun_unborn stage (x ∷ l) e))
      (none_before (stage_after stage x.call) l run.1 e)

  none_after : (stage : ℕ → Stage) (l : List Entry) → EachStep stage_step MayStand stage l → stage serial ≡ gone → entries_of serial l ≡ []
  none_after stage [] run e = refl
  none_after stage (x ∷ l) run e =
      passes x l
      (λ own. cc (sym (own_lives stage x run.0 own) ∙ e))
      (none_after (stage_after stage x.call) l run.1 (stays_gone serial stage x.call run.0.1 e))

module _ (h : List Entry) (ordered : IsOrdered h) (xs : List Entry) (e : Entry) (ys : List Entry) (cut : entries_of 0 h ≡ xs ++ e ∷ ys) (serial worker : ℕ) (other : serial ≢ 0) where
  the_cut : IsCutAt h xs e ys
  the_cut = let c = cut_at (λ x. eqb x.serial 0) h xs e ys cut in record { front = c.front; rest = c.rest; is = c.is; first_before = c.before; first_behind = c.behind }

  run : EachStep stage_step MayStand (λ s. unborn) (the_cut.front ++ e ∷ the_cut.rest)
  run = subst IsOrdered the_cut.is ordered

  here : EachStep stage_step MayStand (stages the_cut.front) (e ∷ the_cut.rest)
  here = EachStep-right stage_step MayStand (λ s. unborn) the_cut.front (e ∷ the_cut.rest) run

  pub split_order : e.call ≡ Split serial worker → (at : IsCutAt h xs e ys) × BeginsBehind serial at
  split_order is =
      let fresh : stages the_cut.front serial ≡ unborn = subst (Turns (stages the_cut.front)) is here.0.1 in
      (the_cut, none_before serial other (λ s. unborn) the_cut.front (EachStep-left stage_step MayStand (λ s. unborn) the_cut.front (e ∷ the_cut.rest) run) fresh)

  pub join_order : e.call ≡ Join serial worker → (at : IsCutAt h xs e ys) × EndsBefore serial at
  join_order is =
      let over : stage_after (stages the_cut.front) e.call serial ≡ gone = ap (λ c. stage_after (stages the_cut.front) c serial) is ∙ put_at_here serial gone (stages the_cut.front) serial refl in
      (the_cut, none_after serial other (stage_after (stages the_cut.front) e.call) the_cut.rest here.1 over)
