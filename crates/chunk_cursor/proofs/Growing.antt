-- A history stays one with one more call.
use Rattle.std.proofs.Common.{◌≡◌, ◌≢◌, ℕ, suc, ◌%◌, ◌<◌, ◌≤◌, true, false, cond, ◌&&◌, eqb, List, [], ◌∷◌, ◌++◌, refl, ap, sym, ◌∙◌, subst, ⊎_elim, arith}
use Rattle.std.proofs.lemmas.Bool.{cases_eq, cond_both, and_parts, eqb-true, false≢true}
use Rattle.std.proofs.lemmas.List.Elements.{All-push}
use Rattle.chunk_object.specs.declared.call.Call.{Call}
use Rattle.chunk_object.specs.declared.call.Call.TheVariants.{Open, Greet, Took, Exhausted, Look, Heads, Admitted, Contended, Split, Join}
use Rattle.chunk_object.specs.declared.call.Entry.{Entry}
use Rattle.chunk_object.specs.Object.{unopened, put_at, Answers, after}
use Rattle.chunk_object.specs.History.{Stage, unborn, living, object_step, IsAnswered, object_after, Turns, stage_after, stage_step, MayStand, stages, sets_word, IsCaller, opens, exhausts, refusals_of, greets, admits, admissions_of, EpochSoFar, engine_count, epoch_after, epoch_of, AreHelped, most_chunks, IsHistory}
use Rattle.chunk_object.proofs.Histories.{put_at_here, put_at_else, EachStep-push}
use Rattle.chunk_object.proofs.Pushes.{object_push, stages_push, refusals_of_push, admissions_of_push, epoch_push, epoch_pass}
use Rattle.chunk_cursor.proofs.Helping.{helped_greet, helped_open, helped_split, helped_admit}

-- a call that is no split or join
abbrev pub IsPlain : Call → Type 0
IsPlain (Split serial worker) = ⊥
IsPlain (Join serial worker) = ⊥
IsPlain _ = Unit {0}

pub turns_plain : (stage : ℕ → Stage) (c : Call) → IsPlain c → Turns stage c
turns_plain stage (Split serial worker) plain = absurd plain
turns_plain stage (Join serial worker) plain = absurd plain
turns_plain stage _ plain = tt

epoch_stays : (t : EpochSoFar) (c : Call) → IsPlain c → (sets_word c ≡ true → ⊥) → epoch_after t c ≡ t
epoch_stays t (Open cursor len) plain free = absurd (free refl)
epoch_stays t (Greet p) plain free = absurd (free refl)
epoch_stays t (Split serial worker) plain free = absurd plain
epoch_stays t _ plain free = refl

-- the epoch after a call that is no split or join, whoever made it
pub epoch_plain : (h : List Entry) (e : Entry) → IsPlain e.call → IsCaller e → epoch_of (h ++ e ∷ []) ≡ epoch_after (epoch_of h) e.call
epoch_plain h e plain caller = ⊎_elim
    (λ first. epoch_push h e first)
    (λ other. epoch_pass h e other ∙ sym (epoch_stays (epoch_of h) e.call plain (λ sets. other (caller.1 sets))))
    (cases_eq e.serial 0)

pub epoch_calm : (h : List Entry) (e : Entry) → IsPlain e.call → sets_word e.call ≡ false → epoch_of (h ++ e ∷ []) ≡ epoch_of h
epoch_calm h e plain calm = ⊎_elim
    (λ first. epoch_push h e first ∙ epoch_stays (epoch_of h) e.call plain (λ sets. false≢true (sym calm ∙ sets)))
    (λ other. epoch_pass h e other)
    (cases_eq e.serial 0)

stage_stays : (stage : ℕ → Stage) (c : Call) → IsPlain c → stage_after stage c ≡ stage
stage_stays stage (Split serial worker) plain = absurd plain
stage_stays stage (Join serial worker) plain = absurd plain
stage_stays stage _ plain = refl

pub stages_plain : (h : List Entry) (e : Entry) → IsPlain e.call → stages (h ++ e ∷ []) ≡ stages h
stages_plain h e plain = stages_push h e ∙ stage_stays (stages h) e.call plain

same_helped : (heads heads' : ℕ → ℕ) (f f' : ℕ → ℕ → ℕ) (t t' : EpochSoFar) → heads' ≡ heads → ((by p : ℕ) → f' by p ≡ f by p) → t' ≡ t → AreHelped heads f t → AreHelped heads' f' t'
same_helped heads heads' f f' t t' e g u are =
    subst (λ x. AreHelped heads' f' x) (sym u) (subst (λ x. AreHelped heads' x t) (λ i by p. sym (g by p) i) (subst (λ x. AreHelped x f t) (sym e) are))

module _ (h : List Entry) (is : IsHistory h) (serial worker : ℕ) (lives : serial ≢ 0 → stages h serial ≡ living) where
  abbrev pub at : Call → Entry
  at c = record { serial = serial; worker = worker; call = c }

  grows : (c : Call) → Answers (object_after h) c → Turns (stages h) c → IsCaller (at c) → ((cursor : ℕ) → (after (object_after h) c).len cursor ≤ most_chunks)
      → ((by cursor : ℕ) → cond (opens cursor c) 0 (cond (exhausts cursor c && eqb worker by) (suc (refusals_of by cursor h)) (refusals_of by cursor h)) ≤ 1)
      → (t : EpochSoFar) → epoch_of (h ++ at c ∷ []) ≡ t
      → AreHelped (after (object_after h) c).heads (λ by p. cond (greets p c) 0 (cond (admits p c && eqb worker by) (suc (admissions_of by p h)) (admissions_of by p h))) t
      → IsHistory (h ++ at c ∷ [])
  grows c answered turns caller lens refused t epoch helped = record {
    legal = EachStep-push object_step IsAnswered unopened h (at c) is.legal answered;
    ordered = EachStep-push stage_step MayStand (λ s. unborn) h (at c) is.ordered (lives, turns);
    callers = All-push IsCaller h (at c) is.callers caller;
    lens = λ cursor. subst (λ o. o.len cursor ≤ most_chunks) (sym (object_push h (at c))) (lens cursor);
    refused_once = λ by cursor. subst (λ n. n ≤ 1) (sym (refusals_of_push h (at c) by cursor)) (refused by cursor);
    helped = same_helped _ _ _ _ _ _ (ap (λ o. o.heads) (object_push h (at c))) (λ by p. admissions_of_push h (at c) by p) epoch helped;
  }

  module _ (small : worker ≤ 8) where
    -- the caller, where the call opens and greets nothing
    plain_caller : (c : Call) → sets_word c ≡ false → IsCaller (at c)
    plain_caller c plain = (small, λ sets. absurd (false≢true (sym plain ∙ sets)))

    pub open_grows : (cursor len : ℕ) → serial ≡ 0 → len ≤ most_chunks → IsHistory (h ++ at (Open cursor len) ∷ [])
    open_grows cursor len first few = grows (Open cursor len) tt tt (small, λ sets. first)
        (λ other. ⊎_elim
        (λ e. subst (λ n. n ≤ most_chunks) (sym (put_at_here cursor len (object_after h).len other e)) few)
        (λ ne. subst (λ n. n ≤ most_chunks) (sym (put_at_else cursor len (object_after h).len other ne)) (is.lens other))
        (cases_eq other cursor))
        (λ by other. cond_both (eqb cursor other) 0 _ (λ n. n ≤ 1) (λ e. omega arith) (λ ne. is.refused_once by other))
        _ (epoch_push h (at (Open cursor len)) first) (helped_open _ _ _ is.helped cursor len)

    pub greet_grows : (p : ℕ) → serial ≡ 0 → IsHistory (h ++ at (Greet p) ∷ [])
    greet_grows p first = grows (Greet p) tt tt (small, λ sets. first) is.lens is.refused_once _ (epoch_push h (at (Greet p)) first) (helped_greet _ _ _ is.helped p)

    pub took_grows : (cursor chunk : ℕ) → Answers (object_after h) (Took cursor chunk) → IsHistory (h ++ at (Took cursor chunk) ∷ [])
    took_grows cursor chunk answered =
        let caller = plain_caller (Took cursor chunk) refl in
        grows (Took cursor chunk) answered tt caller is.lens is.refused_once _ (epoch_plain h (at (Took cursor chunk)) tt caller) is.helped

    pub exhausted_grows : (cursor : ℕ) → Answers (object_after h) (Exhausted cursor) → refusals_of worker cursor h ≡ 0 → IsHistory (h ++ at (Exhausted cursor) ∷ [])
    exhausted_grows cursor answered fresh =
        let caller = plain_caller (Exhausted cursor) refl in
        grows (Exhausted cursor) answered tt caller is.lens
        (λ by other. cond_both (eqb cursor other && eqb worker by) _ _ (λ n. n ≤ 1)
        (λ both. let parts = and_parts (eqb cursor other) (eqb worker by) both in
        let same : refusals_of by other h ≡ 0 = (λ i. refusals_of (sym (eqb-true worker by parts.1) i) (sym (eqb-true cursor other parts.0) i) h) ∙ fresh in omega (arith, same))
        (λ ne. is.refused_once by other))
        _ (epoch_plain h (at (Exhausted cursor)) tt caller) is.helped

    pub look_grows : (cursor left : ℕ) → Answers (object_after h) (Look cursor left) → IsHistory (h ++ at (Look cursor left) ∷ [])
    look_grows cursor left answered =
        let caller = plain_caller (Look cursor left) refl in
        grows (Look cursor left) answered tt caller is.lens is.refused_once _ (epoch_plain h (at (Look cursor left)) tt caller) is.helped

    pub heads_grows : (p count : ℕ) → Answers (object_after h) (Heads p count) → IsHistory (h ++ at (Heads p count) ∷ [])
    heads_grows p count answered =
        let caller = plain_caller (Heads p count) refl in
        grows (Heads p count) answered tt caller is.lens is.refused_once _ (epoch_plain h (at (Heads p count)) tt caller) is.helped

    pub contended_grows : (p asked found : ℕ) → Answers (object_after h) (Contended p asked found) → IsHistory (h ++ at (Contended p asked found) ∷ [])
    contended_grows p asked found answered =
        let caller = plain_caller (Contended p asked found) refl in
        grows (Contended p asked found) answered tt caller is.lens is.refused_once _ (epoch_plain h (at (Contended p asked found)) tt caller) is.helped

    pub admitted_grows : (p count : ℕ) → Answers (object_after h) (Admitted p count) → (epoch_of h).greeted p ≡ true → (epoch_of h).is_split ≡ true → engine_count (epoch_of h) ≤ 8 → worker < 8
        → 0 < engine_count (epoch_of h) → worker ≢ p % engine_count (epoch_of h) → admissions_of worker p h ≡ 0 → IsHistory (h ++ at (Admitted p count) ∷ [])
    admitted_grows p count answered greeted split few below some no_master fresh =
        let caller = plain_caller (Admitted p count) refl in
        let more = helped_admit _ _ _ is.helped p worker greeted split few below some no_master fresh in
        grows (Admitted p count) answered tt caller is.lens is.refused_once _ (epoch_plain h (at (Admitted p count)) tt caller)
        (subst (λ n. AreHelped (put_at p (suc n) (object_after h).heads) (λ by q. cond (eqb p q && eqb worker by) (suc (admissions_of by q h)) (admissions_of by q h)) (epoch_of h)) (sym answered) more)

    pub split_grows : (new by : ℕ) → serial ≡ 0 → stages h new ≡ unborn → IsHistory (h ++ at (Split new by) ∷ [])
    split_grows new by first fresh =
        grows (Split new by) tt fresh (plain_caller (Split new by) refl) is.lens is.refused_once _ (epoch_push h (at (Split new by)) first) (helped_split _ _ _ is.helped new by)

    pub join_grows : (old by : ℕ) → serial ≡ 0 → stages h old ≡ living → IsHistory (h ++ at (Join old by) ∷ [])
    join_grows old by first lived =
        grows (Join old by) tt lived (plain_caller (Join old by) refl) is.lens is.refused_once _ (epoch_push h (at (Join old by)) first) is.helped
