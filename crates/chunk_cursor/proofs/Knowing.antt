-- What a seat may do after its calls, for the layers above.
use Rattle.std.proofs.Common.{◌≡◌, ◌≢◌, ℕ, zero, suc, ◌≤◌, false, ◌&&◌, eqb, List, [], ◌∷◌, ◌++◌, map, get_or, set, refl, ap, sym, ◌∙◌, inl, inr, ⊎_elim, arith, append_assoc}
use Rattle.std.proofs.lemmas.Bool.{cases_eq, cases_lt, cond-false, and_left}
use Rattle.std.proofs.lemmas.Bool.Decides.{nat_tests}
use Rattle.std.proofs.lemmas.List.{append-nil, map-append, get_or-set_other}
use Rattle.chunk_object.specs.declared.call.Call.{Call}
use Rattle.chunk_object.specs.declared.call.Call.TheVariants.{Took}
use Rattle.chunk_object.specs.History.{opens, exhausts, refusals_of, greets, admits, admissions_of, takes_any, taken_by, len_after, opened_len}
use Rattle.chunk_object.proofs.Histories.{final-push, count-push}
use Rattle.chunk_object.proofs.Covered.{len_stays}
use Rattle.chunk_cursor.specs.declared.view.View.{View}
use Rattle.chunk_cursor.specs.View.{entry, with_call, with_calls, knows, out_at, OutWithin, IsAlone, after_split, after_join, MayClaim, MayAdmit}

pub knows-with_call : (v : View) (c : Call) → knows (with_call v c) ≡ knows v ++ entry v c ∷ []
knows-with_call v c = sym (append_assoc v.held v.story (entry v c ∷ []))

-- one call after another
pub with_calls-one : (v : View) (c : Call) → with_calls v (c ∷ []) ≡ with_call v c
with_calls-one v c = refl

pub with_calls-none : (v : View) → with_calls v [] ≡ v
with_calls-none v = λ i. record v { story = append-nil v.story i }

pub with_calls-append : (v : View) (xs ys : List Call) → with_calls (with_calls v xs) ys ≡ with_calls v (xs ++ ys)
with_calls-append v xs ys = λ i. record v { story = (append_assoc v.story (map (entry v) xs) (map (entry v) ys) ∙ ap (λ l. v.story ++ l) (sym (map-append (entry v) xs ys))) i }

module _ (v : View) (c : Call) where
  -- a call that neither opens the cursor nor is refused there leaves the right to claim
  pub may_claim_still : (cursor : ℕ) → opens cursor c ≡ false → exhausts cursor c ≡ false → MayClaim v cursor → MayClaim (with_call v c) cursor
  may_claim_still cursor calm told may =
      ap (refusals_of v.worker cursor) (knows-with_call v c)
      ∙ (count-push (λ e. opens cursor e.call) (λ e. exhausts cursor e.call && eqb e.worker v.worker) 0 (knows v) (entry v c)
      ∙ (cond-false (opens cursor c) 0 _ calm ∙ (cond-false (exhausts cursor c && eqb v.worker v.worker) _ _ (and_left (exhausts cursor c) _ told) ∙ may)))

  -- a call that does not open the cursor leaves its length
  pub opened_len_still : (cursor : ℕ) → opens cursor c ≡ false → opened_len cursor (knows (with_call v c)) ≡ opened_len cursor (knows v)
  opened_len_still cursor calm =
      ap (opened_len cursor) (knows-with_call v c) ∙ (final-push (λ k e. len_after cursor k e.call) 0 (knows v) (entry v c) ∙ len_stays cursor (opened_len cursor (knows v)) c calm)

  -- a call that is no admission at the partition leaves the right to be admitted
  pub may_admit_still : (partition : ℕ) → greets partition c ≡ false → admits partition c ≡ false → MayAdmit v partition → MayAdmit (with_call v c) partition
  may_admit_still partition calm none may = record {
    split = may.split;
    greeted = may.greeted;
    opened = may.opened;
    no_master = may.no_master;
    once = ap (admissions_of v.worker partition) (knows-with_call v c)
        ∙ (count-push (λ e. greets partition e.call) (λ e. admits partition e.call && eqb e.worker v.worker) 0 (knows v) (entry v c)
        ∙ (cond-false (greets partition c) 0 _ calm ∙ (cond-false (admits partition c && eqb v.worker v.worker) _ _ (and_left (admits partition c) _ none) ∙ may.once)));
  }

-- a seat that took a chunk may claim again, has one more, and knows the same length
pub may_claim_took : (v : View) (cursor other chunk : ℕ) → MayClaim v cursor → MayClaim (with_call v (Took other chunk)) cursor
may_claim_took v cursor other chunk may = may_claim_still v (Took other chunk) cursor refl refl may

pub taken_by_took : (v : View) (cursor chunk : ℕ) → taken_by v.worker cursor (knows (with_call v (Took cursor chunk))) ≡ suc (taken_by v.worker cursor (knows v))
taken_by_took v cursor chunk =
    ap (taken_by v.worker cursor) (knows-with_call v (Took cursor chunk))
    ∙ (count-push (λ e. opens cursor e.call) (λ e. takes_any cursor e.call && eqb e.worker v.worker) 0 (knows v) (entry v (Took cursor chunk)) ∙ grind (arith, nat_tests))

pub opened_len_took : (v : View) (cursor other chunk : ℕ) → opened_len cursor (knows (with_call v (Took other chunk))) ≡ opened_len cursor (knows v)
opened_len_took v cursor other chunk = opened_len_still v (Took other chunk) cursor refl

-- who is out after a split and after a join
pub out_after_split : (worker : ℕ) (v : View) (other : ℕ) → other ≢ worker → out_at (after_split worker v) other ≡ out_at v other
out_after_split worker v other ne = get_or-set_other v.out worker other (suc v.splits) 0 ne

pub out_after_join : (v u : View) (other : ℕ) → other ≢ u.worker → out_at (after_join v u) other ≡ out_at v other
out_after_join v u other ne = get_or-set_other v.out u.worker other 0 0 ne

pub within_alone : (v : View) → IsAlone v → (n : ℕ) → OutWithin n n v
within_alone v alone n worker beyond = alone.none_out worker

pub none_within : (n : ℕ) (v : View) → OutWithin n n v → (worker : ℕ) → out_at v worker ≡ 0
none_within n v within worker = ⊎_elim (λ low. within worker (inl low)) (λ high. within worker (inr high)) (cases_lt worker n)

pub within_split : (low high : ℕ) (v : View) → low ≤ high → OutWithin low high v → OutWithin low (suc high) (after_split high v)
within_split low high v order within worker beyond =
    let ne : worker ≢ high = λ e. ⊎_elim (λ less. omega arith) (λ more. omega arith) beyond in
    out_after_split high v worker ne ∙ within worker (⊎_elim (λ less. inl less) (λ more. inr (omega arith)) beyond)

zeroed : (l : List ℕ) (i : ℕ) → get_or (set l i 0) i 0 ≡ 0
zeroed [] i = refl
zeroed (x ∷ l) zero = refl
zeroed (x ∷ l) (suc i) = zeroed l i

pub back_after_join : (v u : View) → out_at (after_join v u) u.worker ≡ 0
back_after_join v u = zeroed v.out u.worker

pub within_join_first : (low high : ℕ) (v u : View) → u.worker ≡ low → OutWithin low high v → OutWithin (suc low) high (after_join v u)
within_join_first low high v u is within worker beyond = ⊎_elim
    (λ same. ap (out_at (after_join v u)) (same ∙ sym is) ∙ back_after_join v u)
    (λ ne. out_after_join v u worker (λ e. ne (e ∙ is)) ∙ within worker (⊎_elim (λ less. inl (omega arith)) (λ more. inr more) beyond))
    (cases_eq worker low)

pub within_join_last : (low high : ℕ) (v u : View) → u.worker ≡ high → OutWithin low (suc high) v → OutWithin low high (after_join v u)
within_join_last low high v u is within worker beyond = ⊎_elim
    (λ same. ap (out_at (after_join v u)) (same ∙ sym is) ∙ back_after_join v u)
    (λ ne. out_after_join v u worker (λ e. ne (e ∙ is)) ∙ within worker (⊎_elim (λ less. inl less) (λ more. inr (omega arith)) beyond))
    (cases_eq worker high)
