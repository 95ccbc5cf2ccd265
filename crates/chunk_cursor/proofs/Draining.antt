-- A seat that claims at one cursor until none is left, as tests do.
use Rattle.std.proofs.Common.{◌≡◌, ℕ, suc, ◌+◌, ◌-◌, ◌<◌, refl, ap, sym, ◌∙◌, subst, ⊎_elim, arith, eqb, ◌&&◌, eq-eqb, ne_eqb}
use Rattle.std.proofs.lemmas.Bool.{cases_eq, cond-true, cond-false}
use Rattle.std.proofs.lemmas.List.{append-nil}
use Rattle.chunk_object.specs.declared.call.Call.TheVariants.{Open, Took, Exhausted, Split}
use Rattle.chunk_object.specs.History.{opens, exhausts, refusals_of, taken_by, opened_len}
use Rattle.chunk_object.proofs.Histories.{count-push}
use Rattle.chunk_cursor.specs.declared.view.View.{View}
use Rattle.chunk_cursor.specs.View.{entry, with_call, knows, after_split, split_off, MayClaim, MayTake}
use Rattle.chunk_cursor.specs.Claiming.{HasDrained, MayClaimWithin, IsFreshBelow}
use Rattle.chunk_cursor.proofs.Knowing.{may_claim_still, may_claim_took, taken_by_took, opened_len_took}

pub drains_none : (cursor : ℕ) (v : View) → HasDrained cursor v v
drains_none cursor v = record { worker = refl; others = λ other ne may. may }

pub drains_took : (cursor chunk : ℕ) (old v new : View) → HasDrained cursor old v → new ≡ with_call v (Took cursor chunk) → HasDrained cursor old new
drains_took cursor chunk old v new is e = record {
  worker = ap (λ (u : View). u.worker) e ∙ is.worker;
  others = λ other ne may. subst (λ u. MayClaim u other) (sym e) (may_claim_took v other cursor chunk (is.others other ne may));
}

pub drains_exhausted : (cursor : ℕ) (old v new : View) → HasDrained cursor old v → new ≡ with_call v (Exhausted cursor) → HasDrained cursor old new
drains_exhausted cursor old v new is e = record {
  worker = ap (λ (u : View). u.worker) e ∙ is.worker;
  others = λ other ne may. subst (λ u. MayClaim u other) (sym e) (may_claim_still v (Exhausted cursor) other refl (ne_eqb cursor other (λ same. ne (sym same))) (is.others other ne may));
}

pub claims_on : (cursor chunk : ℕ) (v new : View) → MayClaim v cursor → new ≡ with_call v (Took cursor chunk) → MayClaim new cursor
claims_on cursor chunk v new may e = subst (λ u. MayClaim u cursor) (sym e) (may_claim_took v cursor cursor chunk may)

pub less_left : (cursor chunk : ℕ) (v new : View) → MayTake v cursor chunk → new ≡ with_call v (Took cursor chunk)
    → opened_len cursor (knows new) - taken_by new.worker cursor (knows new) < opened_len cursor (knows v) - taken_by v.worker cursor (knows v)
less_left cursor chunk v new may e =
    subst (λ (u : View). opened_len cursor (knows u) - taken_by u.worker cursor (knows u) < opened_len cursor (knows v) - taken_by v.worker cursor (knows v)) (sym e)
    (omega (arith, taken_by_took v cursor chunk, opened_len_took v cursor cursor chunk, may.0, may.1))

-- nobody was refused at a cursor that was just opened
pub fresh_opened : (v : View) (cursor len : ℕ) → IsFreshBelow cursor v → IsFreshBelow (cursor + 1) (with_call v (Open cursor len))
fresh_opened v cursor len fresh worker other below =
    count-push (λ e. opens other e.call) (λ e. exhausts other e.call && eqb e.worker worker) 0 v.story (entry v (Open cursor len))
    ∙ ⊎_elim
    (λ same. cond-true (eqb cursor other) 0 _ (eq-eqb cursor other (sym same)))
    (λ ne. cond-false (eqb cursor other) 0 _ (ne_eqb cursor other (λ e. ne (sym e))) ∙ fresh worker other (omega arith))
    (cases_eq other cursor)

pub fresh_split : (high worker : ℕ) (v : View) → IsFreshBelow high v → IsFreshBelow high (after_split worker v)
fresh_split high worker v fresh by cursor below =
    count-push (λ e. opens cursor e.call) (λ e. exhausts cursor e.call && eqb e.worker by) 0 v.story (entry v (Split (suc v.splits) worker)) ∙ fresh by cursor below

pub fresh_may : (high worker : ℕ) (v : View) → IsFreshBelow high v → MayClaimWithin 0 high (split_off worker v)
fresh_may high worker v fresh cursor low below =
    ap (refusals_of worker cursor) (append-nil (after_split worker v).story) ∙ fresh_split high worker v fresh worker cursor below
