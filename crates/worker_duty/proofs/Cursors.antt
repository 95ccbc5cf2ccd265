-- Claims at one cursor.
use Rattle.std.proofs.Common.{◌≡◌, ℕ, suc, ◌+◌, ◌-◌, ◌≤◌, ◌<◌, true, false, List, [], ◌∷◌, ◌++◌, length, refl, ap, sym, ◌∙◌, subst, arith, eq-eqb}
use Rattle.std.proofs.lemmas.Bool.{false≢true}
use Rattle.std.proofs.lemmas.List.{append-nil, length_push}
use Rattle.std.proofs.lemmas.List.Elements.{All-nil, All-cons}
use Rattle.chunk_object.specs.declared.call.Call.{Call}
use Rattle.chunk_object.specs.declared.call.Call.TheVariants.{Took, Exhausted}
use Rattle.chunk_object.specs.History.{taken_by, opened_len}
use Rattle.chunk_object.specs.Duty.{claims_at}
use Rattle.chunk_cursor.specs.declared.view.View.{View}
use Rattle.chunk_cursor.specs.View.{with_call, with_calls, knows}
use Rattle.chunk_cursor.proofs.Knowing.{with_calls-none, with_calls-append, may_claim_took, taken_by_took, opened_len_took}
use Rattle.phase_model.specs.Taken.{claims, admissions}
use Rattle.phase_model.proofs.Lists.{claims-append, admissions-append}
use Rattle.worker_duty.specs.Shares.{DrainsCursor}
use Rattle.worker_duty.specs.Views.{taken_by_seat, IsReady}
use Rattle.worker_duty.specs.Working.{HasTaken, IsPiece}
use Rattle.worker_duty.proofs.Elsewhere.{taken-more}
use Rattle.worker_duty.proofs.Counts.{took_all, took_all-push, claims-took, admissions-took}
use Rattle.worker_duty.proofs.Parts.{worked_of}

-- the seat has taken so many chunks of the cursor, one after another, and may go on
pub record IsTaking (cursor len : ℕ) (old now : View) (count : ℕ) : Type 0 where
  pub places : List ℕ
  pub grown : now ≡ with_calls old (took_all cursor places)
  pub are : length places ≡ count
  pub few : count ≤ taken_by now.worker cursor (knows now)
  pub most : count ≤ len
  pub ready : IsReady now cursor len

pub begins : (cursor len : ℕ) (v : View) → IsReady v cursor len → IsTaking cursor len v v 0
begins cursor len v ready = record { places = []; grown = sym (with_calls-none v); are = refl; few = omega arith; most = omega arith; ready = ready }

then_call : (cursor : ℕ) (old now new : View) (places : List ℕ) (c : Call) → now ≡ with_calls old (took_all cursor places) → new ≡ with_call now c → new ≡ with_calls old (took_all cursor places ++ c ∷ [])
then_call cursor old now new places c grown call = call ∙ (ap (λ v. with_call v c) grown ∙ with_calls-append old (took_all cursor places) (c ∷ []))

taken_here : (cursor : ℕ) (now new : View) (place : ℕ) → new ≡ with_call now (Took cursor place) → taken_by new.worker cursor (knows new) ≡ suc (taken_by now.worker cursor (knows now))
taken_here cursor now new place call = ap (λ (v : View). taken_by v.worker cursor (knows v)) call ∙ taken_by_took now cursor place

ready_here : (cursor len : ℕ) (now new : View) (place : ℕ) → new ≡ with_call now (Took cursor place) → IsReady now cursor len → IsReady new cursor len
ready_here cursor len now new place call ready =
    subst (λ v. IsReady v cursor len) (sym call) (record { may = may_claim_took now cursor cursor place ready.may; opened = opened_len_took now cursor cursor place ∙ ready.opened })

pub takes_on : (cursor len count : ℕ) (old now new : View) → IsTaking cursor len old now count → HasTaken now new cursor → IsTaking cursor len old new (count + 1)
takes_on cursor len count old now new taking took =
    let more = taken_here cursor now new took.place took.call in
    record {
      places = taking.places ++ took.place ∷ [];
      grown = then_call cursor old now new taking.places (Took cursor took.place) taking.grown took.call ∙ ap (with_calls old) (sym (took_all-push cursor taking.places took.place));
      are = length_push taking.places took.place ∙ ap (λ n. n + 1) taking.are;
      few = omega (arith, taking.few, more);
      most = omega (arith, taking.few, took.may.0, took.may.1, taking.ready.opened);
      ready = ready_here cursor len now new took.place took.call taking.ready;
    }

-- each chunk taken leaves fewer
pub takes_less : (cursor : ℕ) (now new : View) → HasTaken now new cursor → opened_len cursor (knows new) - taken_by new.worker cursor (knows new) < opened_len cursor (knows now) - taken_by now.worker cursor (knows now)
takes_less cursor now new took =
    let more = taken_here cursor now new took.place took.call in
    let same : opened_len cursor (knows new) ≡ opened_len cursor (knows now) = ap (λ v. opened_len cursor (knows v)) took.call ∙ opened_len_took now cursor cursor took.place in
    omega (arith, more, same, took.may.0, took.may.1)

ends : (cursor : ℕ) (places : List ℕ) → DrainsCursor cursor (took_all cursor places ++ Exhausted cursor ∷ [])
ends cursor [] = record { ends = tt; only = All-cons (λ call. claims_at cursor call ≡ true) (Exhausted cursor) [] (eq-eqb cursor cursor refl) (All-nil (λ call. claims_at cursor call ≡ true)) }
ends cursor (place ∷ places) =
    let rest = ends cursor places in
    record { ends = rest.ends; only = All-cons (λ call. claims_at cursor call ≡ true) (Took cursor place) (took_all cursor places ++ Exhausted cursor ∷ []) (eq-eqb cursor cursor refl) rest.only }

pub drained : (cursor len count : ℕ) (old now new : View) → IsTaking cursor len old now count → new ≡ with_call now (Exhausted cursor) → IsPiece (DrainsCursor cursor) old new (worked_of true count 0)
drained cursor len count old now new taking call = record {
  calls = took_all cursor taking.places ++ Exhausted cursor ∷ [];
  grown = then_call cursor old now new taking.places (Exhausted cursor) taking.grown call;
  whole = λ is. ends cursor taking.places;
  front = ([], subst (DrainsCursor cursor) (sym (append-nil (took_all cursor taking.places ++ Exhausted cursor ∷ []))) (ends cursor taking.places));
  claims_are = let none : claims (Exhausted cursor ∷ []) ≡ 0 = refl in omega (arith, taking.are, claims-took cursor taking.places, claims-append (took_all cursor taking.places) (Exhausted cursor ∷ []), none);
  admissions_are = let none : admissions (Exhausted cursor ∷ []) ≡ 0 = refl in omega (arith, admissions-took cursor taking.places, admissions-append (took_all cursor taking.places) (Exhausted cursor ∷ []), none);
}

pub stopped : (cursor len count : ℕ) (old now new : View) → IsTaking cursor len old now count → HasTaken now new cursor → IsPiece (DrainsCursor cursor) old new (worked_of false (count + 1) 0)
stopped cursor len count old now new taking took =
    let on = takes_on cursor len count old now new taking took in
    record {
      calls = took_all cursor on.places;
      grown = on.grown;
      whole = λ is. absurd (false≢true is);
      front = (Exhausted cursor ∷ [], ends cursor on.places);
      claims_are = sym on.are ∙ sym (claims-took cursor on.places);
      admissions_are = sym (admissions-took cursor on.places);
    }

-- what the desk has worked on grows with what the seat took
pub taken_here-more : (cursor place : ℕ) (now new : View) → new ≡ with_call now (Took cursor place) → taken_by_seat new ≡ taken_by_seat now ++ (cursor, place) ∷ []
taken_here-more cursor place now new call = ap taken_by_seat call ∙ taken-more now (Took cursor place ∷ [])

pub taken_here-none : (cursor : ℕ) (now new : View) → new ≡ with_call now (Exhausted cursor) → taken_by_seat new ≡ taken_by_seat now
taken_here-none cursor now new call = ap taken_by_seat call ∙ (taken-more now (Exhausted cursor ∷ []) ∙ append-nil (taken_by_seat now))
