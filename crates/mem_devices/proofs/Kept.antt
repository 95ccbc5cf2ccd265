-- A record stays in order, whether a call is kept or not.
use Rattle.std.proofs.Common.{◌≡◌, ℕ, ◌+◌, ◌<◌, ◌≤◌, inl, inr, List, [], ◌∷◌, ◌++◌, length, get_or, Result, Ok, Err, OnOk, OnErr, All, arith, sym, subst, ◌∙◌, ap}
use Rattle.std.specs.List.Sorted.{IsNonDecreasing}
use Rattle.std.proofs.lemmas.Bool.{cases_lt}
use Rattle.std.proofs.lemmas.List.{length-append, get_or_append_left, get_or_push}
use Rattle.std.proofs.lemmas.List.Elements.{All-same, All-weaker, All-push}
use Rattle.mem_devices.specs.declared.call.Call.{Call}
use Rattle.mem_devices.specs.Call.{after_call}
use Rattle.mem_devices.specs.History.{after_calls, beats}
use Rattle.mem_devices.proofs.Recording.{after_calls-push, beats-push}

pub kept_replayed : {T E : Type 0} (r : Result T E) (first bytes bytes' : List ℕ) (calls calls' : List Call) (call : Call) → bytes ≡ after_calls calls first → OnOk r (calls' ≡ calls ++ call ∷ []) → OnOk r (bytes' ≡ after_call call bytes) → OnErr r (calls' ≡ calls) → OnErr r (bytes' ≡ bytes) → bytes' ≡ after_calls calls' first
kept_replayed (Ok x) first bytes bytes' calls calls' call replayed calls_is bytes_is calls_stay bytes_stay =
    bytes_is ∙ ap (λ xs. after_call call xs) replayed ∙ sym (after_calls-push calls call first) ∙ ap (λ all. after_calls all first) (sym calls_is)
kept_replayed (Err e) first bytes bytes' calls calls' call replayed calls_is bytes_is calls_stay bytes_stay =
    bytes_stay ∙ replayed ∙ ap (λ all. after_calls all first) (sym calls_stay)

rising-push : (xs : List ℕ) (y : ℕ) → IsNonDecreasing xs → All (λ x. x ≤ y) xs → IsNonDecreasing (xs ++ y ∷ [])
rising-push xs y rising bound i j d order within =
    let long : length (xs ++ y ∷ []) ≡ length xs + 1 = length-append xs (y ∷ []) in
    elim (cases_lt j (length xs)) [
      | inl below ↦
          let early : i < length xs = omega arith in
          rw (get_or_append_left xs (y ∷ []) d i early, get_or_append_left xs (y ∷ []) d j below) (rising i j d order below)
      | inr last ↦
          let end : length xs ≡ j = omega (arith, long) in
          let at_end : get_or (xs ++ y ∷ []) j d ≡ y = get_or_push xs y d j end in
          elim (cases_lt i (length xs)) [
            | inl early ↦ rw (at_end, get_or_append_left xs (y ∷ []) d i early) (bound i d early)
            | inr same ↦ let equal : i ≡ j = omega (arith, long) in rw (ap (λ k. get_or (xs ++ y ∷ []) k d) equal) (omega arith)
          ]
    ]

pub kept_rising : {T E : Type 0} (r : Result T E) (calls calls' : List Call) (call : Call) → IsNonDecreasing (beats calls) → All (λ n. n ≤ call.beat) (beats calls) → OnOk r (calls' ≡ calls ++ call ∷ []) → OnErr r (calls' ≡ calls) → IsNonDecreasing (beats calls')
kept_rising (Ok x) calls calls' call rising bound is stays =
    subst IsNonDecreasing (sym (ap (λ all. beats all) is ∙ beats-push calls call)) (rising-push (beats calls) call.beat rising bound)
kept_rising (Err e) calls calls' call rising bound is stays = subst (λ all. IsNonDecreasing (beats all)) (sym stays) rising

-- no call in the record has a later beat than the call that is made
pub kept_in_order : {T E : Type 0} (r : Result T E) (calls calls' : List Call) (call : Call) (beat number : ℕ) → All (λ n. n ≤ beat) (beats calls) → beat ≤ number → call.beat ≤ number → OnOk r (calls' ≡ calls ++ call ∷ []) → OnErr r (calls' ≡ calls) → All (λ n. n ≤ number) (beats calls')
kept_in_order (Ok x) calls calls' call beat number bound later own is stays =
    All-same (λ n. n ≤ number) (beats calls') (beats calls ++ call.beat ∷ []) (ap (λ all. beats all) is ∙ beats-push calls call)
    (All-push (λ n. n ≤ number) (beats calls) call.beat (All-weaker (λ n. n ≤ beat) (λ n. n ≤ number) (λ n below. omega arith) (beats calls) bound) own)
kept_in_order (Err e) calls calls' call beat number bound later own is stays =
    All-same (λ n. n ≤ number) (beats calls') (beats calls) (ap (λ all. beats all) stays)
    (All-weaker (λ n. n ≤ beat) (λ n. n ≤ number) (λ n below. omega arith) (beats calls) bound)
