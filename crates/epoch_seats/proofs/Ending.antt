-- After the last join of an epoch no epoch is open.
use Rattle.std.proofs.Common.{◌≡◌, ℕ, zero, suc, ◌+◌, ◌≤◌, true, eqb, List, [], ◌∷◌, ◌++◌, map, get_or, refl, ap, sym, ◌∙◌, subst, arith, append_assoc, ne_eqb}
use Rattle.std.proofs.lemmas.Bool.{cond-false}
use Rattle.std.specs.List.{range_with_len}
use Rattle.std.proofs.lemmas.List.Elements.{filter-append}
use Rattle.chunk_object.specs.declared.call.Call.{Call}
use Rattle.chunk_object.specs.declared.call.Call.TheVariants.{Split, Join}
use Rattle.chunk_object.specs.declared.call.Entry.{Entry}
use Rattle.chunk_object.specs.History.{final, entries_of, EpochSoFar, no_epoch, epoch_step, epoch_of, StandsWhole}
use Rattle.chunk_object.specs.Epochs.{Terms, entry_of, first_entries, opens_of, greets_of, splits_of, returns_of, epoch_entries}
use Rattle.chunk_object.proofs.Histories.{final-append}
use Rattle.chunk_cursor.specs.declared.view.View.{View}
use Rattle.chunk_cursor.specs.View.{IsAlone}
use Rattle.chunk_cursor.specs.Hold.{Hold}
use Rattle.chunk_cursor.proofs.Knowing.{none_within}
use Rattle.epoch_seats.specs.Between.{HasEnded}
use Rattle.epoch_seats.specs.Seats.{HasBegun, IsSeatOf, AreSeats, epoch_with}
use Rattle.epoch_seats.specs.Joining.{joined}
use Rattle.epoch_seats.proofs.Joining.{lists_of, SeatsFrom, joined-number, joined-story, joined-out}

-- the state after the first caller's part of a list
abbrev state_after : EpochSoFar → List Entry → EpochSoFar
state_after t l = final epoch_step t (entries_of 0 l)

after-append : (t : EpochSoFar) (xs ys : List Entry) → state_after t (xs ++ ys) ≡ state_after (state_after t xs) ys
after-append t xs ys = ap (final epoch_step t) (filter-append (λ (e : Entry). eqb e.serial 0) xs ys) ∙ final-append epoch_step t (entries_of 0 xs) (entries_of 0 ys)

after_splits : (before a n : ℕ) (t : EpochSoFar) → 1 ≤ n → (state_after t (first_entries (map (λ worker. Split (suc (before + worker)) worker) (range_with_len a n)))).is_split ≡ true
after_splits before a zero t some = absurd (omega arith)
after_splits before a (suc zero) t some = refl
after_splits before a (suc (suc n)) t some = after_splits before (a + 1) (suc n) (epoch_step t (entry_of 0 8 (Split (suc (before + a)) a))) (omega arith)

-- the calls of a worker are not the first caller's
none_own : (serial worker : ℕ) (calls : List Call) → entries_of 0 (map (entry_of (suc serial) worker) calls) ≡ []
none_own serial worker [] = refl
none_own serial worker (c ∷ calls) =
    cond-false (eqb (suc serial) 0) (entry_of (suc serial) worker c ∷ entries_of 0 (map (entry_of (suc serial) worker) calls)) _ (ne_eqb (suc serial) 0 (λ e. omega (arith, e))) ∙ none_own serial worker calls

after_returns : (before worker : ℕ) (lists : List (List Call)) (t : EpochSoFar) → state_after t (returns_of before worker lists) ≡ t
after_returns before worker [] t = refl
after_returns before worker (calls ∷ lists) t =
    let own = map (entry_of (suc (before + worker)) worker) calls in
    let rest = returns_of before (worker + 1) lists in
    after-append t own (entry_of 0 8 (Join (suc (before + worker)) worker) ∷ rest)
    ∙ (ap (λ l. state_after (final epoch_step t l) (entry_of 0 8 (Join (suc (before + worker)) worker) ∷ rest)) (none_own (before + worker) worker calls) ∙ after_returns before (worker + 1) lists t)

is_ended : (past front : List Entry) (before n : ℕ) (lists : List (List Call)) → 1 ≤ n → (epoch_of (past ++ (front ++ (first_entries (splits_of before n) ++ returns_of before 0 lists)))).is_split ≡ true
is_ended past front before n lists some =
    let splits = first_entries (splits_of before n) in
    let back = returns_of before 0 lists in
    ap (λ (t : EpochSoFar). t.is_split)
    (after-append no_epoch past (front ++ (splits ++ back))
    ∙ (after-append (state_after no_epoch past) front (splits ++ back)
    ∙ (after-append (state_after (state_after no_epoch past) front) splits back ∙ after_returns before 0 lists _)))
    ∙ after_splits before 0 n _ some

pub ends : (terms : Terms) (lens : ℕ → ℕ) (before first : View) (seats : List Hold) → 1 ≤ terms.engines → HasBegun terms lens before first → AreSeats terms.engines before.splits seats
    → (after : View) → after ≡ joined first seats → (IsAlone after → StandsWhole after.story) → HasEnded terms before after (epoch_with lens seats)
ends terms lens before first seats some begun are after is whole =
    let from_zero : SeatsFrom before.splits 0 seats = λ i d below. subst (λ k. IsSeatOf before.splits k (get_or seats i d).view) (omega arith) (are.each i d (omega (arith, are.many))) in
    let numbers = joined-number first seats in
    let alone : IsAlone (joined first seats) = record {
      first = (numbers.0 ∙ begun.number.0, numbers.1 ∙ begun.number.1);
      none_out = none_within terms.engines (joined first seats) (joined-out before.splits 0 terms.engines seats first (omega (arith, are.many)) from_zero begun.out);
    } in
    let alone_now : IsAlone after = subst IsAlone (sym is) alone in
    let opened = first_entries (opens_of terms lens) in
    let greeted = first_entries (greets_of terms) in
    let splits = first_entries (splits_of before.splits terms.engines) in
    let back = returns_of before.splits 0 (lists_of seats) in
    let story : after.story ≡ before.story ++ epoch_entries terms before.splits (epoch_with lens seats) =
    ap (λ (v : View). v.story) is ∙ (joined-story before.splits 0 seats first begun.number from_zero ∙ (ap (λ l. l ++ back) begun.story ∙ simp append_assoc)) in
    record {
      story = story;
      splits = ap (λ (v : View). v.splits) is ∙ (numbers.2 ∙ begun.splits);
      held = ap (λ (v : View). v.held) is ∙ (numbers.3 ∙ begun.held);
      between = record {
        alone = alone_now;
        ended = ap (λ l. (epoch_of l).is_split) (story ∙ ap (λ l. before.story ++ l) (sym (append_assoc opened greeted (splits ++ back)))) ∙ is_ended before.story (opened ++ greeted) before.splits terms.engines (lists_of seats) some;
      };
      whole = whole alone_now;
    }
