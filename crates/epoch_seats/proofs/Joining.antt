-- The story of the first seat as the seats of an epoch come back.
use Rattle.std.proofs.Common.{◌≡◌, ℕ, suc, ◌+◌, ◌<◌, List, [], ◌∷◌, ◌++◌, map, get_or, length, refl, ap, sym, ◌∙◌, subst, arith, append_assoc, add-one}
use Rattle.std.proofs.lemmas.List.{append-nil}
use Rattle.chunk_object.specs.declared.call.Call.{Call}
use Rattle.chunk_object.specs.declared.call.Call.TheVariants.{Join}
use Rattle.chunk_object.specs.Epochs.{entry_of, returns_of}
use Rattle.chunk_cursor.specs.declared.view.View.{View}
use Rattle.chunk_cursor.specs.View.{entry, OutWithin, IsFirst, after_join}
use Rattle.chunk_cursor.specs.Hold.{Hold}
use Rattle.chunk_cursor.proofs.Knowing.{within_join_first}
use Rattle.worker_duty.specs.Views.{calls_of}
use Rattle.epoch_seats.specs.Seats.{IsSeatOf}
use Rattle.epoch_seats.specs.Joining.{joined}

abbrev pub lists_of : List Hold → List (List Call)
lists_of = map (λ (seat : Hold). calls_of seat.view)

pub joined-number : (v : View) (seats : List Hold) → ((joined v seats).serial ≡ v.serial) × ((joined v seats).worker ≡ v.worker) × ((joined v seats).splits ≡ v.splits) × ((joined v seats).held ≡ v.held)
joined-number v [] = (refl, refl, refl, refl)
joined-number v (seat ∷ seats) = joined-number (after_join v seat.view) seats

module _ (before : ℕ) where
  -- these are the seats of the workers from w on
  abbrev pub SeatsFrom : (w : ℕ) → List Hold → Type 0
  SeatsFrom w seats = (i : ℕ) (d : Hold) → i < length seats → IsSeatOf before (w + i) (get_or seats i d).view

  first_from : (w : ℕ) (seat : Hold) (seats : List Hold) → SeatsFrom w (seat ∷ seats) → IsSeatOf before w seat.view
  first_from w seat seats each = subst (λ k. IsSeatOf before k seat.view) (omega arith) (each 0 seat (omega arith))

  others_from : (w : ℕ) (seat : Hold) (seats : List Hold) → SeatsFrom w (seat ∷ seats) → SeatsFrom (w + 1) seats
  others_from w seat seats each i d below = subst (λ k. IsSeatOf before k (get_or seats i d).view) (omega arith) (each (suc i) d (omega arith))

  join_entry : (w : ℕ) (v u : View) → IsFirst v → IsSeatOf before w u → entry v (Join u.serial u.worker) ≡ entry_of 0 8 (Join (suc (before + w)) w)
  join_entry w v u first is =
      ap (λ serial. entry_of serial v.worker (Join u.serial u.worker)) first.0
      ∙ (ap (λ worker. entry_of 0 worker (Join u.serial u.worker)) first.1
      ∙ (ap (λ serial. entry_of 0 8 (Join serial u.worker)) is.serial ∙ ap (λ worker. entry_of 0 8 (Join (suc (before + w)) worker)) is.number))

  own_entries : (w : ℕ) (u : View) → IsSeatOf before w u → u.story ≡ map (entry_of (suc (before + w)) w) (calls_of u)
  own_entries w u is = is.own ∙ (ap (λ serial. map (entry_of serial u.worker) (calls_of u)) is.serial ∙ ap (λ worker. map (entry_of (suc (before + w)) worker) (calls_of u)) is.number)

  pub joined-story : (w : ℕ) (seats : List Hold) (v : View) → IsFirst v → SeatsFrom w seats → (joined v seats).story ≡ v.story ++ returns_of before w (lists_of seats)
  joined-story w [] v first each = sym (append-nil v.story)
  joined-story w (seat ∷ seats) v first each =
      let is = first_from w seat seats each in
      let rest = returns_of before (w + 1) (lists_of seats) in
      joined-story (w + 1) seats (after_join v seat.view) first (others_from w seat seats each)
      ∙ (ap (λ e. ((v.story ++ seat.view.story) ++ e ∷ []) ++ rest) (join_entry w v seat.view first is)
      ∙ (ap (λ own. ((v.story ++ own) ++ entry_of 0 8 (Join (suc (before + w)) w) ∷ []) ++ rest) (own_entries w seat.view is) ∙ simp append_assoc))

  pub joined-out : (w n : ℕ) (seats : List Hold) (v : View) → w + length seats ≡ n → SeatsFrom w seats → OutWithin w n v → OutWithin n n (joined v seats)
  joined-out w n [] v many each out = subst (λ k. OutWithin k n v) (omega arith) out
  joined-out w n (seat ∷ seats) v many each out =
      joined-out (w + 1) n seats (after_join v seat.view) (omega arith) (others_from w seat seats each)
      (subst (λ k. OutWithin k n (after_join v seat.view)) (sym (add-one w)) (within_join_first w n v seat.view (first_from w seat seats each).number out))
