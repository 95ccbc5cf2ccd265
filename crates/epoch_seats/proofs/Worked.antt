-- What workers have made of the seats that were dealt to their desks, whatever else stands at a desk.
use Rattle.std.proofs.Common.{◌≡◌, ℕ, ◌-◌, ◌^◌, ◌<◌, ◌≤◌, min, List, map, length, get_or, ap, sym, ◌∙◌, subst, arith}
use Rattle.std.specs.List.{All, range_with_len, sum_by}
use Rattle.std.proofs.lemmas.List.FromFn.{get_or-range_with_len}
use Rattle.chunk_object.specs.History.{most_chunks}
use Rattle.chunk_object.specs.Epochs.{Terms}
use Rattle.chunk_object.specs.Duty.{IsDutiful, BeginsDutiful}
use Rattle.chunk_cursor.specs.declared.view.View.{View}
use Rattle.chunk_cursor.specs.Hold.{Hold, TableId}
use Rattle.phase_model.specs.Taken.{claims, admissions}
use Rattle.worker_duty.specs.Views.{calls_of, HasWorked}
use Rattle.list_moves.proofs.Desks.{some_of, at_desk, same_len, listed}
use Rattle.epoch_seats.specs.Between.{HasEnded}
use Rattle.epoch_seats.specs.Seats.{IsSeatOf, AreNewSeats, AreSeats, epoch_with}
use Rattle.epoch_seats.specs.Made.{HasMadeEpoch}
use Rattle.epoch_seats.proofs.Keeping.{own_still, calls_are}
use Rattle.epoch_seats.proofs.Made.{IsPart, is_made}

module _ {X : Type 0} (seat_at : X → Hold) (number_at : X → ℕ) (terms : Terms) (lens : ℕ → ℕ) (before : ℕ) (table : TableId) (desks : List X) (seats : List Hold)
    (seats_are : map seat_at desks ≡ seats) (numbers : map number_at desks ≡ range_with_len 0 terms.engines) (news : AreNewSeats terms lens before table seats) where
  pub all_desks : length desks ≡ terms.engines
  all_desks = sym (same_len seat_at desks seats seats_are) ∙ news.many

  pub seat_is : (w : ℕ) (d : X) → w < length desks → seat_at (get_or desks w d) ≡ get_or seats w (seat_at d)
  seat_is w d below = at_desk seat_at desks seats seats_are w d (seat_at d) below

  pub number_is : (w : ℕ) (d : X) → w < length desks → number_at (get_or desks w d) ≡ w
  number_is w d below = at_desk number_at desks _ numbers w d 0 below ∙ (get_or-range_with_len 0 terms.engines w 0 (omega (arith, all_desks)) ∙ omega arith)

  -- After the work.
  module _ (claims_at admitted_at : X → ℕ) (IsThrough : X → Type 0) (done : List X) (all : length done ≡ length desks)
      (same_table : (w : ℕ) (d : X) → w < length desks → (seat_at (get_or done w d)).table ≡ (seat_at (get_or desks w d)).table)
      (duties : (w : ℕ) (d : X) → w < length desks → HasWorked terms (number_at (get_or desks w d)) (IsThrough (get_or done w d)) (seat_at (get_or desks w d)).view (seat_at (get_or done w d)).view (claims_at (get_or done w d)) (admitted_at (get_or done w d)))
      (seats' : List Hold) (back : map seat_at done ≡ seats') where
    seat_of : (w : ℕ) (d : X) → w < length desks → IsSeatOf before w (seat_at (get_or done w d)).view
    seat_of w d below =
        let new = news.each w (seat_at d) (omega (arith, all_desks)) in
        let duty = duties w d below in
        subst (IsSeatOf before w) (sym duty.grown) (own_still before w _ duty.calls (subst (λ (s : Hold). IsSeatOf before w s.view) (sym (seat_is w d below)) new.is))

    pub tables : All (λ (seat : Hold). seat.table ≡ table) seats'
    tables = listed seat_at (λ (seat : Hold). seat.table ≡ table) done seats' back (λ w d below.
        let within : w < length desks = omega (arith, all) in
        same_table w d within ∙ (ap (λ (s : Hold). s.table) (seat_is w d within) ∙ (news.each w (seat_at d) (omega (arith, all_desks))).of_table))

    pub are_seats : AreSeats terms.engines before seats'
    are_seats = record {
      many = same_len seat_at done seats' back ∙ (all ∙ all_desks);
      each = λ w seat below.
          let here : w < length done = omega (arith, all, all_desks) in
          let there : w < length desks = omega (arith, all_desks) in
          let d = some_of done w here in
          subst (λ (s : Hold). IsSeatOf before w s.view) (at_desk seat_at done seats' back w d seat here) (seat_of w d there);
    }

    -- a seat has made its worker's calls, and no other
    calls_at : (w : ℕ) (d : X) (below : w < length desks) → calls_of (seat_at (get_or done w d)).view ≡ (duties w d below).calls
    calls_at w d below =
        let duty = duties w d below in
        let none = ap (λ (s : Hold). s.view.story) (seat_is w d below) ∙ (news.each w (seat_at d) (omega (arith, all_desks))).story in
        ap calls_of duty.grown ∙ calls_are (seat_at (get_or desks w d)).view duty.calls none

    pub own_duty : (w : ℕ) (d : X) → w < length desks → IsThrough (get_or done w d) → IsDutiful terms w (calls_of (seat_at (get_or done w d)).view)
    own_duty w d below through =
        subst (IsDutiful terms w) (sym (calls_at w d below)) (subst (λ k. IsDutiful terms k (duties w d below).calls) (number_is w d below) ((duties w d below).dutiful through))

    module _ (AllThrough : Type 0) (each : AllThrough → (w : ℕ) (d : X) → w < length done → IsThrough (get_or done w d)) where
      part : (w : ℕ) (d : X) → w < length done → IsPart terms AllThrough w (seat_at (get_or done w d)) (claims_at (get_or done w d)) (admitted_at (get_or done w d))
      part w d below =
          let within : w < length desks = omega (arith, all) in
          let duty = duties w d within in
          let list = calls_at w d within in
          record {
            begins = subst (BeginsDutiful terms w) (sym list) (subst (λ k. BeginsDutiful terms k duty.calls) (number_is w d within) duty.begins);
            dutiful = λ through. own_duty w d within (each through w d below);
            claims_are = duty.claims_are ∙ ap claims (sym list);
            admissions_are = duty.admissions_are ∙ ap admissions (sym list);
          }

      -- **The epoch that all of them have made.**
      pub made : terms.engines ≤ 8 → terms.partitions ≤ 64 → ((cursor : ℕ) → lens cursor ≤ most_chunks) → (old new : View) → HasEnded terms old new (epoch_with lens seats')
          → (took helped : ℕ) → took ≡ min (sum_by claims_at done) (2 ^ 64 - 1) → helped ≡ min (sum_by admitted_at done) (2 ^ 64 - 1)
          → HasMadeEpoch terms lens AllThrough old new took helped (epoch_with lens seats')
      made few few_partitions small old new ended took helped took_is helped_is =
          subst (λ (s : List Hold). HasMadeEpoch terms lens AllThrough old new took helped (epoch_with lens s)) back
          (is_made seat_at terms lens few few_partitions small AllThrough claims_at admitted_at done (all ∙ all_desks) part old new
          (subst (λ (s : List Hold). HasEnded terms old new (epoch_with lens s)) (sym back) ended) took helped took_is helped_is)
