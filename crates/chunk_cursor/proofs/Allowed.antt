-- Each call of the table takes a step that is allowed.
use Rattle.std.proofs.Common.{◌≡◌, ◌≢◌, ℕ, suc, ◌+◌, ◌-◌, ◌*◌, ◌/◌, ◌%◌, ◌^◌, ◌<◌, ◌≤◌, false, eqb, [], ◌∷◌, ◌++◌, get_or, set, refl, ap, sym, ◌∙◌, subst, arith}
use Rattle.std.proofs.Math.Nat.{mul-div_cancel}
use mathlib.Core.Option.{some, none}
use lib.ListN.{get_elem?}
use prog.Atomic.{either}
use Rattle.atomic_table.specs.Table.{step, keeps, Allows, Splits, Joins}
use Rattle.atomic_table.proofs.Lists.{set_else}
use Rattle.chunk_object.specs.declared.call.Call.TheVariants.{Open, Greet, Look, Heads, Split, Join}
use Rattle.chunk_object.specs.History.{living, stages, most_chunks}
use Rattle.chunk_cursor.specs.declared.view.View.{View}
use Rattle.chunk_cursor.specs.View.{entry, with_call, out_at, IsFirst, IsAlone, MayClaim, MayAdmit, nobody, after_split, split_off, after_join}
use Rattle.chunk_cursor.specs.Rule.{half, IsKept}
use Rattle.chunk_cursor.specs.Steps.{Seated, Opened, Greeted, claim_at, Claimed, Looked, Counted, admit_at, Tried, Settled}
use Rattle.chunk_cursor.proofs.Growing.{split_grows, join_grows}
use Rattle.chunk_cursor.proofs.Words.{split_shows, join_shows}
use Rattle.chunk_cursor.proofs.Seatings.{seat_at_zero, seat_serial}
use Rattle.chunk_cursor.proofs.Partings.{split_seats, join_seats}
use Rattle.chunk_cursor.proofs.Steps.{keeps_open, keeps_greet, keeps_claim, may_take, keeps_look, opened_is, len_most, keeps_heads, may_heads, keeps_admit, stands_in, all_stand_in, keeps_settle}

-- the word of a partition's helpers tells which partition it is
behind : (p : ℕ) → p ≡ 512 + p - 512
behind p = omega arith

module _ (slots id : ℕ) (me : Seated) (alive : me.0.spent ≡ false) where
  pub allows_open : (cursor len : ℕ) → cursor < 512 → len ≤ most_chunks → IsAlone me.0
      → Allows IsKept slots id me cursor (λ n. len * 4294967296) (Opened (step slots cursor (len * 4294967296) 0 none) me)
  allows_open cursor len below few alone s k homes at fits =
      let back : len ≡ len * half / half = sym (mul-div_cancel len (omega arith)) in
      (with_call me.0 (Open cursor len), keeps, tt, keeps_open s k id me.0 at alive cursor len below few alone, λ i. (with_call me.0 (Open cursor (back i)), me.1))

  pub allows_greet : (p : ℕ) → p < 64 → IsAlone me.0 → Allows IsKept slots id me (512 + p) (λ n. 1) (Greeted (step slots (512 + p) 1 0 none) me)
  allows_greet p below alone s k homes at fits =
      (with_call me.0 (Greet p), keeps, tt, keeps_greet s k id me.0 at alive p below alone, λ i. (with_call me.0 (Greet (behind p i)), me.1))

  pub allows_claim : (cursor : ℕ) → cursor < 512 → MayClaim me.0 cursor → Allows IsKept slots id me cursor (λ n. (n + 1) % 2 ^ 64) (Claimed (step slots cursor 1 0 none) me)
  allows_claim cursor below may s k homes at fits =
      (with_call me.0 (claim_at cursor (get_or s.words cursor 0)), keeps, tt, keeps_claim s k id me.0 at alive cursor below may, (refl, may_take s k id me.0 at alive cursor below))

  pub allows_look : (cursor : ℕ) → cursor < 512 → Allows IsKept slots id me cursor (λ n. n) (Looked (step slots cursor 0 0 none) me)
  allows_look cursor below s k homes at fits = (
    with_call me.0 (Look cursor (get_or s.words cursor 0 / half - get_or s.words cursor 0 % half)),
    keeps,
    tt,
    keeps_look s k id me.0 at alive cursor below,
    (refl, opened_is s k id me.0 at alive cursor below, len_most s k id me.0 at alive cursor below),
  )

  pub allows_heads : (p : ℕ) → p < 64 → Allows IsKept slots id me (512 + p) (λ n. n) (Counted (step slots (512 + p) 0 0 none) me)
  allows_heads p below s k homes at fits = (
    with_call me.0 (Heads p (get_or s.words (512 + p) 0)),
    keeps,
    tt,
    keeps_heads s k id me.0 at alive p below,
    (λ i. (with_call me.0 (Heads (behind p i) (get_or s.words (512 + p) 0)), me.1), λ may. may_heads s k id me.0 at alive p below (subst (MayAdmit me.0) (sym (behind p)) may)),
  )

  pub allows_admit : (p heads : ℕ) → p < 64 → MayAdmit me.0 p → Allows IsKept slots id me (512 + p) (λ n. either (eqb n heads) (heads + 1) n) (Tried (step slots (512 + p) heads (heads + 1) none) me)
  allows_admit p heads below may s k homes at fits =
      let found = get_or s.words (512 + p) 0 in
      let few = may_heads s k id me.0 at alive p below may in (
        with_call me.0 (admit_at p heads found),
        keeps,
        tt,
        keeps_admit s k id me.0 at alive p below may heads,
        (λ i. (with_call me.0 (admit_at (behind p i) heads found), me.1), few.0, few.1),
      )

  pub allows_settle : Allows IsKept slots id me 0 (λ n. n) (Settled (step slots 0 0 0 none) me)
  allows_settle s k homes at fits = (me.0, keeps, tt, keeps_settle s k id me.0 at alive, (refl, stands_in s k id me.0 at alive, all_stand_in s k id me.0 at alive))

module _ (id : ℕ) (v : View) (alive : v.spent ≡ false) (first : IsFirst v) where
  pub splits : (worker : ℕ) → worker < 8 → out_at v worker ≡ 0 → Splits IsKept id v (after_split worker v) (split_off worker v)
  splits worker below vacant s k at =
      let zero : id ≡ 0 = sym (seat_serial k.history k.first s.views k.seats id v at alive) ∙ first.0 in
      let same : k.first ≡ v = sym (seat_at_zero k.history k.first s.views k.seats id v at alive zero) in
      let P : ℕ → View → Type 0 = λ i u. IsKept (record { words = s.words; homes = s.homes; views = set s.views i (after_split worker u) ++ split_off worker u ∷ [] }) in
      let none_first : out_at k.first worker ≡ 0 = ap (λ (u : View). out_at u worker) same ∙ vacant in
      let lives : k.first.serial ≢ 0 → stages k.history k.first.serial ≡ living = λ ne. absurd (ne k.seats.number.0) in
      let small : k.first.worker ≤ 8 = omega (arith, k.seats.number.1) in
      subst (λ i. P i v) (sym zero) (subst (P 0) same (record {
        history = k.history ++ entry k.first (Split (suc k.first.splits) worker) ∷ [];
        first = after_split worker k.first;
        is = split_grows k.history k.is k.first.serial k.first.worker lives small (suc k.first.splits) worker k.seats.number.0 (k.seats.unborn_later (suc k.first.splits) (omega arith));
        shows = split_shows s.words k.history k.shows k.first.serial k.first.worker (suc k.first.splits) worker;
        seats = split_seats k.history k.first s.views k.seats worker below none_first;
      }))

  pub joins : (other : ℕ) (u : View) → u.spent ≡ false → Joins IsKept id v other u (after_join v u) nobody
  joins other u living_other s k at apart there =
      let zero : id ≡ 0 = sym (seat_serial k.history k.first s.views k.seats id v at alive) ∙ first.0 in
      let same : k.first ≡ v = sym (seat_at_zero k.history k.first s.views k.seats id v at alive zero) in
      let P : ℕ → View → Type 0 = λ i w. IsKept (record { words = s.words; homes = s.homes; views = set (set s.views i (after_join w u)) other nobody }) in
      let ne : other ≢ 0 = λ e. apart (e ∙ sym zero) in
      let at_other : get_elem? s.views other ≡ some u = sym (set_else s.views id other (after_join v u) apart) ∙ there in
      let lives : k.first.serial ≢ 0 → stages k.history k.first.serial ≡ living = λ more. absurd (more k.seats.number.0) in
      let small : k.first.worker ≤ 8 = omega (arith, k.seats.number.1) in
      let seat = k.seats.seated other u at_other ne living_other in
      subst (λ i. P i v) (sym zero) (subst (P 0) same (record {
        history = k.history ++ entry k.first (Join u.serial u.worker) ∷ [];
        first = after_join k.first u;
        is = join_grows k.history k.is k.first.serial k.first.worker lives small u.serial u.worker k.seats.number.0 (ap (stages k.history) seat.serial ∙ seat.lives);
        shows = join_shows s.words k.history k.shows k.first.serial k.first.worker u.serial u.worker;
        seats = join_seats k.history k.first s.views k.seats other u at_other living_other ne;
      }))
