-- The seats that are split off, one worker after another.
use Rattle.std.proofs.Common.{◌≡◌, ℕ, suc, ◌+◌, ◌≤◌, true, false, List, [], ◌∷◌, ◌++◌, map, get_or, length, refl, ap, sym, ◌∙◌, subst, arith, append_assoc, add-one}
use Rattle.std.specs.List.{range_with_len}
use Rattle.std.proofs.lemmas.List.{append-nil, map-append}
use Rattle.std.proofs.lemmas.List.FromFn.{map-range_with_len_more, length-map-range_with_len, get_or-map-range_with_len}
use Rattle.chunk_object.specs.declared.call.Call.TheVariants.{Split}
use Rattle.chunk_object.specs.History.{epoch_of}
use Rattle.chunk_object.specs.Epochs.{Terms, entry_of, first_entries, opens_of, greets_of, splits_of}
use Rattle.chunk_cursor.specs.declared.view.View.{View}
use Rattle.chunk_cursor.specs.View.{entry, with_calls, OutWithin, IsAlone, after_split, split_off}
use Rattle.chunk_cursor.specs.Hold.{Hold, TableId}
use Rattle.chunk_cursor.proofs.Knowing.{within_alone, within_split}
use Rattle.worker_duty.proofs.Beginnings.{may_work}
use Rattle.epoch_seats.specs.Seats.{HasBegun, IsNewSeat, AreNewSeats}
use Rattle.epoch_seats.specs.Opening.{HasSplit, seat_of_worker, split_seats_of}
use Rattle.epoch_seats.proofs.Opening.{first_story}

pub no_split : (v : View) → IsAlone v → HasSplit 0 v v
no_split v alone = record { number = alone.first; story = sym (append-nil v.story); splits = omega arith; held = refl; out = within_alone v alone 0 }

-- the splits of the workers below n, and that of n
splits_more : (before n : ℕ) → first_entries (splits_of before (n + 1)) ≡ first_entries (splits_of before n) ++ entry_of 0 8 (Split (suc (before + n)) n) ∷ []
splits_more before n =
    ap first_entries (map-range_with_len_more (λ w. Split (suc (before + w)) w) 0 n n (omega arith)) ∙ map-append (entry_of 0 8) (splits_of before n) (Split (suc (before + n)) n ∷ [])

split_entry : (n : ℕ) (old v : View) → HasSplit n old v → entry v (Split (suc v.splits) n) ≡ entry_of 0 8 (Split (suc (old.splits + n)) n)
split_entry n old v has =
    ap (λ serial. entry_of serial v.worker (Split (suc v.splits) n)) has.number.0
    ∙ (ap (λ worker. entry_of 0 worker (Split (suc v.splits) n)) has.number.1 ∙ ap (λ splits. entry_of 0 8 (Split (suc splits) n)) has.splits)

split_story : (n : ℕ) (old v : View) → HasSplit n old v → (after_split n v).story ≡ old.story ++ first_entries (splits_of old.splits (n + 1))
split_story n old v has =
    ap (λ e. v.story ++ e ∷ []) (split_entry n old v has)
    ∙ (ap (λ l. l ++ entry_of 0 8 (Split (suc (old.splits + n)) n) ∷ []) has.story
    ∙ (append_assoc old.story (first_entries (splits_of old.splits n)) (entry_of 0 8 (Split (suc (old.splits + n)) n) ∷ [])
    ∙ ap (λ l. old.story ++ l) (sym (splits_more old.splits n))))

pub split_more : (n : ℕ) (old v : View) → HasSplit n old v → HasSplit (n + 1) old (after_split n v)
split_more n old v has = record {
  number = has.number;
  story = split_story n old v has;
  splits = omega (arith, has.splits);
  held = has.held;
  out = subst (λ k. OutWithin 0 k (after_split n v)) (sym (add-one n)) (within_split 0 n v (omega arith) has.out);
}

-- the seat that is split off for worker n
pub seat_is : (n : ℕ) (first seat other : Hold) → HasSplit n first.view seat.view → other.table ≡ first.table → other.view ≡ split_off n seat.view → other ≡ seat_of_worker first n
seat_is n first seat other has table view = λ i. record { table = table i; view = (view ∙ of_worker) i }
  where
    of_worker : split_off n seat.view ≡ (seat_of_worker first n).view
    of_worker =
        ap (λ splits. record { serial = suc splits; worker = n; held = (after_split n seat.view).story; story = []; splits = 0; out = []; spent = false }) has.splits
        ∙ ap (λ held. record { serial = suc (first.view.splits + n); worker = n; held = held; story = []; splits = 0; out = []; spent = false }) (split_story n first.view seat.view has)

pub seats_more : (n : ℕ) (first other : Hold) (seats : List Hold) → seats ≡ split_seats_of n first → other ≡ seat_of_worker first n → seats ++ other ∷ [] ≡ split_seats_of (n + 1) first
seats_more n first other seats so_far next = ap (λ l. l ++ other ∷ []) so_far ∙ (ap (λ x. split_seats_of n first ++ x ∷ []) next ∙ sym (map-range_with_len_more (seat_of_worker first) 0 n n (omega arith)))

-- The whole front of an epoch.
module _ (terms : Terms) (lens : ℕ → ℕ) (before front : View) (alone : IsAlone before) (front_is : front ≡ with_calls (with_calls before (opens_of terms lens)) (greets_of terms)) where
  front_story : front.story ≡ (before.story ++ first_entries (opens_of terms lens)) ++ first_entries (greets_of terms)
  front_story =
      ap (λ (v : View). v.story) front_is
      ∙ (first_story (with_calls before (opens_of terms lens)) alone.first (greets_of terms) ∙ ap (λ l. l ++ first_entries (greets_of terms)) (first_story before alone.first (opens_of terms lens)))

  front_splits : front.splits ≡ before.splits
  front_splits = ap (λ (v : View). v.splits) front_is

  whole_front : (n : ℕ) → front.story ++ first_entries (splits_of front.splits n) ≡ before.story ++ (first_entries (opens_of terms lens) ++ (first_entries (greets_of terms) ++ first_entries (splits_of before.splits n)))
  whole_front n =
      ap (λ splits. front.story ++ first_entries (splits_of splits n)) front_splits
      ∙ (ap (λ l. l ++ first_entries (splits_of before.splits n)) front_story
      ∙ simp append_assoc)

  pub has_begun : (first : View) → HasSplit terms.engines front first → HasBegun terms lens before first
  has_begun first has = record {
    number = has.number;
    story = has.story ∙ whole_front terms.engines;
    splits = omega (arith, has.splits, front_splits);
    held = has.held ∙ ap (λ (v : View). v.held) front_is;
    out = has.out;
  }

  pub new_seats : 1 ≤ terms.engines → terms.engines ≤ 8 → 1 ≤ terms.partitions → terms.partitions ≤ 64 → (epoch_of before.story).is_split ≡ true
      → (table : TableId) (first : Hold) → first.table ≡ table → first.view ≡ front → AreNewSeats terms lens before.splits table (split_seats_of terms.engines first)
  new_seats some few some_partition few_partitions ended table first of_table is = record {
    many = length-map-range_with_len (seat_of_worker first) 0 terms.engines;
    each = λ w seat below. subst (IsNewSeat terms lens before.splits w table) (sym (get_or-map-range_with_len (seat_of_worker first) 0 terms.engines w w seat below (omega arith))) (new_seat w);
  }
    where
      splits_are : first.view.splits ≡ before.splits
      splits_are = ap (λ (v : View). v.splits) is ∙ front_splits

      held_is : (n : ℕ) → first.view.story ++ first_entries (splits_of first.view.splits n) ≡ before.story ++ (first_entries (opens_of terms lens) ++ (first_entries (greets_of terms) ++ first_entries (splits_of before.splits n)))
      held_is n = ap (λ (v : View). v.story ++ first_entries (splits_of v.splits n)) is ∙ whole_front n

      new_seat : (w : ℕ) → IsNewSeat terms lens before.splits w table (seat_of_worker first w)
      new_seat w = record {
        of_table = of_table;
        is = record { serial = ap (λ n. suc (n + w)) splits_are; number = refl; own = refl };
        story = refl;
        may = may_work terms lens before.story before.splits (w + 1) some few some_partition few_partitions ended (seat_of_worker first w).view (λ e. absurd (omega (arith, e))) refl (held_is (w + 1));
      }
