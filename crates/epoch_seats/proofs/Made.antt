-- From what each worker has done at its desk to what was done in the epoch.
use Rattle.std.proofs.Common.{◌≡◌, ℕ, suc, ◌+◌, ◌*◌, ◌-◌, ◌^◌, ◌<◌, ◌≤◌, min, List, [], ◌∷◌, ◌++◌, map, length, get_or, refl, ap, sym, ◌∙◌, subst, arith}
use Rattle.std.specs.List.{flat_map, sum_by}
use Rattle.std.proofs.lemmas.List.{get_or-map, length-map}
use Rattle.std.proofs.lemmas.List.Sums.{sum_by-cons}
use Rattle.chunk_object.specs.declared.call.Call.{Call}
use Rattle.chunk_object.specs.History.{most_chunks}
use Rattle.chunk_object.specs.Epochs.{Terms, Epoch, all_calls}
use Rattle.chunk_object.specs.Duty.{IsDutiful, BeginsDutiful, MeetsDuty}
use Rattle.chunk_object.proofs.Covered.{count_by-append}
use Rattle.chunk_object.proofs.Dutiful.{duty_takes_each}
use Rattle.chunk_cursor.specs.declared.view.View.{View}
use Rattle.chunk_cursor.specs.Hold.{Hold}
use Rattle.worker_duty.specs.Views.{calls_of}
use Rattle.phase_model.specs.Taken.{claims, is_admission, admissions}
use Rattle.phase_model.proofs.Lists.{claims-append}
use Rattle.epoch_seats.specs.Between.{HasEnded}
use Rattle.epoch_seats.specs.Seats.{epoch_with}
use Rattle.epoch_seats.specs.Made.{BeginsDuty, HasMadeEpoch}
use Rattle.epoch_seats.proofs.Few.{admitted_few, claimed_few}

-- what a worker with this desk did
pub record IsPart (terms : Terms) (IsThrough : Type 0) (worker : ℕ) (seat : Hold) (claimed admitted : ℕ) : Type 0 where
  pub begins : BeginsDutiful terms worker (calls_of seat.view)
  pub dutiful : IsThrough → IsDutiful terms worker (calls_of seat.view)
  pub claims_are : claimed ≡ claims (calls_of seat.view)
  pub admissions_are : admitted ≡ admissions (calls_of seat.view)

module _ {X : Type 0} (seat : X → Hold) where
  abbrev lists : List X → List (List Call)
  lists desks = map (λ (s : Hold). calls_of s.view) (map seat desks)

  pub list_is : (desks : List X) (w : ℕ) (d : X) → w < length desks → get_or (lists desks) w [] ≡ calls_of (seat (get_or desks w d)).view
  list_is desks w d below =
      get_or-map (λ (s : Hold). calls_of s.view) (map seat desks) w (seat d) [] (omega (arith, length-map desks seat))
      ∙ ap (λ (s : Hold). calls_of s.view) (get_or-map seat desks w d (seat d) below)

  sums : (number : List Call → ℕ) → number [] ≡ 0 → ((xs ys : List Call) → number (xs ++ ys) ≡ number xs + number ys)
      → (own : X → ℕ) (desks : List X) → ((w : ℕ) (d : X) → w < length desks → own (get_or desks w d) ≡ number (calls_of (seat (get_or desks w d)).view)) → number (flat_map (λ calls. calls) (lists desks)) ≡ sum_by own desks
  sums number none append own [] each = none
  sums number none append own (desk ∷ desks) each =
      append (calls_of (seat desk).view) (flat_map (λ calls. calls) (lists desks))
      ∙ omega (arith, each 0 desk (omega arith), sums number none append own desks (λ w d below. each (suc w) d (omega arith)), sum_by-cons own desk desks)

  pub element : (desks : List X) (w : ℕ) → w < length desks → X
  element [] w below = absurd (omega arith)
  element (desk ∷ desks) w below = desk

  module _ (terms : Terms) (lens : ℕ → ℕ) (few : terms.engines ≤ 8) (few_partitions : terms.partitions ≤ 64) (small : (cursor : ℕ) → lens cursor ≤ most_chunks) (IsThrough : Type 0) (claimed admitted : X → ℕ) where
    abbrev epoch : List X → Epoch
    epoch desks = epoch_with lens (map seat desks)

    pub is_made : (desks : List X) → length desks ≡ terms.engines → ((w : ℕ) (d : X) → w < length desks → IsPart terms IsThrough w (seat (get_or desks w d)) (claimed (get_or desks w d)) (admitted (get_or desks w d)))
        → (before after : View) → HasEnded terms before after (epoch_with lens (map seat desks)) → (took helped : ℕ) → took ≡ min (sum_by claimed desks) (2 ^ 64 - 1) → helped ≡ min (sum_by admitted desks) (2 ^ 64 - 1)
        → HasMadeEpoch terms lens IsThrough before after took helped (epoch_with lens (map seat desks))
    is_made desks many each before after ended took helped took_is helped_is = record {
      lens_are = refl;
      ended = ended;
      begins = begins;
      duty = duty;
      once = λ through. duty_takes_each terms (epoch desks) few_partitions (duty through) after.story ended.whole before.story before.splits ended.story;
      claims_are = omega (arith, took_is, all_claims, claims_few);
      admissions_are = omega (arith, helped_is, all_admissions, admissions_few);
      few = (omega (arith, took_is, all_claims, claims_few), omega (arith, helped_is, all_admissions, admissions_few));
    }
      where
        many_lists : length (lists desks) ≡ terms.engines
        many_lists = length-map (map seat desks) (λ (s : Hold). calls_of s.view) ∙ (length-map desks seat ∙ many)

        begins : BeginsDuty terms (epoch desks)
        begins = record {
          workers = many_lists;
          each = λ w below. let within : w < length desks = omega arith in let d = element desks w within in subst (BeginsDutiful terms w) (sym (list_is desks w d within)) (each w d within).begins;
        }

        duty : IsThrough → MeetsDuty terms (epoch desks)
        duty through = record {
          workers = many_lists;
          each = λ w below. let within : w < length desks = omega arith in let d = element desks w within in subst (IsDutiful terms w) (sym (list_is desks w d within)) ((each w d within).dutiful through);
        }

        all_claims : claims (all_calls (epoch desks)) ≡ sum_by claimed desks
        all_claims = sums claims refl claims-append claimed desks (λ w d below. (each w d below).claims_are)

        all_admissions : admissions (all_calls (epoch desks)) ≡ sum_by admitted desks
        all_admissions = sums admissions refl (count_by-append is_admission) admitted desks (λ w d below. (each w d below).admissions_are)

        claims_few : claims (all_calls (epoch desks)) ≤ 512 * most_chunks
        claims_few = claimed_few terms (epoch desks) begins before after ended few few_partitions small

        admissions_few : admissions (all_calls (epoch desks)) ≤ 512
        admissions_few = admitted_few terms (epoch desks) begins few few_partitions
