-- Calls in a row, each with what a stop leaves by its beat, as one.
use Rattle.std.proofs.Common.{ℕ, ◌<◌, ◌≤◌, ◌⊎◌, List, inl, inr, arith}
use Rattle.std.proofs.lemmas.Bool.{cases_lt}
use Rattle.ports.specs.Disk.{DiskState, IsDisk}
use Rattle.ports.specs.Stops.{LeavesByBeat}
use Rattle.ports.proofs.Stops.{joined_by_beat, by_beat_weaker}

module _ (old mid new : DiskState) where
  -- **Two with the same claim.**
  pub same_claim : (P : ℕ → List ℕ → Type 0) → LeavesByBeat old mid P → LeavesByBeat mid new P → LeavesByBeat old new P
  same_claim P first then = by_beat_weaker old new (λ b c. P b c ⊎ P b c) P (joined_by_beat old mid new P P first then) (λ b c either. elim either [ inl p ↦ p | inr p ↦ p ])

  -- **The second begins after the beat of this number**, which the first has not passed: a stop in a later beat leaves what
  -- the second says, of the images from which it began too.
  pub in_later_beats : (number : ℕ) (P Q : ℕ → List ℕ → Type 0) → IsDisk mid → mid.beat ≤ number → LeavesByBeat old mid (λ b c. b ≤ number → P b c) → LeavesByBeat mid new Q
      → ((b : ℕ) (c : List ℕ) → number < b → mid.images c → Q b c) → LeavesByBeat old new (λ b c. ((b ≤ number) × (P b c ⊎ Q b c)) ⊎ ((number < b) × Q b c))
  in_later_beats number P Q disk beat first then begins = record {
    later = omega (arith, first.later, then.later);
    each = λ b c stop.
        elim (then.since b old.moment c first.later stop) [
          | inl earlier ↦ elim (cases_lt number b) [
            | inl after ↦ inr (after, begins b c after (disk.later_beats b old.moment c (omega (arith, beat, after)) earlier))
            | inr within ↦ inl (within, inl (first.each b c earlier within))
          ]
          | inr now ↦ elim (cases_lt number b) [ inl after ↦ inr (after, now) | inr within ↦ inl (within, inr now) ]
        ];
    since = λ b t c before stop.
        elim (then.since b t c (omega (arith, before, first.later)) stop) [
          | inl earlier ↦ elim (cases_lt number b) [
            | inl after ↦ inr (inr (after, begins b c after (disk.later_beats b t c (omega (arith, beat, after)) earlier)))
            | inr within ↦ elim (first.since b t c before earlier) [ inl past ↦ inl past | inr p ↦ inr (inl (within, inl (p within))) ]
          ]
          | inr now ↦ elim (cases_lt number b) [ inl after ↦ inr (inr (after, now)) | inr within ↦ inr (inl (within, inr now)) ]
        ];
  }
