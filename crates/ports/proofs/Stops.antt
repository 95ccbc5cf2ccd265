-- Calls in a row: one beat, several beats, several disks.
use Rattle.std.proofs.Common.{◌≡◌, ℕ, ◌<◌, ◌≤◌, ◌⊎◌, List, [], ◌∷◌, length, inl, inr, arith, refl, sym, subst, ap, map, get_or, zero, suc}
use Rattle.std.proofs.lemmas.Bool.{cases_lt}
use Rattle.ports.specs.Bytes.{Same}
use Rattle.ports.specs.Disk.{DiskState, IsDisk, InEveryImage, Changes, After}
use Rattle.ports.specs.Stops.{Leaves, LeavesByBeat, IsStop, EachImage, EachLeaves}

-- Before any call.
pub started : (number : ℕ) (old : DiskState) (P : List ℕ → Type 0) → IsDisk old → InEveryImage old P → Leaves number old old P
started number old P disk begins = record {
  later = omega arith;
  each = λ b c stop. begins c (disk.only_now b c stop);
  since = λ b t c before stop. inl stop;
}

-- One call more.
pub goes_on : (number : ℕ) (old mid new : DiskState) (part : List ℕ → List ℕ → Type 0) (P : List ℕ → Type 0) → Leaves number old mid P → Changes number part mid new → InEveryImage new P → Leaves number old new P
goes_on number old mid new part P run changes ends = record {
  later = omega (arith, run.later, changes.later);
  each = λ b c stop. elim (changes.since b old.moment c run.later stop) [ inl earlier ↦ run.each b c earlier | inr now ↦ ends c now.1 ];
  since = λ b t c before stop.
      elim (changes.since b t c (omega (arith, run.later)) stop) [ inl earlier ↦ run.since b t c before earlier | inr now ↦ inr (now.0, ends c now.1) ];
}

-- One call alone.
pub by_one : (number : ℕ) (old new : DiskState) (part : List ℕ → List ℕ → Type 0) (P : List ℕ → Type 0) → IsDisk old → Changes number part old new → InEveryImage old P → InEveryImage new P → Leaves number old new P
by_one number old new part P disk changes begins ends = goes_on number old old new part P (started number old P disk begins) changes ends

-- One call, of which a stop leaves an image from before it with the call in part.
pub in_part : (number : ℕ) (old new : DiskState) (part : List ℕ → List ℕ → Type 0) → IsDisk old → ((a : List ℕ) → part a a) → Changes number part old new → Leaves number old new (After part old)
in_part number old new part disk nothing changes = by_one number old new part (After part old) disk changes (λ c image. (c, image, nothing c)) changes.images

-- And a sync after it.
pub part_synced : (number : ℕ) (old mid new : DiskState) (part : List ℕ → List ℕ → Type 0) → IsDisk old → ((a : List ℕ) → part a a) → Changes number part old mid → Changes number Same mid new → Leaves number old new (After part old)
part_synced number old mid new part disk nothing changes synced =
    goes_on number old mid new Same (After part old) (in_part number old mid part disk nothing changes) synced
    (λ c image. let before : After Same mid c = synced.images c image in subst (After part old) (sym before.2) (changes.images before.0 before.1))

-- A run, and then a run of a layer below: what its claim says follows.
pub joined : (number : ℕ) (old mid new : DiskState) (P Q : List ℕ → Type 0) → Leaves number old mid P → Leaves number mid new Q → ((c : List ℕ) → Q c → P c) → Leaves number old new P
joined number old mid new P Q first then follows = record {
  later = omega (arith, first.later, then.later);
  each = λ b c stop. elim (then.since b old.moment c first.later stop) [ inl earlier ↦ first.each b c earlier | inr now ↦ follows c now.1 ];
  since = λ b t c before stop.
      elim (then.since b t c (omega (arith, first.later)) stop) [ inl earlier ↦ first.since b t c before earlier | inr now ↦ inr (now.0, follows c now.1) ];
}

pub weaker : (number : ℕ) (old new : DiskState) (P Q : List ℕ → Type 0) → Leaves number old new P → ((c : List ℕ) → P c → Q c) → Leaves number old new Q
weaker number old new P Q run follows = record {
  later = run.later;
  each = λ b c stop. follows c (run.each b c stop);
  since = λ b t c before stop. elim (run.since b t c before stop) [ inl earlier ↦ inl earlier | inr now ↦ inr (now.0, follows c now.1) ];
}

-- What a run leaves at its end is among what it leaves.
pub leaves_now : (number : ℕ) (old new : DiskState) (P : List ℕ → Type 0) → IsDisk new → Leaves number old new P → InEveryImage new P
leaves_now number old new P disk run c image = run.each new.beat c (disk.counts_now new.beat old.moment c (omega arith) run.later image)

-- A run in one beat as one over several.
pub by_beat : (number : ℕ) (old new : DiskState) (P : List ℕ → Type 0) → Leaves number old new P → LeavesByBeat old new (λ b c. P c)
by_beat number old new P run = record {
  later = run.later;
  each = run.each;
  since = λ b t c before stop. elim (run.since b t c before stop) [ inl earlier ↦ inl earlier | inr now ↦ inr now.1 ];
}

pub by_beat_weaker : (old new : DiskState) (P Q : ℕ → List ℕ → Type 0) → LeavesByBeat old new P → ((b : ℕ) (c : List ℕ) → P b c → Q b c) → LeavesByBeat old new Q
by_beat_weaker old new P Q run follows = record {
  later = run.later;
  each = λ b c stop. follows b c (run.each b c stop);
  since = λ b t c before stop. elim (run.since b t c before stop) [ inl earlier ↦ inl earlier | inr now ↦ inr (follows b c now) ];
}

pub started_by_beat : (old : DiskState) (P : ℕ → List ℕ → Type 0) → IsDisk old → ((b : ℕ) → InEveryImage old (P b)) → LeavesByBeat old old P
started_by_beat old P disk begins = record {
  later = omega arith;
  each = λ b c stop. begins b c (disk.only_now b c stop);
  since = λ b t c before stop. inl stop;
}

-- Two runs over beats.
pub joined_by_beat : (old mid new : DiskState) (P Q : ℕ → List ℕ → Type 0) → LeavesByBeat old mid P → LeavesByBeat mid new Q → LeavesByBeat old new (λ b c. P b c ⊎ Q b c)
joined_by_beat old mid new P Q first then = record {
  later = omega (arith, first.later, then.later);
  each = λ b c stop. elim (then.since b old.moment c first.later stop) [ inl earlier ↦ inl (first.each b c earlier) | inr now ↦ inr now ];
  since = λ b t c before stop.
      elim (then.since b t c (omega (arith, first.later)) stop) [
        | inl earlier ↦ elim (first.since b t c before earlier) [ inl old ↦ inl old | inr p ↦ inr (inl p) ]
        | inr now ↦ inr (inr now)
      ];
}

-- A run that goes on in the same beat.
pub same_beat : (number : ℕ) (old mid new : DiskState) (P : ℕ → List ℕ → Type 0) (Q : List ℕ → Type 0) → LeavesByBeat old mid P → Leaves number mid new Q → LeavesByBeat old new (λ b c. P b c ⊎ ((number ≤ b) × Q c))
same_beat number old mid new P Q first then = record {
  later = omega (arith, first.later, then.later);
  each = λ b c stop. elim (then.since b old.moment c first.later stop) [ inl earlier ↦ inl (first.each b c earlier) | inr now ↦ inr now ];
  since = λ b t c before stop.
      elim (then.since b t c (omega (arith, first.later)) stop) [
        | inl earlier ↦ elim (first.since b t c before earlier) [ inl old ↦ inl old | inr p ↦ inr (inl p) ]
        | inr now ↦ inr (inr now)
      ];
}

-- A run in a later beat after one over several beats: a stop before that beat leaves what the first run says, and one
-- from it on what the second says. The second's claim has the images from which it began.
pub later_beat : (number : ℕ) (old mid new : DiskState) (P : ℕ → List ℕ → Type 0) (Q : List ℕ → Type 0) → IsDisk mid → mid.beat < number → LeavesByBeat old mid P → Leaves number mid new Q → InEveryImage mid Q → LeavesByBeat old new (λ b c. ((b < number) × P b c) ⊎ ((number ≤ b) × Q c))
later_beat number old mid new P Q disk later first then begins =
    let Claim : ℕ → List ℕ → Type 0 = λ b c. ((b < number) × P b c) ⊎ ((number ≤ b) × Q c) in
    record {
      later = omega (arith, first.later, then.later);
      each = λ b c stop.
          elim (then.since b old.moment c first.later stop) [
            | inl earlier ↦ elim (cases_lt b number) [
              | inl before ↦ inl (before, first.each b c earlier)
              | inr from ↦ inr (from, begins c (disk.later_beats b old.moment c (omega (arith, later, from)) earlier))
            ]
            | inr now ↦ inr now
          ];
      since = λ b t c before stop.
          elim (then.since b t c (omega (arith, first.later)) stop) [
            | inl earlier ↦ elim (cases_lt b number) [
              | inl below ↦ elim (first.since b t c before earlier) [ inl past ↦ inl past | inr p ↦ inr (inl (below, p)) ]
              | inr from ↦ inr (inr (from, begins c (disk.later_beats b t c (omega (arith, later, from)) earlier)))
            ]
            | inr now ↦ inr (inr now)
          ];
    }

-- The same of two runs in one beat each.
pub in_turn : (first then : ℕ) (old mid new : DiskState) (P Q : List ℕ → Type 0) → IsDisk mid → mid.beat ≤ first → first < then → Leaves first old mid P → Leaves then mid new Q → InEveryImage mid Q → LeavesByBeat old new (λ b c. ((b < then) × P c) ⊎ ((then ≤ b) × Q c))
in_turn first then old mid new P Q disk beat order run next begins =
    later_beat then old mid new (λ b c. P c) Q disk (omega (arith, beat, order)) (by_beat first old mid P run) next begins

-- A beat without a call finds the disk as it was left.
pub idle_beat : (old new : DiskState) → IsDisk new → (b : ℕ) (c : List ℕ) → new.beat < b → new.stops b old.moment c → new.images c
idle_beat old new disk b c later stop = disk.later_beats b old.moment c later stop

-- Several disks. A stop takes one image of each, and each image has what is claimed of its own disk: so whatever follows
-- from these claims holds of any choice of one image for each disk.
pub each_of_stop : (P : ℕ → DiskState → ℕ → List ℕ → Type 0) (b : ℕ) (olds news : List DiskState) (images : List (List ℕ)) → EachLeaves P olds news → IsStop b olds news images → EachImage (λ i old. P i old b) olds images
each_of_stop P b (old ∷ olds) (new ∷ news) (c ∷ cs) runs stop = (runs.0.each b c stop.0, each_of_stop (λ i. P (suc i)) b olds news cs runs.1 stop.1)
each_of_stop P b (old ∷ olds) (new ∷ news) [] runs stop = absurd stop
each_of_stop P b (old ∷ olds) [] images runs stop = absurd stop
each_of_stop P b [] (new ∷ news) images runs stop = absurd stop
each_of_stop P b [] [] (c ∷ cs) runs stop = absurd stop
each_of_stop P b [] [] [] runs stop = tt

pub each_image_weaker : (P Q : ℕ → DiskState → List ℕ → Type 0) (disks : List DiskState) (images : List (List ℕ)) → ((i : ℕ) (disk : DiskState) (c : List ℕ) → P i disk c → Q i disk c) → EachImage P disks images → EachImage Q disks images
each_image_weaker P Q (disk ∷ disks) (c ∷ cs) follows holds = (follows 0 disk c holds.0, each_image_weaker (λ i. P (suc i)) (λ i. Q (suc i)) disks cs (λ i. follows (suc i)) holds.1)
each_image_weaker P Q (disk ∷ disks) [] follows holds = absurd holds
each_image_weaker P Q [] (c ∷ cs) follows holds = absurd holds
each_image_weaker P Q [] [] follows holds = tt

pub length-each_image : (P : ℕ → DiskState → List ℕ → Type 0) (disks : List DiskState) (images : List (List ℕ)) → EachImage P disks images → length images ≡ length disks
length-each_image P (disk ∷ disks) (c ∷ cs) holds = ap suc (length-each_image (λ i. P (suc i)) disks cs holds.1)
length-each_image P (disk ∷ disks) [] holds = absurd holds
length-each_image P [] (c ∷ cs) holds = absurd holds
length-each_image P [] [] holds = refl

-- the claims, by the places of the disks in two slices
pub each_leaves : {X : Type 0} (state : X → DiskState) (P : ℕ → DiskState → ℕ → List ℕ → Type 0) (olds news : List X) → length news ≡ length olds → ((i : ℕ) (d : X) → i < length olds → LeavesByBeat (state (get_or olds i d)) (state (get_or news i d)) (P i (state (get_or olds i d)))) → EachLeaves P (map state olds) (map state news)
each_leaves state P (old ∷ olds) (new ∷ news) same runs = (runs 0 old (omega arith), each_leaves state (λ i. P (suc i)) olds news (omega arith) (λ i d within. runs (suc i) d (omega arith)))
each_leaves state P [] [] same runs = tt
each_leaves state P (old ∷ olds) [] same runs = absurd (omega arith)
each_leaves state P [] (new ∷ news) same runs = absurd (omega arith)

-- and what is said of one image
pub each_image_at : {X : Type 0} (state : X → DiskState) (P : ℕ → DiskState → List ℕ → Type 0) (disks : List X) (images : List (List ℕ)) → EachImage P (map state disks) images → (i : ℕ) (d : X) → i < length disks → P i (state (get_or disks i d)) (get_or images i [])
each_image_at state P (disk ∷ disks) (c ∷ cs) holds zero d within = holds.0
each_image_at state P (disk ∷ disks) (c ∷ cs) holds (suc i) d within = each_image_at state (λ k. P (suc k)) disks cs holds.1 i d (omega arith)
each_image_at state P (disk ∷ disks) [] holds i d within = absurd holds
each_image_at state P [] images holds i d within = absurd (omega arith)
