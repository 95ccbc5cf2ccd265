-- What a stop leaves of one values device, from round to round.
use Rattle.std.proofs.Common.{◌≡◌, ℕ, ◌+◌, ◌-◌, ◌<◌, ◌≤◌, List, Option, Some, ◌⊎◌, inl, inr, refl, sym, ◌∙◌, subst, arith}
use Rattle.std.proofs.lemmas.Bool.{cases_lt}
use Rattle.graph_model.specs.declared.edge.Edge.{Edge}
use Rattle.graph_model.specs.declared.job.Job.{Job}
use Rattle.graph_model.specs.Programs.{Rules}
use Rattle.ports.specs.Disk.{DiskState, IsDisk, InEveryImage}
use Rattle.ports.specs.Stops.{Leaves, LeavesByBeat}
use Rattle.ports.specs.Told.{AsTold}
use Rattle.ports.proofs.Stops.{started_by_beat, by_beat_weaker, later_beat, leaves_now}
use Rattle.ports.proofs.Told.{as_told_to, present_at}
use Rattle.store_model.specs.Kept.{own_of, own_vertices}
use Rattle.store_model.specs.Slots.{slot_of, slot_bytes}
use Rattle.checkpoint.specs.SlotStates.{SameOther}
use Rattle.checkpoint.specs.Storing.{WhileStoring}
use Rattle.round_loop.specs.Starts.{IsReached}
use Rattle.round_loop.specs.Kept.{changed_by, share, Holds, Gives, HasStood, Stands, SlotLeft, Left, LeftSince}
use Rattle.store_model.proofs.SlotBytes.{closed_still, held_still}

-- the slots of two rounds in a row
pub other_slot : (round : ℕ) → 1 ≤ round → slot_of (round - 1) ≡ 1 - slot_of round
other_slot round later = omega arith

slot_cases : (slot round : ℕ) → slot < 2 → (slot ≡ slot_of round) ⊎ (slot ≡ 1 - slot_of round)
slot_cases slot round small = grind arith

module _ (rules : Rules) (job : Job) (edges : List Edge) (e : ℕ) where
  abbrev pub While : (round : ℕ) → DiskState → List ℕ → Type 0
  While round start = WhileStoring (own_of job e) (slot_of round) round (changed_by rules job edges round (own_vertices job e)) (share rules job edges round e) start

  -- a round stands where its slot has the bytes of one in which it does
  pub holds_still : (round : ℕ) (a b : List ℕ) → slot_bytes (own_of job e) (slot_of round) b ≡ slot_bytes (own_of job e) (slot_of round) a → Holds rules job edges round e a → Holds rules job edges round e b
  holds_still round a b same holds = held_still (own_of job e) (slot_of round) a b same round (changed_by rules job edges round (own_vertices job e)) (share rules job edges round e) holds

  -- the round before stands while a round is made
  pub before_stands : (round : ℕ) (mid : DiskState) (bytes : List ℕ) → 1 ≤ round → InEveryImage mid (Holds rules job edges (round - 1) e) → While round mid bytes → Holds rules job edges (round - 1) e bytes
  before_stands round mid bytes later kept while =
      holds_still (round - 1) while.image bytes
      (subst (λ s. slot_bytes (own_of job e) s bytes ≡ slot_bytes (own_of job e) s while.image) (sym (other_slot round later)) while.other)
      (kept while.image while.is_image)

  -- a round that was made
  pub made_stands : (first round : ℕ) (start now : DiskState) → IsDisk now → (bytes : List ℕ) × (now.bytes ≡ Some bytes) → InEveryImage now (Holds rules job edges round e) → Stands rules job edges first round e start now
  made_stands first round start now disk tells holds = record {
    read = (tells.0, tells.1, holds tells.0 (present_at now tells.0 disk tells.1));
    images = λ had. holds;
  }

  -- a read still gives the round before one that is made
  before_read : (round : ℕ) (mid now : DiskState) → 1 ≤ round → AsTold (SameOther (own_of job e) (slot_of round)) mid.bytes now.bytes → Gives rules job edges (round - 1) e mid → Gives rules job edges (round - 1) e now
  before_read round mid now later bytes read =
      let tells : (c : List ℕ) × (now.bytes ≡ Some c) × SameOther (own_of job e) (slot_of round) read.0 c
      = as_told_to (SameOther (own_of job e) (slot_of round)) read.0 now.bytes (subst (λ (b : Option (List ℕ)). AsTold (SameOther (own_of job e) (slot_of round)) b now.bytes) read.1 bytes) in (
        tells.0,
        tells.1,
        holds_still (round - 1) read.0 tells.0 (subst (λ s. slot_bytes (own_of job e) s tells.0 ≡ slot_bytes (own_of job e) s read.0) (sym (other_slot round later)) tells.2) read.2,
      )

  -- and it stands, whether that is done or not
  pub before_still : (number first round : ℕ) (start mid now : DiskState) → 1 ≤ round → IsDisk now → Stands rules job edges first (round - 1) e start mid → AsTold (SameOther (own_of job e) (slot_of round)) mid.bytes now.bytes → Leaves number mid now (While round mid) →
      Stands rules job edges first (round - 1) e start now
  before_still number first round start mid now later disk stands bytes leaves = record {
    read = before_read round mid now later bytes stands.read;
    images = λ had c image. before_stands round mid c later (stands.images had) (leaves_now number mid now (While round mid) disk leaves c image);
  }

  module _ (number first : ℕ) (start : DiskState) where
    slot_still : (slot : ℕ) (a b : List ℕ) → slot_bytes (own_of job e) slot b ≡ slot_bytes (own_of job e) slot a → SlotLeft rules job edges e start slot a → SlotLeft rules job edges e start slot b
    slot_still slot a b same left = elim left [
      | inl before ↦ inl (before.0, before.1, same ∙ before.2)
      | inr more ↦ elim more [
        | inl closed ↦ inr (inl (closed_still (own_of job e) slot a b same closed))
        | inr held ↦ inr (inr (held.0, held.1, held.2, holds_still held.0 a b (subst (λ s. slot_bytes (own_of job e) s b ≡ slot_bytes (own_of job e) s a) (sym held.1) same) held.3))
      ]
    ]

    -- before the first round
    pub none_yet : IsDisk start → LeavesByBeat start start (λ b bytes. b ≤ number → Left rules job edges number first e start b bytes)
    none_yet disk =
        started_by_beat start (λ b bytes. b ≤ number → Left rules job edges number first e start b bytes) disk
        (λ b c image within. record {
          at_first = λ _. image;
          long = (c, image, refl);
          slots = λ slot small. inl (c, image, refl);
          stands = λ round from later is had. absurd (omega arith);
        })

    module _ (mid : DiskState) (round now : ℕ) (beat : number ≤ now) (from : first ≤ round) (turn : now + first ≡ number + round) where
      slots_then : IsReached rules job.vertices edges job.limit round → (bytes : List ℕ) → (while : While round mid bytes) → ((slot : ℕ) → slot < 2 → SlotLeft rules job edges e start slot while.image) →
          (slot : ℕ) → slot < 2 → SlotLeft rules job edges e start slot bytes
      slots_then reached bytes while before slot small = elim (slot_cases slot round small) [
        | inl here ↦ subst (λ s. SlotLeft rules job edges e start s bytes) (sym here) (elim while.itself [
          | inl same ↦ slot_still (slot_of round) while.image bytes same (subst (λ s. SlotLeft rules job edges e start s while.image) here (before slot small))
          | inr more ↦ elim more [ inl closed ↦ inr (inl closed) | inr holds ↦ inr (inr (round, refl, reached, holds)) ]
        ])
        | inr other ↦ subst (λ s. SlotLeft rules job edges e start s bytes) (sym other)
            (slot_still (1 - slot_of round) while.image bytes while.other (subst (λ s. SlotLeft rules job edges e start s while.image) other (before slot small)))
      ]

      left_then : IsReached rules job.vertices edges job.limit round → (1 ≤ round → HasStood rules job edges first (round - 1) e start → InEveryImage mid (Holds rules job edges (round - 1) e)) → (bytes : List ℕ) → (while : While round mid bytes) →
          Left rules job edges number first e start now while.image → Left rules job edges number first e start (now + 1) bytes
      left_then reached kept bytes while left = record {
        at_first = λ small. absurd (omega arith);
        long = (left.long.0, left.long.1, while.long ∙ left.long.2);
        slots = slots_then reached bytes while left.slots;
        stands = λ other since later is had.
            let same : other ≡ round = omega arith in
            let stood : HasStood rules job edges first (round - 1) e start = subst (λ k. HasStood rules job edges first (k - 1) e start) same had in
            subst (λ k. Holds rules job edges (k - 1) e bytes) (sym same) (before_stands round mid bytes (omega arith) (kept (omega arith) stood) while);
      }

      -- what stood at its beginning is left while nothing is done yet
      while_none : (bytes : List ℕ) → mid.images bytes → While round mid bytes
      while_none bytes image = record { image = bytes; is_image = image; other = refl; long = refl; itself = inl refl }

      module _ (disk : IsDisk mid) (under : mid.beat ≤ now) (reached : IsReached rules job.vertices edges job.limit round) (kept : 1 ≤ round → HasStood rules job edges first (round - 1) e start → InEveryImage mid (Holds rules job edges (round - 1) e))
          (run : LeavesByBeat start mid (λ b bytes. b ≤ now → Left rules job edges number first e start b bytes)) where
        left_next : (bytes : List ℕ) → While round mid bytes → Left rules job edges number first e start (now + 1) bytes
        left_next bytes while =
            left_then reached kept bytes while (run.each now while.image (disk.counts_now now start.moment while.image under run.later while.is_image) (omega arith))

        module _ (new : DiskState) (later : ℕ) (short : later ≤ now + 1) (next : Leaves (now + 1) mid new (While round mid)) where
          -- one round more, whether it is done or not
          pub one_more : LeavesByBeat start new (λ b bytes. b ≤ later → Left rules job edges number first e start b bytes)
          one_more =
              let P : ℕ → List ℕ → Type 0 = λ b bytes. b ≤ now → Left rules job edges number first e start b bytes in
              let all : LeavesByBeat start new (λ b bytes. ((b < now + 1) × P b bytes) ⊎ ((now + 1 ≤ b) × While round mid bytes))
              = later_beat (now + 1) start mid new P (While round mid) disk (omega (arith, under)) run next while_none in
              by_beat_weaker start new (λ b bytes. ((b < now + 1) × P b bytes) ⊎ ((now + 1 ≤ b) × While round mid bytes)) (λ b bytes. b ≤ later → Left rules job edges number first e start b bytes) all
              (λ b bytes found within. elim found [
                | inl before ↦ before.1 (omega (arith, before.0))
                | inr here ↦ let is_next : b ≡ now + 1 = omega (arith, here.0, short, within) in subst (λ k. Left rules job edges number first e start k bytes) (sym is_next) (left_next bytes here.1)
              ])

          -- and of a stop that is counted from before the run
          pub more_since : LeftSince rules job edges number first now e start mid → LeftSince rules job edges number first later e start new
          more_since so_far b t bytes after within before stop =
              let in_next : now < b → While round mid bytes → Left rules job edges number first e start b bytes =
              λ beyond while. let is_next : b ≡ now + 1 = omega (arith, beyond, short, within) in subst (λ k. Left rules job edges number first e start k bytes) (sym is_next) (left_next bytes while) in
              elim (next.since b t bytes (omega (arith, before, run.later)) stop) [
                | inl earlier ↦ elim (cases_lt now b) [
                  | inl beyond ↦ in_next beyond (while_none bytes (disk.later_beats b t bytes (omega (arith, beyond, under)) earlier))
                  | inr sooner ↦ so_far b t bytes after sooner before earlier
                ]
                | inr here ↦ in_next (omega (arith, here.0)) here.1
              ]
