-- What a stop leaves of a run, as what a store may hold.
use Rattle.std.proofs.Common.{◌≡◌, ℕ, ◌+◌, ◌-◌, ◌^◌, ◌<◌, ◌≤◌, ◌⊎◌, zero, suc, List, length, get_or, inl, inr, sym, ◌∙◌, subst, arith}
use Rattle.graph_model.specs.declared.edge.Edge.{Edge}
use Rattle.graph_model.specs.declared.job.Job.{Job}
use Rattle.graph_model.specs.Jobs.{IsWellFormedJob}
use Rattle.graph_model.specs.Programs.{rules_of}
use Rattle.ports.specs.Disk.{DiskState, InEveryImage}
use Rattle.store_model.specs.Slots.{slot_of, slot_bytes, IsClosed, IsBlank}
use Rattle.store_model.specs.Kept.{own_of, own_vertices, changed_in, values_of, round_values, device, HasRound, IsValuesOf, IsEverywhere}
use Rattle.round_loop.specs.Kept.{HasStood, Left, SlotLeft}
use Rattle.list_moves.proofs.Desks.{some_of}
use Rattle.store_rounds.specs.Images.{IsStopOfEach}
use Rattle.store_rounds.specs.Going.{LeaveRounds, LeaveRoundsSince}
use Rattle.store_rounds.proofs.SameRounds.{reached_in_store, held_in_store, known_round}
use Rattle.store_model.proofs.SlotBytes.{closed_still, held_still}

module _ (job : Job) (edges : List Edge) (e : ℕ) where
  -- of slots 0 and 1
  by_slots : (P : ℕ → Type 0) → P 0 → P 1 → (slot : ℕ) → slot < 2 → P slot
  by_slots P first second zero below = first
  by_slots P first second (suc zero) below = second
  by_slots P first second (suc (suc slot)) below = absurd (omega arith)

  pub blank_is : (bytes : List ℕ) → IsBlank (own_of job e) bytes → IsValuesOf job edges e bytes
  blank_is bytes blank = record {
    exact = blank.exact;
    slots = λ slot below. inl (by_slots (λ s. IsClosed (own_of job e) s bytes) blank.first blank.second slot below);
  }

  module _ (number first b : ℕ) (start : DiskState) (bytes : List ℕ) (at_start : InEveryImage start (IsValuesOf job edges e)) (left : Left (rules_of job.program) job edges number first e start b bytes) where
    abbrev Slot : ℕ → Type 0
    Slot slot = IsClosed (own_of job e) slot bytes ⊎ ((round : ℕ) × (slot_of round ≡ slot) × HasRound job edges e bytes round)

    slot_is : (slot : ℕ) → slot < 2 → SlotLeft (rules_of job.program) job edges e start slot bytes → Slot slot
    slot_is slot below (inl image) = elim ((at_start image.0 image.1).slots slot below) [
      | inl closed ↦ inl (closed_still (own_of job e) slot image.0 bytes image.2 closed)
      | inr found ↦ inr (
        found.0,
        found.1,
        record {
          reached = found.2.reached;
          holds = held_still (own_of job e) (slot_of found.0) image.0 bytes (subst (λ s. slot_bytes (own_of job e) s bytes ≡ slot_bytes (own_of job e) s image.0) (sym found.1) image.2)
              found.0 (changed_in job edges (own_vertices job e) found.0) (values_of (own_vertices job e) (round_values job edges found.0)) found.2.holds;
        },
      )
    ]
    slot_is slot below (inr (inl closed)) = inl closed
    slot_is slot below (inr (inr made)) = inr (made.0, made.1, held_in_store job edges e made.0 bytes (reached_in_store job edges made.0 made.2) made.3)

    -- **It is a values device of the job.**
    pub left_is : IsValuesOf job edges e bytes
    left_is = record {
      exact = left.long.2 ∙ (at_start left.long.0 left.long.1).exact;
      slots = λ slot below. slot_is slot below (left.slots slot below);
    }

    -- **The round before the one that is made is one of the job.**
    pub before_is : (round : ℕ) → IsWellFormedJob job → first ≤ round → 1 ≤ round → round ≤ 2 ^ 64 → b ≡ number + 1 + (round - first) → HasStood (rules_of job.program) job edges first (round - 1) e start → HasRound job edges e bytes (round - 1)
    before_is round well from later few beat stood = known_round job edges e (round - 1) bytes well (omega arith) left_is (left.stands round from later beat stood)

-- what a stop of several devices leaves of one
pub left_at : {D : Type 0} (state : D → DiskState) (job : Job) (edges : List Edge) (number first last b : ℕ) (old new : List D) (stopped : List (List ℕ)) → length old ≡ job.engines → LeaveRounds state job edges number first last old new
    → b ≤ last → IsStopOfEach state b old new stopped → (e : ℕ) (d : D) → e < job.engines → Left (rules_of job.program) job edges number first e (state (get_or old e d)) b (device stopped e)
left_at state job edges number first last b old new stopped many leave within stop e d below = (leave e d below).each b (device stopped e) (stop.each e d (omega (arith, below, many))) within

-- **All values devices.**
pub all_left : {D : Type 0} (state : D → DiskState) (job : Job) (edges : List Edge) (number first last b : ℕ) (old new : List D) (stopped : List (List ℕ)) → length old ≡ job.engines
    → ((e : ℕ) (d : D) → e < job.engines → InEveryImage (state (get_or old e d)) (IsValuesOf job edges e)) → LeaveRounds state job edges number first last old new
    → b ≤ last → IsStopOfEach state b old new stopped → (e : ℕ) → e < job.engines → IsValuesOf job edges e (device stopped e)
all_left state job edges number first last b old new stopped many at_start leave within stop e below =
    let d = some_of old e (omega (arith, below, many)) in
    left_is job edges e number first b (state (get_or old e d)) (device stopped e) (at_start e d below) (left_at state job edges number first last b old new stopped many leave within stop e d below)

-- **And the round before the one that is made, on all of them.**
pub all_before : {D : Type 0} (state : D → DiskState) (job : Job) (edges : List Edge) (number first last b round : ℕ) (early old new : List D) (stopped : List (List ℕ)) → IsWellFormedJob job → length early ≡ job.engines
    → ((e : ℕ) (d : D) → e < job.engines → InEveryImage (state (get_or old e d)) (IsValuesOf job edges e)) → ((e : ℕ) (d : D) → e < job.engines → (state (get_or early e d)).moment ≤ (state (get_or old e d)).moment)
    → ((e : ℕ) (d : D) → e < job.engines → HasStood (rules_of job.program) job edges first (round - 1) e (state (get_or old e d))) → LeaveRoundsSince state job edges number first last old new
    → first ≤ round → 1 ≤ round → round ≤ 2 ^ 64 → b ≡ number + 1 + (round - first) → b ≤ last → IsStopOfEach state b early new stopped → IsEverywhere job edges stopped (round - 1)
all_before state job edges number first last b round early old new stopped well many at_start later stood leave from some few beat within stop e below =
    let here : e < length early = omega (arith, below, many) in
    let d = some_of early e here in
    before_is job edges e number first b (state (get_or old e d)) (device stopped e) (at_start e d below)
    (leave e d below b (state (get_or early e d)).moment (device stopped e) (omega (arith, beat)) within (later e d below) (stop.each e d here))
    round well from some few beat (stood e d below)
