-- Rounds on the values devices of a store, and what a stop leaves of these while a run goes on.
use Rattle.std.specs.Prelude.{◌≡◌, ◌⊎◌, ℕ, ◌+◌, ◌-◌, ◌<◌, ◌≤◌, Some, List, length, slice_index_or}
use Rattle.std.specs.List.{range_with_len}
use Rattle.graph_model.specs.declared.edge.Edge.{Edge}
use Rattle.graph_model.specs.declared.value.Value.{Value}
use Rattle.graph_model.specs.declared.job.Job.{Job}
use Rattle.graph_model.specs.Programs.{Rules}
use Rattle.graph_model.specs.Rounds.{values}
use Rattle.ports.specs.Disk.{DiskState, InEveryImage}
use Rattle.store_model.specs.Kept.{own_of, own_vertices, values_of}
use Rattle.store_model.specs.Slots.{slot_of, slot_bytes, IsClosed, HoldsRound}
use Rattle.apply_round.specs.Made.{changed_among}
use Rattle.round_loop.specs.declared.run.Start.{Start}
use Rattle.round_loop.specs.declared.run.Start.TheVariants.{At}
use Rattle.round_loop.specs.Starts.{first_made, IsReached}

module _ (rules : Rules) (job : Job) (edges : List Edge) where
  abbrev pub round_values : (round : ℕ) → List Value
  round_values round = values rules job.vertices edges round

  -- how many of some vertices have another value than in the round before; in round 0, all
  abbrev pub changed_by : (round : ℕ) → (vertices : List ℕ) → ℕ
  changed_by round vertices = changed_among round (round_values (round - 1)) (round_values round) vertices

  -- how many of all vertices
  abbrev pub changed_in : (round : ℕ) → ℕ
  changed_in round = changed_by round (range_with_len 0 job.vertices)

  -- an engine's share of the values of a round
  abbrev pub share : (round e : ℕ) → List Value
  share round e = values_of (own_vertices job e) (round_values round)

  -- **A round stands on the values device of an engine**: its slot is open, and has the engine's share
  abbrev pub Holds : (round e : ℕ) → List ℕ → Type 0
  Holds round e bytes = HoldsRound (own_of job e) (slot_of round) round (changed_by round (own_vertices job e)) (share round e) bytes

  -- a read of the values device of an engine gives a round
  abbrev pub Gives : (round e : ℕ) → DiskState → Type 0
  Gives round e disk = (told : List ℕ) × (disk.bytes ≡ Some told) × Holds round e told

  -- a round before the first that a run made stood in every image of the device at the start
  abbrev pub HasStood : (first round e : ℕ) → (start : DiskState) → Type 0
  HasStood first round e start = round < first → InEveryImage start (Holds round e)

  -- **A round stands on an engine after a run, which made this one first**: a read gives it, and it stands in every image, if it did so at the start or was made since
  pub record Stands (first round e : ℕ) (start now : DiskState) : Type 0 where
    pub read : Gives round e now
    pub images : HasStood first round e start → InEveryImage now (Holds round e)

  -- a slot is as in an image of the start, or closed, or has a round that the run may come to
  abbrev pub SlotLeft : (e : ℕ) → (start : DiskState) → (slot : ℕ) → List ℕ → Type 0
  SlotLeft e start slot bytes =
      ((image : List ℕ) × start.images image × (slot_bytes (own_of job e) slot bytes ≡ slot_bytes (own_of job e) slot image))
      ⊎ (IsClosed (own_of job e) slot bytes
      ⊎ ((round : ℕ) × (slot_of round ≡ slot) × IsReached rules job.vertices edges job.limit round × Holds round e bytes))

  -- **What a stop in beat b leaves of the values device of an engine**, where the run began after the beat of this number, and made this round first
  pub record Left (number first e : ℕ) (start : DiskState) (b : ℕ) (bytes : List ℕ) : Type 0 where
    -- before the first round is made, an image of the start
    pub at_first : b ≤ number → start.images bytes
    pub long : (image : List ℕ) × start.images image × (length bytes ≡ length image)
    pub slots : (slot : ℕ) → slot < 2 → SlotLeft e start slot bytes
    -- in the beat in which a round is made, the round before it stands
    pub stands : (round : ℕ) → first ≤ round → 1 ≤ round → b ≡ number + 1 + (round - first) → HasStood first (round - 1) e start → Holds (round - 1) e bytes

  -- **In the beats after that of this number, up to the last, a stop leaves this of the device**, from whatever moment before the run on it is counted
  abbrev pub LeftSince : (number first last e : ℕ) → (old new : DiskState) → Type 0
  LeftSince number first last e old new = (b t : ℕ) (bytes : List ℕ) → number < b → b ≤ last → t ≤ old.moment → new.stops b t bytes → Left number first e old b bytes

  module _ {D : Type 0} (state : D → DiskState) where
    -- the round stands on every engine, in every image
    abbrev pub IsKept : (round : ℕ) → List D → Type 0
    IsKept round devices = (e : ℕ) (d : D) → e < job.engines → InEveryImage (state (slice_index_or devices e d)) (Holds round e)

    -- a read of every engine gives the round
    abbrev pub IsRead : (round : ℕ) → List D → Type 0
    IsRead round devices = (e : ℕ) (d : D) → e < job.engines → Gives round e (state (slice_index_or devices e d))

    -- the round stands on every engine after a run
    abbrev pub StandsAfter : Start → (round : ℕ) → (old new : List D) → Type 0
    StandsAfter start round old new = (e : ℕ) (d : D) → e < job.engines → Stands (first_made start) round e (state (slice_index_or old e d)) (state (slice_index_or new e d))

    -- **A good start**: a round that is handed in is read on every engine, so many vertices changed in it, and the run may come to it
    pub record IsGoodStart (start : Start) (devices : List D) : Type 0 where
      pub read : (round changed : ℕ) → start ≡ At round changed → IsRead round devices
      pub counted : (round changed : ℕ) → start ≡ At round changed → changed ≡ changed_in round
      pub reached : (round changed : ℕ) → start ≡ At round changed → IsReached rules job.vertices edges job.limit round
