-- The acts of a scatter phase at a desk.
use Rattle.std.specs.Prelude.{ℕ, Bool, List}
use Rattle.ports.specs.Disk.{DiskState}
use Rattle.graph_model.specs.Programs.{Rules}
use Rattle.chunk_cursor.specs.Hold.{Hold}
use Rattle.steal_policy.specs.declared.proposal.Proposal.{Proposal}
use Rattle.phase_model.specs.JobTerms.{terms_of}
use Rattle.worker_duty.specs.declared.acts.Step.{Step}
use Rattle.worker_duty.specs.Acting.{MayServe, HasServed, MayPropose, HasProposed, MayLeave, HasLeft}
use Rattle.store_reader.specs.Indexed.{lens_of}
use Rattle.scatter_phase.specs.declared.desk.ScatterContext.{ScatterContext}
use Rattle.scatter_phase.specs.declared.desk.ScatterDesk.{ScatterDesk}
use Rattle.scatter_phase.specs.Phases.{GoesOn, DeskHolds, DeskStops}

abbrev pub hold_of : {D M : Type 0} → ScatterDesk D M → Hold
hold_of desk = desk.seat

module _ {P D G M : Type 0} (rules : P → Rules) (state : D → DiskState) (faults : M → ℕ) (c : ScatterContext P D G M) where
  -- at a partition a desk is as it is between partitions
  abbrev pub DeskMeets : ScatterDesk D M → (partition : ℕ) → List (ℕ × ℕ) → Type 0
  DeskMeets desk partition = DeskHolds rules state c desk

  abbrev pub MayServeAt : ScatterDesk D M → (engine partition : ℕ) → Type 0
  MayServeAt = MayServe hold_of c.serving.table.now (terms_of c.serving.job.now) (lens_of c.serving.index.now) (GoesOn state faults c.beat.now) (DeskHolds rules state c) DeskMeets (DeskStops rules state c)

  abbrev pub HasServedAt : (old new : ScatterDesk D M) → (engine partition : ℕ) → Step → Type 0
  HasServedAt = HasServed hold_of c.serving.table.now (terms_of c.serving.job.now) (lens_of c.serving.index.now) (GoesOn state faults c.beat.now) (DeskHolds rules state c) DeskMeets (DeskStops rules state c)

  abbrev pub MayProposeAt : ScatterDesk D M → (partition : ℕ) → Type 0
  MayProposeAt = MayPropose hold_of c.serving.table.now (terms_of c.serving.job.now) (lens_of c.serving.index.now) (GoesOn state faults c.beat.now) (DeskHolds rules state c) DeskMeets (DeskStops rules state c)

  abbrev pub HasProposedAt : (old new : ScatterDesk D M) → (partition : ℕ) → Proposal → Type 0
  HasProposedAt = HasProposed hold_of c.serving.table.now (terms_of c.serving.job.now) (lens_of c.serving.index.now) (GoesOn state faults c.beat.now) (DeskHolds rules state c) DeskMeets (DeskStops rules state c)

  abbrev pub MayLeaveAt : ScatterDesk D M → (partition : ℕ) → Type 0
  MayLeaveAt = MayLeave hold_of c.serving.table.now (terms_of c.serving.job.now) (lens_of c.serving.index.now) (GoesOn state faults c.beat.now) (DeskHolds rules state c) DeskMeets (DeskStops rules state c)

  abbrev pub HasLeftAt : (old new : ScatterDesk D M) → (partition : ℕ) → Bool → Type 0
  HasLeftAt = HasLeft hold_of c.serving.table.now (terms_of c.serving.job.now) (lens_of c.serving.index.now) (GoesOn state faults c.beat.now) (DeskHolds rules state c) DeskMeets (DeskStops rules state c)
