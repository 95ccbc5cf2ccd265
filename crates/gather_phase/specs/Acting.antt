-- The acts of a gather phase at a desk.
use Rattle.std.specs.Prelude.{ℕ, Bool}
use Rattle.ports.specs.Disk.{DiskState}
use Rattle.graph_model.specs.Programs.{Rules}
use Rattle.chunk_cursor.specs.Hold.{Hold}
use Rattle.steal_policy.specs.declared.proposal.Proposal.{Proposal}
use Rattle.phase_model.specs.JobTerms.{terms_of}
use Rattle.worker_duty.specs.declared.acts.Step.{Step}
use Rattle.worker_duty.specs.Acting.{MayServe, HasServed, MayPropose, HasProposed, MayLeave, HasLeft}
use Rattle.gather_phase.specs.declared.desk.GatherContext.{GatherContext}
use Rattle.gather_phase.specs.declared.desk.GatherDesk.{GatherDesk}
use Rattle.gather_phase.specs.Phases.{GoesOn, DeskRests, DeskMeets, DeskStops}
use Rattle.store_reader.specs.Indexed.{lens_of}

abbrev pub hold_of : {D M : Type 0} → GatherDesk D M → Hold
hold_of desk = desk.seat

module _ {P D G M : Type 0} (rules : P → Rules) (state : D → DiskState) (faults : M → ℕ) (c : GatherContext P D G M) where
  abbrev pub MayServeAt : GatherDesk D M → (engine partition : ℕ) → Type 0
  MayServeAt = MayServe hold_of c.serving.table.now (terms_of c.serving.job.now) (lens_of c.serving.index.now) (GoesOn state faults) (DeskRests rules state c) (DeskMeets rules state c) (DeskStops rules state c)

  abbrev pub HasServedAt : (old new : GatherDesk D M) → (engine partition : ℕ) → Step → Type 0
  HasServedAt = HasServed hold_of c.serving.table.now (terms_of c.serving.job.now) (lens_of c.serving.index.now) (GoesOn state faults) (DeskRests rules state c) (DeskMeets rules state c) (DeskStops rules state c)

  abbrev pub MayProposeAt : GatherDesk D M → (partition : ℕ) → Type 0
  MayProposeAt = MayPropose hold_of c.serving.table.now (terms_of c.serving.job.now) (lens_of c.serving.index.now) (GoesOn state faults) (DeskRests rules state c) (DeskMeets rules state c) (DeskStops rules state c)

  abbrev pub HasProposedAt : (old new : GatherDesk D M) → (partition : ℕ) → Proposal → Type 0
  HasProposedAt = HasProposed hold_of c.serving.table.now (terms_of c.serving.job.now) (lens_of c.serving.index.now) (GoesOn state faults) (DeskRests rules state c) (DeskMeets rules state c) (DeskStops rules state c)

  abbrev pub MayLeaveAt : GatherDesk D M → (partition : ℕ) → Type 0
  MayLeaveAt = MayLeave hold_of c.serving.table.now (terms_of c.serving.job.now) (lens_of c.serving.index.now) (GoesOn state faults) (DeskRests rules state c) (DeskMeets rules state c) (DeskStops rules state c)

  abbrev pub HasLeftAt : (old new : GatherDesk D M) → (partition : ℕ) → Bool → Type 0
  HasLeftAt = HasLeft hold_of c.serving.table.now (terms_of c.serving.job.now) (lens_of c.serving.index.now) (GoesOn state faults) (DeskRests rules state c) (DeskMeets rules state c) (DeskStops rules state c)
