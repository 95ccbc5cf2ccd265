-- Where a run goes on from what was recovered, and what a stop leaves of it.
use Rattle.std.specs.Prelude.{ℕ, ◌<◌, ◌≤◌, List, slice_index_or}
use Rattle.graph_model.specs.declared.edge.Edge.{Edge}
use Rattle.graph_model.specs.declared.job.Job.{Job}
use Rattle.graph_model.specs.Programs.{rules_of}
use Rattle.ports.specs.Disk.{DiskState}
use Rattle.ports.specs.Stops.{LeavesByBeat}
use Rattle.restart.specs.declared.recovering.Recovered.{Recovered}
use Rattle.restart.specs.declared.recovering.Recovered.TheVariants as recovered
use Rattle.round_loop.specs.declared.run.Start.{Start}
use Rattle.round_loop.specs.declared.run.Start.TheVariants.{Fresh, At}
use Rattle.round_loop.specs.Kept.{Left, LeftSince}

-- at the round that was found, or at the beginning
abbrev pub start_of : Recovered → Start
start_of (recovered.Found job index round changed) = At round changed
start_of (recovered.Fresh job index) = Fresh

-- what a stop leaves of each values device, from the beat of this number to the last, while a run makes this round first
abbrev pub LeaveRounds : {D : Type 0} → (state : D → DiskState) → Job → List Edge → (number first last : ℕ) → (old new : List D) → Type 0
LeaveRounds {D} state job edges number first last old new = (e : ℕ) (d : D) → e < job.engines → LeavesByBeat (state (slice_index_or old e d)) (state (slice_index_or new e d))
    (λ b bytes. b ≤ last → Left (rules_of job.program) job edges number first e (state (slice_index_or old e d)) b bytes)

-- the same in the beats of the run, where a stop is counted from before it
abbrev pub LeaveRoundsSince : {D : Type 0} → (state : D → DiskState) → Job → List Edge → (number first last : ℕ) → (old new : List D) → Type 0
LeaveRoundsSince {D} state job edges number first last old new = (e : ℕ) (d : D) → e < job.engines
    → LeftSince (rules_of job.program) job edges number first last e (state (slice_index_or old e d)) (state (slice_index_or new e d))
