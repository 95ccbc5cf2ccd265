-- What a stop leaves of the devices of a store while it is made of a text.
use Rattle.std.specs.Prelude.{◌≡◌, ℕ, ◌+◌, ◌<◌, ◌≤◌, List, Option, slice_index_or}
use Rattle.graph_model.specs.declared.edge.Edge.{Edge}
use Rattle.graph_model.specs.declared.job.Job.{Job}
use Rattle.ports.specs.Disk.{DiskState, InEveryImage}
use Rattle.ports.specs.Stops.{LeavesByBeat}
use Rattle.storage_engine.specs.Preparing.{WhilePreparing}
use Rattle.store_model.specs.Heads.{IsShutGraph}
use Rattle.store_model.specs.Slots.{IsBlank}
use Rattle.store_model.specs.Graphs.{graph}
use Rattle.store_model.specs.Kept.{own_of}

module _ {D : Type 0} (state : D → DiskState) (job : Job) where
  -- of each graph device and of each values device, from the beat of this number to now, as `prepare` says it
  pub record LeaveMade (text : Option (List ℕ)) (number now : ℕ) (graphs graphs' values values' : List D) : Type 0 where
    pub of_graphs : (e : ℕ) (d : D) → e < job.engines → LeavesByBeat (state (slice_index_or graphs e d)) (state (slice_index_or graphs' e d))
        (λ b c. b ≤ now → WhilePreparing job text (number + 1) e (state (slice_index_or graphs e d)) b c)
    pub of_values : (e : ℕ) (d : D) → e < job.engines → LeavesByBeat (state (slice_index_or values e d)) (state (slice_index_or values' e d))
        (λ b c. b ≤ now → number + 1 ≤ b → IsBlank (own_of job e) c)

  -- some graph device is not open, in any image
  abbrev pub IsShutSomewhere : (graphs : List D) → Type 0
  IsShutSomewhere graphs = (e : ℕ) × (e < job.engines) × ((d : D) → InEveryImage (state (slice_index_or graphs e d)) IsShutGraph)

  -- the store that was made: in every image each graph device is whole and each values device blank, and no later beat has touched them
  pub record IsMadeStore (edges : List Edge) (now : ℕ) (graphs values : List D) : Type 0 where
    pub whole : (e : ℕ) (d : D) → e < job.engines → InEveryImage (state (slice_index_or graphs e d)) (λ c. c ≡ graph job edges e)
    pub blank : (e : ℕ) (d : D) → e < job.engines → InEveryImage (state (slice_index_or values e d)) (IsBlank (own_of job e))
    pub graph_beats : (e : ℕ) (d : D) → e < job.engines → (state (slice_index_or graphs e d)).beat ≤ now
    pub value_beats : (e : ℕ) (d : D) → e < job.engines → (state (slice_index_or values e d)).beat ≤ now
