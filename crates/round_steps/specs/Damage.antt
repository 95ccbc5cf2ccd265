-- Which engine and which byte an outcome of damage names, on devices that tell their bytes and on others.
use Rattle.std.specs.Prelude.{ℕ, ◌<◌, List, Option, IfSome, length, slice_get, option_and_then, Vec}
use Rattle.std.specs.Global.{Global}
use Rattle.graph_model.specs.declared.job.Job.{Job}
use Rattle.ports.specs.Disk.{DiskState}
use Rattle.partitioner.specs.declared.split.Split.{Split}
use Rattle.chunk_model.specs.Layout.{edge_layout, update_layout}
use Rattle.chunk_file.specs.declared.index.Place.{Place}
use Rattle.chunk_file.specs.Places.{places_of}
use Rattle.chunk_file.specs.Chunks.{NoChunkIn}
use Rattle.store_reader.specs.Serving.{place_at, RefusesAt}
use Rattle.store_reader.specs.declared.store.Outcome.{Outcome}
use Rattle.store_reader.specs.declared.store.Outcome.TheVariants.{Done, DiskFault, Damaged, Memory}
use Rattle.store_reader.specs.declared.store.Part.{Part}
use Rattle.store_reader.specs.declared.store.Part.TheVariants.{Graph, Values, Lane}
use Rattle.scatter_epoch.specs.Sent.{RowsTell}

module _ {D : Type 0} (state : D → DiskState) where
  -- what the graph device of an engine tells
  abbrev pub told_of_graph : (graphs : List D) → (engine : ℕ) → Option (List ℕ)
  told_of_graph graphs engine = option_and_then (λ disk. (state disk).bytes) (slice_get graphs engine)

  -- what a worker's lane on an engine tells
  abbrev pub told_of_lane : (lanes : List (Vec D Global)) → (worker engine : ℕ) → Option (List ℕ)
  told_of_lane lanes worker engine = option_and_then (λ (own : Vec D Global). option_and_then (λ disk. (state disk).bytes) (slice_get own.items engine)) (slice_get lanes worker)

  module _ (job : Job) (split : Split) where
    -- **A chunk of edges is refused**: the index has it, of some partition, at this byte of this engine's graph device, and where the device tells its bytes no chunk of that partition stands there
    pub record IsRefusedEdgeChunk (index : List (List Place)) (graphs : List D) (engine at : ℕ) : Type 0 where
      pub partition : ℕ
      pub t : ℕ
      pub engine_is : engine < job.engines
      pub partition_is : partition < split.parts
      pub there : t < length (places_of index engine partition)
      pub refuses : RefusesAt (edge_layout job.format) split partition (place_at index engine partition t) (told_of_graph graphs engine) job.chunk at

    -- **A chunk of updates is refused**: a worker has a lane on this engine, and where it tells its bytes no chunk of some partition that was looked for stands at this byte
    pub record IsRefusedUpdateChunk (lanes : List (Vec D Global)) (engine at : ℕ) : Type 0 where
      pub worker : ℕ
      pub partition : ℕ
      pub engine_is : engine < job.engines
      pub worker_is : worker < length lanes
      pub partition_is : partition < split.parts
      pub none : IfSome (told_of_lane lanes worker engine) (NoChunkIn update_layout split job.chunk partition at)

    -- the damage that may be met where edges are read
    abbrev pub IsEdgeDamage : (index : List (List Place)) → (graphs : List D) → Part → (engine at : ℕ) → Type 0
    IsEdgeDamage index graphs Graph engine at = IsRefusedEdgeChunk index graphs engine at
    IsEdgeDamage index graphs Values engine at = ⊥
    IsEdgeDamage index graphs Lane engine at = ⊥

    -- where updates are read
    abbrev pub IsUpdateDamage : (lanes : List (Vec D Global)) → Part → (engine at : ℕ) → Type 0
    IsUpdateDamage lanes Graph engine at = ⊥
    IsUpdateDamage lanes Values engine at = ⊥
    IsUpdateDamage lanes Lane engine at = IsRefusedUpdateChunk lanes engine at

    -- **The damage that may be met in a round**: a chunk of edges is refused, or one of updates, and then not every lane tells its bytes
    abbrev pub IsDamage : (index : List (List Place)) → (graphs : List D) → (lanes : List (Vec D Global)) → Part → (engine at : ℕ) → Type 0
    IsDamage index graphs lanes Graph engine at = IsRefusedEdgeChunk index graphs engine at
    IsDamage index graphs lanes Values engine at = ⊥
    IsDamage index graphs lanes Lane engine at = IsRefusedUpdateChunk lanes engine at × (RowsTell state lanes → ⊥)

-- an outcome that tells of damage names such damage
abbrev pub NamesDamage : (IsDamaged : Part → (engine at : ℕ) → Type 0) → Outcome → Type 0
NamesDamage IsDamaged Done = Unit {0}
NamesDamage IsDamaged DiskFault = Unit {0}
NamesDamage IsDamaged (Damaged part engine at) = IsDamaged part engine at
NamesDamage IsDamaged Memory = Unit {0}
