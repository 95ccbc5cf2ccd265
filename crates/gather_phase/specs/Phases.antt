-- What a gather phase says of the desks of its workers.
use Rattle.std.specs.Prelude.{◌≡◌, ◌⊎◌, ℕ, ◌≤◌, Bool, true, false, if◌then◌else◌, Some, List}
use Rattle.std.specs.List.{All}
use Rattle.graph_model.specs.declared.edge.Edge.{Edge}
use Rattle.graph_model.specs.declared.value.Update.{Update}
use Rattle.graph_model.specs.declared.job.Job.{Job}
use Rattle.graph_model.specs.Programs.{Rules, plus}
use Rattle.ports.specs.Disk.{DiskState}
use Rattle.ports.specs.Faults.{Rose}
use Rattle.chunk_model.specs.Layout.{edge_layout, update_layout}
use Rattle.store_reader.specs.declared.store.Outcome.{Outcome}
use Rattle.store_reader.specs.declared.store.Outcome.TheVariants.{Done, DiskFault, Damaged, Memory}
use Rattle.store_reader.specs.declared.store.Part.{Part}
use Rattle.store_reader.specs.declared.store.Part.TheVariants.{Graph, Lane}
use Rattle.store_reader.specs.declared.serving.Serving.{Serving}
use Rattle.store_reader.specs.Indexed.{lens_of, HasRecords}
use Rattle.store_reader.specs.Serving.{IsRefusedChunk, IsFoundChunk}
use Rattle.phase_model.specs.Sums.{counts_of}
use Rattle.gather_phase.specs.declared.desk.GatherContext.{GatherContext}
use Rattle.gather_phase.specs.declared.desk.GatherDesk.{GatherDesk}
use Rattle.gather_phase.specs.Gathering.{Adding, Rests, Meets}
use Rattle.replica_merge.specs.Accumulators.{split_of}
use Rattle.gather_phase.specs.Rooms.{IsRoom}

-- the kind of devices that edges are on, and updates
abbrev pub part_of : Bool → Part
part_of true = Graph
part_of false = Lane

-- a chunk of the index is refused on this engine, at this place
abbrev pub IsRefused : {D M : Type 0} → (D → DiskState) → Bool → Serving D M → (engine place : ℕ) → Type 0
IsRefused state true serving engine place = IsRefusedChunk state (edge_layout serving.job.now.format) serving serving.job.now.chunk engine place
IsRefused state false serving engine place = IsRefusedChunk state update_layout serving serving.job.now.chunk engine place

-- a chunk that was taken stands at its place, where its device tells its bytes
abbrev pub IsFound : {D M : Type 0} → (D → DiskState) → Bool → Serving D M → ℕ × ℕ → Type 0
IsFound state true serving chunk = IsFoundChunk state (edge_layout serving.job.now.format) serving serving.job.now.chunk chunk.0 chunk.1
IsFound state false serving chunk = IsFoundChunk state update_layout serving serving.job.now.chunk chunk.0 chunk.1

module _ {D M : Type 0} (state : D → DiskState) where
  -- what is taken from each chunk: its updates, or 1 for each of its edges at the source
  abbrev pub Takes : Bool → Serving D M → (ℕ → ℕ → List Update) → Type 0
  Takes true serving items = (edges : ℕ → ℕ → List Edge) × HasRecords state (edge_layout serving.job.now.format) serving edges × ((cursor t : ℕ) → items cursor t ≡ counts_of (edges cursor t))
  Takes false serving items = HasRecords state update_layout serving items

module _ {D M : Type 0} (state : D → DiskState) (faults : M → ℕ) where
  -- how a desk goes on: its worker, split and rooms stay, counts of faults never fall, a spill device that tells its bytes still does, a disk fault is answered only where a count rose, and where the outcome is Done it was so, and none rose
  pub record GoesOn (old new : GatherDesk D M) : Type 0 where
    pub worker : new.worker ≡ old.worker
    pub split : split_of new.replicas ≡ split_of old.replicas
    pub room : (job : Job) → IsRoom job old.room → IsRoom job new.room
    pub reads : faults old.meter ≤ faults new.meter
    pub writes : (state old.spill).faults ≤ (state new.spill).faults
    pub told : (bytes : List ℕ) → (state old.spill).bytes ≡ Some bytes → (now : List ℕ) × ((state new.spill).bytes ≡ Some now)
    pub caused : new.outcome ≡ DiskFault → (old.outcome ≡ DiskFault) ⊎ (Rose (faults old.meter) (faults new.meter) ⊎ Rose (state old.spill).faults (state new.spill).faults)
    pub calm : new.outcome ≡ Done → (old.outcome ≡ Done) × (faults new.meter ≡ faults old.meter) × ((state new.spill).faults ≡ (state old.spill).faults)

module _ {P D G M : Type 0} (rules : P → Rules) (state : D → DiskState) where
  abbrev pub adding_of : GatherContext P D G M → Adding
  adding_of c = record {
    add = if c.counting then plus else (rules c.program.now).fold;
    unit = if c.counting then 0 else (rules c.program.now).unit;
    split = c.serving.split.now;
  }

  pub record DeskRests (c : GatherContext P D G M) (desk : GatherDesk D M) (chunks : List (ℕ × ℕ)) : Type 0 where
    pub at : Rests (adding_of c) c.serving.job.now.engines (lens_of c.serving.index.now) (Takes state c.counting c.serving) (state desk.spill).bytes (state desk.spill).size (state desk.spill).beat c.beat.now desk.replicas desk.room.begun chunks
    pub found : All (IsFound state c.counting c.serving) chunks
    pub room : IsRoom c.serving.job.now desk.room
    pub done : desk.outcome ≡ Done

  pub record DeskMeets (c : GatherContext P D G M) (desk : GatherDesk D M) (partition : ℕ) (chunks : List (ℕ × ℕ)) : Type 0 where
    pub at : Meets (adding_of c) c.serving.job.now.engines (lens_of c.serving.index.now) (Takes state c.counting c.serving) (state desk.spill).bytes (state desk.spill).size (state desk.spill).beat c.beat.now desk.replicas desk.room.begun chunks partition
    pub found : All (IsFound state c.counting c.serving) chunks
    pub room : IsRoom c.serving.job.now desk.room
    pub done : desk.outcome ≡ Done

  -- why the work may be stopped: damage is that of a chunk of the index, and is found only where not all
  -- chunks stand on devices that tell their bytes
  abbrev pub MayStopBy : GatherContext P D G M → Outcome → Type 0
  MayStopBy c Done = ⊥
  MayStopBy c DiskFault = Unit {0}
  MayStopBy c (Damaged part engine place) = ((part ≡ part_of c.counting) × IsRefused state c.counting c.serving engine place) × ((items : ℕ → ℕ → List Update) → Takes state c.counting c.serving items → ⊥)
  MayStopBy c Memory = ⊥

  pub record DeskStops (c : GatherContext P D G M) (desk : GatherDesk D M) (chunks : List (ℕ × ℕ)) : Type 0 where
    pub why : MayStopBy c desk.outcome
    pub in_time : (state desk.spill).beat ≤ c.beat.now
