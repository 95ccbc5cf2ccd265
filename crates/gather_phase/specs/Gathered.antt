-- What a worker has gathered when it is through.
use Rattle.std.specs.Prelude.{◌≡◌, ◌⊎◌, ℕ, ◌*◌, ◌<◌, ◌≤◌, true, false, Some, List}
use Rattle.std.specs.List.{All}
use Rattle.graph_model.specs.declared.edge.Edge.{Edge}
use Rattle.graph_model.specs.declared.value.Update.{Update}
use Rattle.graph_model.specs.Programs.{Rules}
use Rattle.graph_model.specs.Partitions.{first_vertex}
use Rattle.graph_model.specs.Rounds.{out_degree}
use Rattle.ports.specs.Disk.{DiskState}
use Rattle.ports.specs.Faults.{Rose}
use Rattle.partitioner.specs.declared.split.Split.{Split}
use Rattle.chunk_model.specs.Layout.{edge_layout, update_layout}
use Rattle.phase_model.specs.Taken.{records_taken}
use Rattle.phase_model.specs.Sums.{sum_at, sums_over}
use Rattle.worker_duty.specs.Views.{calls_of, taken_by_seat}
use Rattle.store_reader.specs.declared.store.Outcome.TheVariants.{Done, DiskFault}
use Rattle.replica_merge.specs.Accumulators.{len_of, accumulators_of, LiesWithin}
use Rattle.gather_phase.specs.declared.desk.GatherContext.{GatherContext}
use Rattle.gather_phase.specs.declared.desk.GatherDesk.{GatherDesk}
use Rattle.gather_phase.specs.Gathering.{touched}
use Rattle.gather_phase.specs.Phases.{IsFound}
use Rattle.store_reader.specs.Indexed.{HasRecords}

-- the list of a partition's vertices under a function of vertices
abbrev pub over_partition : Split → (ℕ → ℕ) → (partition : ℕ) → List ℕ
over_partition split of_vertex partition = sums_over of_vertex (first_vertex split.vertices split.parts partition) (len_of split partition)

module _ {P D G M : Type 0} (rules : P → Rules) (state : D → DiskState) where
  -- **The worker's accumulators, with its device, are what it took**: of each partition the sums of the updates of exactly the chunks in its seat's list, or, where edges are counted, the numbers of their edges at each source, capped. Only partitions of which it took chunks are on the device. No chunk in the list was passed over: each stands at its place, where its device tells its bytes
  pub record HasGathered (c : GatherContext P D G M) (desk : GatherDesk D M) : Type 0 where
    pub within : LiesWithin desk.replicas (state desk.spill).size
    pub width : (state desk.spill).size ≡ 8 * touched c.serving.split.now (taken_by_seat desk.seat.view)
    pub found : All (IsFound state c.counting c.serving) (taken_by_seat desk.seat.view)
    pub summed : c.counting ≡ false → (records : ℕ → ℕ → List Update) → HasRecords state update_layout c.serving records → (device : List ℕ) → (state desk.spill).bytes ≡ Some device
        → (partition : ℕ) → partition < c.serving.split.now.parts
        → accumulators_of desk.replicas device partition ≡ over_partition c.serving.split.now (sum_at (rules c.program.now).fold (rules c.program.now).unit (records_taken records (calls_of desk.seat.view))) partition
    pub counted : c.counting ≡ true → (records : ℕ → ℕ → List Edge) → HasRecords state (edge_layout c.serving.job.now.format) c.serving records → (device : List ℕ) → (state desk.spill).bytes ≡ Some device
        → (partition : ℕ) → partition < c.serving.split.now.parts → accumulators_of desk.replicas device partition ≡ over_partition c.serving.split.now (out_degree (records_taken records (calls_of desk.seat.view))) partition

module _ {D M : Type 0} (state : D → DiskState) (faults : M → ℕ) where
  -- counts of faults never fall, a disk fault is answered only where that of the meter or of the spill device rose, and where the outcome is Done neither did
  pub record HasFaultCause (old new : GatherDesk D M) : Type 0 where
    pub reads : faults old.meter ≤ faults new.meter
    pub writes : (state old.spill).faults ≤ (state new.spill).faults
    pub rose : new.outcome ≡ DiskFault → Rose (faults old.meter) (faults new.meter) ⊎ Rose (state old.spill).faults (state new.spill).faults
    pub calm : new.outcome ≡ Done → (faults new.meter ≡ faults old.meter) × ((state new.spill).faults ≡ (state old.spill).faults)
