-- What the workers of all rounds have at hand.
use Rattle.std.specs.Prelude.{◌≡◌, ℕ, ◌<◌, All, List, length, slice_index_or, vec_len}
use Rattle.graph_model.specs.declared.job.Job.{Job}
use Rattle.partitioner.specs.declared.split.Split.{Split}
use Rattle.replica_merge.specs.Accumulators.{split_of, LiesWithin}
use Rattle.ports.specs.Disk.{DiskState}
use Rattle.replica_merge.specs.declared.replicas.Replicas.{Replicas}
use Rattle.gather_epoch.specs.Crews.{IsCrew}
use Rattle.scatter_epoch.specs.Crews as scattering
use Rattle.apply_round.specs.Crew.{IsCrewOf}
use Rattle.round_steps.specs.declared.crews.Crews.{Crews}

-- they are for the workers of this job
pub record AreCrews {D M : Type 0} (job : Job) (split : Split) (crews : Crews D M) : Type 0 where
  pub scatter : scattering.IsCrew job crews.scatter
  pub gather : IsCrew job crews.gather
  pub apply : IsCrewOf split crews.apply
  pub replicas : (vec_len crews.replicas ≡ split.engines) × All (λ r. split_of r ≡ split) crews.replicas.items

-- what was spilled lies on the workers' devices
abbrev pub LieWithin : {D : Type 0} → (D → DiskState) → List Replicas → List D → Type 0
LieWithin {D} state replicas spills = (w : ℕ) (r : Replicas) (d : D) → w < length replicas → LiesWithin (slice_index_or replicas w r) (state (slice_index_or spills w d)).size
