-- What the workers of a job have at hand.
use Rattle.std.specs.Prelude.{◌≡◌, ◌≤◌, All, vec_len, vec_capacity}
use Rattle.graph_model.specs.declared.job.Job.{Job}
use Rattle.scatter_phase.specs.Rooms.{IsRoom}
use Rattle.scatter_epoch.specs.declared.crew.ScatterCrew.{ScatterCrew}

-- buffers and a list of places for each worker, and room for its desk and its seat
pub record IsCrew {D M : Type 0} (job : Job) (crew : ScatterCrew D M) : Type 0 where
  pub many : vec_len crew.rooms ≡ job.engines
  pub rooms : All (IsRoom job) crew.rooms.items
  pub places : vec_len crew.places ≡ job.engines
  pub desks : (vec_len crew.desks ≡ 0) × (job.engines ≤ vec_capacity crew.desks)
  pub seats : (vec_len crew.seats ≡ 0) × (job.engines ≤ vec_capacity crew.seats)
