-- The edges of which a job may have a store.
use Rattle.std.specs.Prelude.{◌≡◌, ◌^◌, ◌<◌, ◌≤◌, List, length}
use Rattle.std.specs.List.{All}
use Rattle.graph_model.specs.declared.edge.Edge.{Edge}
use Rattle.graph_model.specs.declared.edge.TheConstants.{MAX_WEIGHT}
use Rattle.graph_model.specs.declared.job.Job.{Job}
use Rattle.graph_model.specs.Jobs.{IsWellFormedJob}
use Rattle.store_model.specs.Graphs.{edge_chunks}
use Rattle.store_model.specs.Damage.{MOST_CHUNKS}

-- both ends are vertices of the job, and the weight is one that a text may have and the store's format has room for
pub record IsEdgeOf (job : Job) (edge : Edge) : Type 0 where
  pub src : edge.src < job.vertices
  pub dst : edge.dst < job.vertices
  pub weight : edge.weight ≤ MAX_WEIGHT
  pub room : job.format ≡ 1 → edge.weight < 2 ^ 32

-- the job is well formed, and the chunks of its edges are not too many
pub record IsStorable (job : Job) (edges : List Edge) : Type 0 where
  pub job_is : IsWellFormedJob job
  pub edges_are : All (IsEdgeOf job) edges
  pub few : length (edge_chunks job edges) ≤ MOST_CHUNKS
