-- What a store keeps: its graph devices, and in its values devices the values of rounds. `graphs` and `values` have the
-- bytes of one device for each engine.
use Rattle.std.specs.Prelude.{◌≡◌, ◌⊎◌, ℕ, zero, suc, ◌<◌, ◌≤◌, List, [], length, map, count_by, slice_index_or}
use Rattle.graph_model.specs.declared.edge.Edge.{Edge}
use Rattle.graph_model.specs.declared.value.Value.{Value}
use Rattle.graph_model.specs.declared.job.Job.{Job}
use Rattle.graph_model.specs.Programs.{rules_of}
use Rattle.graph_model.specs.Rounds.{values, value_at, has_changed, IsLastRound}
use Rattle.graph_model.specs.Answer.{NeverSettles}
use Rattle.graph_model.specs.Partitions as ranges
use Rattle.graph_model.specs.Jobs.{parts_of}
use Rattle.store_model.specs.Slots.{device_size, slot_of, IsClosed, HoldsRound}
use Rattle.store_model.specs.Heads.{IsOpenGraph, IsShutGraph}
use Rattle.store_model.specs.Graphs.{graph}

-- the vertices of an engine's partitions, and their number
abbrev pub own_vertices : Job → (e : ℕ) → List ℕ
own_vertices job e = ranges.own_vertices job.vertices job.engines (parts_of job) e

abbrev pub own_of : Job → (e : ℕ) → ℕ
own_of job e = ranges.own_count job.vertices job.engines (parts_of job) e

abbrev pub round_values : Job → List Edge → ℕ → List Value
round_values job edges round = values (rules_of job.program) job.vertices edges round

-- the values of some vertices
abbrev pub values_of : List ℕ → List Value → List Value
values_of vertices all = map (value_at all) vertices

-- how many of some vertices have another value than a round before; in round 0, all
abbrev pub changed_in : Job → List Edge → List ℕ → ℕ → ℕ
changed_in job edges vertices zero = length vertices
changed_in job edges vertices (suc round) =
    count_by (has_changed (round_values job edges round) (round_values job edges (suc round))) vertices

-- a round of the job: none beyond its last one, nor beyond its limit where it has no last one
pub record IsReached (job : Job) (edges : List Edge) (round : ℕ) : Type 0 where
  pub no_later : (last : ℕ) → IsLastRound (rules_of job.program) job.vertices edges job.limit last → round ≤ last
  pub within : NeverSettles job edges → round ≤ job.limit

-- the slot of this round, on the values device of engine e, is open and holds it
pub record HasRound (job : Job) (edges : List Edge) (e : ℕ) (bytes : List ℕ) (round : ℕ) : Type 0 where
  pub reached : IsReached job edges round
  pub holds : HoldsRound (own_of job e) (slot_of round) round (changed_in job edges (own_vertices job e) round)
      (values_of (own_vertices job e) (round_values job edges round)) bytes

-- each slot of a values device is closed, or holds a round of this slot
pub record IsValuesOf (job : Job) (edges : List Edge) (e : ℕ) (bytes : List ℕ) : Type 0 where
  pub exact : length bytes ≡ device_size (own_of job e)
  pub slots : (slot : ℕ) → slot < 2
      → IsClosed (own_of job e) slot bytes ⊎ ((round : ℕ) × (slot_of round ≡ slot) × HasRound job edges e bytes round)

-- the bytes of the device of engine e
abbrev pub device : List (List ℕ) → (e : ℕ) → List ℕ
device devices e = slice_index_or devices e []

-- all graph devices are open
abbrev pub IsPrepared : List (List ℕ) → Type 0
IsPrepared graphs = (e : ℕ) → e < length graphs → IsOpenGraph (device graphs e)

-- some graph device is not
abbrev pub IsUnprepared : List (List ℕ) → Type 0
IsUnprepared graphs = (e : ℕ) × (e < length graphs) × IsShutGraph (device graphs e)

-- every graph device is whole, and every values device is the job's
pub record IsWholeStore (job : Job) (edges : List Edge) (graphs values : List (List ℕ)) : Type 0 where
  pub graphs_many : length graphs ≡ job.engines
  pub values_many : length values ≡ job.engines
  pub graphs_are : (e : ℕ) → e < job.engines → device graphs e ≡ graph job edges e
  pub values_are : (e : ℕ) → e < job.engines → IsValuesOf job edges e (device values e)

-- **What devices may hold that are the store of a job over its edges.**
abbrev pub StoreOf : Job → List Edge → (graphs values : List (List ℕ)) → Type 0
StoreOf job edges graphs values = IsUnprepared graphs ⊎ IsWholeStore job edges graphs values

-- this round stands in an open slot of every engine
abbrev pub IsEverywhere : Job → List Edge → (values : List (List ℕ)) → ℕ → Type 0
IsEverywhere job edges values round = (e : ℕ) → e < job.engines → HasRound job edges e (device values e) round

-- **The kept round**: the greatest such round.
pub record IsKeptRound (job : Job) (edges : List Edge) (values : List (List ℕ)) (round : ℕ) : Type 0 where
  pub everywhere : IsEverywhere job edges values round
  pub greatest : (other : ℕ) → IsEverywhere job edges values other → other ≤ round

-- there is none
abbrev pub IsFresh : Job → List Edge → (values : List (List ℕ)) → Type 0
IsFresh job edges values = (round : ℕ) → IsEverywhere job edges values round → ⊥
