-- What is recovered of a store.
use Rattle.std.specs.Prelude.{◌≡◌, ℕ, ◌≤◌, List, length, ⊤}
use Rattle.graph_model.specs.declared.edge.Edge.{Edge}
use Rattle.graph_model.specs.declared.job.Job.{Job}
use Rattle.chunk_model.specs.Chunks.{Chunk}
use Rattle.chunk_file.specs.declared.index.Place.{Place}
use Rattle.store_model.specs.Damage.{head_of, own_in, IsSound}
use Rattle.store_checks.specs.Jobs.{SaysJob}
use Rattle.store_checks.specs.Indexing.{IsIndexOf}
use Rattle.store_checks.specs.Rounds.{IsKept, NoneKept}
use Rattle.restart.specs.declared.recovering.Recovered.{Recovered}
use Rattle.restart.specs.declared.recovering.Recovered.TheVariants.{Found, Fresh}

abbrev pub job_in : Recovered → Job
job_in (Found job index round changed) = job
job_in (Fresh job index) = job

abbrev pub index_in : Recovered → List (List Place)
index_in (Found job index round changed) = index
index_in (Fresh job index) = index

-- a round that is found is one that a job may have
abbrev pub IsWithinRounds : Recovered → Type 0
IsWithinRounds (Found job index round changed) = round ≤ 1000000
IsWithinRounds (Fresh job index) = ⊤

-- No check fails, the job is what the heads say, and the index, which has a list for each of 8 engines and 64 partitions,
-- has just the chunks of the graph devices.
pub record IsOpened (graphs values : List (List ℕ)) (job : Job) (index : List (List Place)) : Type 0 where
  pub made : ℕ → List (Chunk Edge)
  pub sound : IsSound graphs values made
  pub says : SaysJob (head_of graphs 0) job
  pub lists : length index ≡ 512
  pub index_is : IsIndexOf job.format made (length graphs) index

-- **What is recovered of devices that tell their bytes**: the kept round, where there is one.
abbrev pub IsRecovered : (graphs values : List (List ℕ)) → Recovered → Type 0
IsRecovered graphs values (Found job index round changed) =
    IsOpened graphs values job index × IsKept (own_in (head_of graphs 0)) values round changed
IsRecovered graphs values (Fresh job index) = IsOpened graphs values job index × NoneKept (own_in (head_of graphs 0)) values
