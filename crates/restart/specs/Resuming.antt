-- What is recovered of the store of a job over its edges.
use Rattle.std.specs.Prelude.{◌≡◌, ℕ, List, sum_by, ⊤}
use Rattle.std.specs.List.{range_with_len}
use Rattle.graph_model.specs.declared.edge.Edge.{Edge}
use Rattle.graph_model.specs.declared.job.Job.{Job}
use Rattle.storage_engine.specs.Making.{HasPlaces}
use Rattle.store_model.specs.Graphs.{edge_chunks}
use Rattle.store_model.specs.Kept.{own_vertices, changed_in, IsUnprepared, IsKeptRound, IsFresh}
use Rattle.store_checks.specs.declared.fault.RecoverFault.{RecoverFault}
use Rattle.store_checks.specs.declared.fault.RecoverFault.TheVariants.{NotPrepared, EnginesDiffer, Damaged, DiskFault, Memory}
use Rattle.restart.specs.declared.recovering.Recovered.{Recovered}
use Rattle.restart.specs.declared.recovering.Recovered.TheVariants.{Found, Fresh}

-- how many values changed in a round, over all engines
abbrev pub changed_of_all : Job → List Edge → (round : ℕ) → ℕ
changed_of_all job edges round = sum_by (λ e. changed_in job edges (own_vertices job e) round) (range_with_len 0 job.engines)

-- **The job, its index, and the kept round**, where there is one.
abbrev pub Resumes : Job → List Edge → (values : List (List ℕ)) → Recovered → Type 0
Resumes job edges values (Found found index round changed) =
    (found ≡ job) × HasPlaces job (edge_chunks job edges) index × IsKeptRound job edges values round × (changed ≡ changed_of_all job edges round)
Resumes job edges values (Fresh found index) = (found ≡ job) × HasPlaces job (edge_chunks job edges) index × IsFresh job edges values

-- Why it was not recovered: it is not prepared, or a read or memory failed.
abbrev pub HasCauseOfJob : (graphs : List (List ℕ)) → RecoverFault → Type 0
HasCauseOfJob graphs NotPrepared = IsUnprepared graphs
HasCauseOfJob graphs (EnginesDiffer held asked) = ⊥
HasCauseOfJob graphs (Damaged part engine place) = ⊥
HasCauseOfJob graphs DiskFault = ⊤
HasCauseOfJob graphs Memory = ⊤
