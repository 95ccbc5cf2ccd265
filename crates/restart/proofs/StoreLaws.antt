-- The store of a job passes all checks, and what is recovered of it is the job, its index and its kept round.
use Rattle.std.proofs.Common.{◌≡◌, ◌∙◌, ℕ, ◌<◌, List, length, take, map, Option, Some, None, inl, inr, refl, sym, ap, subst, arith}
use Rattle.std.proofs.lemmas.Bool.{cases_lt}
use Rattle.graph_model.specs.declared.edge.Edge.{Edge}
use Rattle.graph_model.specs.declared.job.Job.{Job}
use Rattle.chunk_model.specs.Chunks.{Chunk}
use Rattle.chunk_model.specs.Layout.{edge_layout}
use Rattle.chunk_model.specs.ChunkBytes.{starts_of}
use Rattle.chunk_file.specs.declared.index.Place.{Place}
use Rattle.chunk_file.specs.Places.{on_graph}
use Rattle.seeded_place.specs.Placing.{edge_stream}
use Rattle.seeded_place.proofs.Engines.{engine_below}
use Rattle.store_model.specs.declared.field.Field.TheVariants.{Engines}
use Rattle.store_model.specs.declared.field.TheConstants.{FIELDS}
use Rattle.store_model.specs.Heads.{head, front, IsOpenGraph}
use Rattle.store_model.specs.Graphs.{edge_chunks, chunks_on, graph_with, graph}
use Rattle.store_model.specs.Kept.{own_of, IsPrepared, IsUnprepared, IsWholeStore, StoreOf}
use Rattle.store_model.specs.Damage as damage
use Rattle.store_model.specs.Damage.{Fault, first_over, value_of, is_good, is_same, head_of, head_fault, other_fault, engines_fault, heads_fault, values_fault, at_graph, own_in, AreChunks, StopsAt, HasFault}
use Rattle.store_model.proofs.Growing.{length-graph}
use Rattle.store_checks.specs.declared.fault.RecoverFault.{RecoverFault}
use Rattle.store_checks.specs.declared.fault.RecoverFault.TheVariants.{NotPrepared, EnginesDiffer, Damaged, DiskFault, Memory}
use Rattle.store_reader.specs.declared.store.Part.TheVariants.{Graph, Values, Lane}
use Rattle.ports.specs.Disk.{DiskState}
use Rattle.store_checks.specs.Causes.{Tell, HasRecoverCause}
use Rattle.store_checks.specs.Indexing.{IsIndexOf}
use Rattle.store_checks.specs.Jobs.{SaysJob}
use Rattle.store_checks.specs.Rounds.{IsKept, NoneKept}
use Rattle.store_checks.proofs.HeadChecks.{third_check, agree, cause_by}
use Rattle.restart.specs.declared.recovering.Recovered.{Recovered}
use Rattle.restart.specs.declared.recovering.Recovered.TheVariants.{Found, Fresh}
use Rattle.restart.specs.Recovering.{IsRecovered}
use Rattle.storage_engine.specs.Making.{HasPlaces}
use Rattle.restart.specs.Resuming.{Resumes, HasCauseOfJob}
use Rattle.restart.specs.Storable.{IsStorable}
use Rattle.restart.proofs.HeadsOfJobs.{head_says, field_is_good, field_is_same, none_bad, same_job}
use Rattle.restart.proofs.PlacedChunks.{over, over_same, none_on}
use Rattle.restart.proofs.StoredChunks.{graph_head, all_counted, found_chunks, no_stop}
use Rattle.restart.proofs.StoredRounds.{own_said, none_over, values_pass, kept_is, changed_kept, fresh_is}

module _ (job : Job) (edges : List Edge) (graphs values : List (List ℕ)) (storable : IsStorable job edges) (whole : IsWholeStore job edges graphs values) where
  head_at : (e : ℕ) → e < job.engines → head_of graphs e ≡ head 165 job e
  head_at e below = ap (take 65) (whole.graphs_are e below) ∙ graph_head job edges e

  first_head : head_of graphs 0 ≡ head 165 job 0
  first_head = head_at 0 (omega (arith, storable.job_is.engines.0))

  -- gates
  graph_open : (e : ℕ) → IsOpenGraph (graph job edges e)
  unfolding graph_with front
  graph_open e = record { whole = omega (arith, length-graph 165 job e (edge_chunks job edges)); gate = refl }

  all_open : IsPrepared graphs
  all_open e below = let engine : e < job.engines = omega (arith, below, whole.graphs_many) in subst IsOpenGraph (sym (whole.graphs_are e engine)) (graph_open e)

  -- heads
  good_head : (e : ℕ) → e < job.engines → head_fault e (head_of graphs e) ≡ None
  good_head e below =
      ap (head_fault e) (head_at e below)
      ∙ ap (at_graph e) (none_bad (is_good e (head 165 job e)) FIELDS (field_is_good job e storable.job_is))

  same_head : (e : ℕ) → e < job.engines → other_fault (head_of graphs 0) e (head_of graphs e) ≡ None
  same_head e below =
      ap (λ first. other_fault first e (head_of graphs e)) first_head
      ∙ ap (other_fault (head 165 job 0) e) (head_at e below)
      ∙ ap (at_graph e) (none_bad (is_same (head 165 job 0) (head 165 job e)) FIELDS (field_is_same job 0 e storable.job_is))

  good_heads : heads_fault graphs ≡ None
  good_heads =
      let engine : (e : ℕ) → e < length graphs → e < job.engines = λ e below. omega (arith, below, whole.graphs_many) in
      third_check (first_over (λ e. head_fault e (head_of graphs e)) (length graphs)) (first_over (λ e. other_fault (head_of graphs 0) e (head_of graphs e)) (length graphs)) (engines_fault (value_of Engines (head_of graphs 0)) (length graphs)) None
      (none_over (λ e. head_fault e (head_of graphs e)) (length graphs) (λ e below. good_head e (engine e below)))
      (none_over (λ e. other_fault (head_of graphs 0) e (head_of graphs e)) (length graphs) (λ e below. same_head e (engine e below)))
      (agree (value_of Engines (head_of graphs 0)) (length graphs) (ap (value_of Engines) first_head ∙ head_says job 0 storable.job_is Engines ∙ sym whole.graphs_many))

  -- chunks and slots
  good_slots : values_fault (head_of graphs 0) values ≡ None
  good_slots = ap (λ h. values_fault h values) first_head ∙ values_pass job edges storable.job_is values whole.values_many whole.values_are

  some_none : (fault : Fault) → ◌≡◌ {A = Option Fault} (Some fault) None → ⊥
  some_none fault same = cc

  -- **No check fails.**
  pub no_fault : (fault : Fault) → HasFault graphs values fault → ⊥
  no_fault fault (inl shut) = shut.1.2 (all_open shut.1.0 shut.1.1)
  no_fault fault (inr (inl heads)) = some_none fault (sym heads.1 ∙ good_heads)
  no_fault fault (inr (inr (inl stops))) =
      no_stop job edges storable graphs stops.2.0 stops.2.1 whole.graphs_many whole.graphs_are (subst (λ h. StopsAt h graphs stops.2.0 stops.2.1) first_head stops.2.3)
  no_fault fault (inr (inr (inr slots))) = some_none fault (sym slots.3 ∙ good_slots)

  -- the index
  index_of_job : (index : List (List Place)) (found : Job) (made : ℕ → List (Chunk Edge)) → found ≡ job → AreChunks (head_of graphs 0) graphs made → IsIndexOf found.format made (length graphs) index → length index ≡ 512 → HasPlaces job (edge_chunks job edges) index
  index_of_job index found made same chunks is lists = record {
    lists = lists;
    places = λ e p few within. elim (cases_lt e job.engines) [
      | inl below ↦
          is.here e p (omega (arith, below, whole.graphs_many)) within
          ∙ ap (λ (j : Job). map on_graph (starts_of (edge_layout j.format) p 65 (made e))) same
          ∙ ap (λ cs. map on_graph (starts_of (edge_layout job.format) p 65 cs)) (mine e below)
      | inr from ↦
          is.elsewhere e p (omega (arith, from, whole.graphs_many)) few within
          ∙ ap (λ cs. map on_graph (starts_of (edge_layout job.format) p 65 cs)) (sym (none_on job.seed edge_stream job.engines (λ k. engine_below job.seed edge_stream job.engines k storable.job_is.engines.0) e (edge_chunks job edges) from))
    ];
    total =
        is.total
        ∙ ap (λ n. over (λ e. length (made e)) n) whole.graphs_many
        ∙ over_same (λ e. length (made e)) (λ e. length (chunks_on job e (edge_chunks job edges))) job.engines (λ e below. ap length (mine e below))
        ∙ all_counted job edges storable;
  }
    where
      mine : (e : ℕ) → e < job.engines → made e ≡ chunks_on job e (edge_chunks job edges)
      mine e below = found_chunks job edges storable graphs made whole.graphs_many whole.graphs_are (subst (λ h. AreChunks h graphs made) first_head chunks) e below

  job_of_head : (found : Job) → SaysJob (head_of graphs 0) found → found ≡ job
  job_of_head found says = same_job job found 0 storable.job_is (subst (λ h. SaysJob h found) first_head says)

  own_of_head : ◌≡◌ {A = ℕ → ℕ} (λ e. own_in (head_of graphs 0) e) (λ e. own_of job e)
  own_of_head = ap {B = ℕ → ℕ} (λ h. λ e. own_in h e) first_head ∙ own_said job storable.job_is

  -- **What is recovered.**
  pub whole_resumes : (recovered : Recovered) → IsRecovered graphs values recovered → Resumes job edges values recovered
  whole_resumes (Found found index round changed) is =
      let same = job_of_head found is.0.says in
      let kept : IsKept (own_of job) values round changed = subst (λ (own : ℕ → ℕ). IsKept own values round changed) own_of_head is.1 in (
        same,
        index_of_job index found is.0.made same is.0.sound.chunks is.0.index_is is.0.lists,
        kept_is job edges storable.job_is values whole.values_many whole.values_are round changed kept,
        changed_kept job edges storable.job_is values whole.values_many whole.values_are round changed kept,
      )
  whole_resumes (Fresh found index) is =
      let same = job_of_head found is.0.says in (
        same,
        index_of_job index found is.0.made same is.0.sound.chunks is.0.index_is is.0.lists,
        fresh_is job edges storable.job_is values whole.values_many whole.values_are (subst (λ (own : ℕ → ℕ). NoneKept own values) own_of_head is.1),
      )

-- what is recovered has no gate that is closed
prepared_of : (graphs values : List (List ℕ)) (recovered : Recovered) → IsRecovered graphs values recovered → IsPrepared graphs
prepared_of graphs values (Found found index round changed) is = is.0.sound.prepared
prepared_of graphs values (Fresh found index) is = is.0.sound.prepared

-- **The law of recovery**: from what the devices of a job's store may hold to the answer.
pub store_resumes : (job : Job) (edges : List Edge) (graphs values : List (List ℕ)) → IsStorable job edges → StoreOf job edges graphs values → (recovered : Recovered) → IsRecovered graphs values recovered → Resumes job edges values recovered
store_resumes job edges graphs values storable (inl shut) recovered is = absurd (shut.2 (prepared_of graphs values recovered is shut.0 shut.1))
store_resumes job edges graphs values storable (inr whole) recovered is = whole_resumes job edges graphs values storable whole recovered is

shut_only : (graphs values : List (List ℕ)) (fault : Fault) → IsUnprepared graphs → HasFault graphs values fault → fault ≡ damage.NotPrepared
shut_only graphs values fault shut (inl found) = found.0
shut_only graphs values fault shut (inr (inl found)) = absurd (shut.2 (found.0 shut.0 shut.1))
shut_only graphs values fault shut (inr (inr (inl found))) = absurd (shut.2 (found.0 shut.0 shut.1))
shut_only graphs values fault shut (inr (inr (inr found))) = absurd (shut.2 (found.0 shut.0 shut.1))

no_damage : (job : Job) (edges : List Edge) (graphs values : List (List ℕ)) → IsStorable job edges → StoreOf job edges graphs values → (fault : Fault) → (fault ≡ damage.NotPrepared → ⊥) → HasFault graphs values fault → ⊥
no_damage job edges graphs values storable (inl shut) fault other found = other (shut_only graphs values fault shut found)
no_damage job edges graphs values storable (inr whole) fault other found = no_fault job edges graphs values storable whole fault found

pub store_cause : (job : Job) (edges : List Edge) (graphs values : List (List ℕ)) → IsStorable job edges → StoreOf job edges graphs values → (rose : Type 0) (fault : RecoverFault)
    → HasRecoverCause rose (HasFault graphs values) fault → HasCauseOfJob graphs fault
store_cause job edges graphs values storable (inl shut) rose NotPrepared found = shut
store_cause job edges graphs values storable (inr whole) rose NotPrepared found = absurd (no_fault job edges graphs values storable whole damage.NotPrepared found)
store_cause job edges graphs values storable store rose (EnginesDiffer held asked) found = no_damage job edges graphs values storable store (damage.EnginesDiffer held asked) (λ same. cc) found
store_cause job edges graphs values storable store rose (Damaged Graph engine place) found = no_damage job edges graphs values storable store (damage.GraphDamaged engine place) (λ same. cc) found
store_cause job edges graphs values storable store rose (Damaged Values engine place) found = no_damage job edges graphs values storable store (damage.ValuesDamaged engine place) (λ same. cc) found
store_cause job edges graphs values storable store rose (Damaged Lane engine place) found = found
store_cause job edges graphs values storable store rose DiskFault found = tt
store_cause job edges graphs values storable store rose Memory found = tt

-- The same, of what devices tell.
pub cause_told : {X : Type 0} (state : X → DiskState) (gs vs : List X) (rose : Type 0) (fault : RecoverFault)
    → HasRecoverCause rose (λ f. (graphs values : List (List ℕ)) → Tell state gs graphs → Tell state vs values → HasFault graphs values f) fault
    → (job : Job) (edges : List Edge) (graphs values : List (List ℕ)) → IsStorable job edges → StoreOf job edges graphs values → Tell state gs graphs → Tell state vs values → HasCauseOfJob graphs fault
cause_told state gs vs rose fault cause job edges graphs values storable store tell tell' =
    store_cause job edges graphs values storable store rose fault
    (cause_by rose rose (λ f. (graphs values : List (List ℕ)) → Tell state gs graphs → Tell state vs values → HasFault graphs values f) (HasFault graphs values) fault
    (λ r. r) (λ f found. found graphs values tell tell') cause)
