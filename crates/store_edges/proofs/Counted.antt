-- How many places an engine has: as many as chunks.
use Rattle.std.proofs.Common.{◌≡◌, ◌≢◌, ◌∙◌, inl, inr, ℕ, zero, suc, ◌+◌, ◌<◌, ◌≤◌, cond, List, [], ◌∷◌, length, refl, ap, sym, arith, eq-eqb}
use Rattle.std.specs.List.{All, sum_by, range_with_len}
use Rattle.std.proofs.lemmas.Bool.{cases_eq, ne_eqb}
use Rattle.std.proofs.lemmas.List.{length-map}
use Rattle.std.proofs.lemmas.List.Elements.{All-head, All-tail, All-weaker}
use Rattle.std.proofs.lemmas.List.Sums.{sum_by-cons}
use Rattle.graph_model.specs.declared.edge.Edge.{Edge}
use Rattle.graph_model.specs.declared.job.Job.{Job}
use Rattle.graph_model.specs.Jobs.{parts_of, span_of}
use Rattle.partitioner.specs.declared.split.Split.{Split}
use Rattle.chunk_model.specs.Chunks.{Chunk, chunks_of_partition}
use Rattle.chunk_model.specs.Layout.{edge_layout}
use Rattle.chunk_file.specs.declared.index.Place.{Place}
use Rattle.chunk_file.specs.Places.{places_of, on_graph}
use Rattle.store_model.specs.Heads.{HEAD_SIZE, head}
use Rattle.store_model.specs.Graphs.{edge_chunks, chunks_on, places_on}
use Rattle.store_model.specs.Damage as damage
use Rattle.storage_engine.specs.Making.{HasPlaces}
use Rattle.restart.specs.Storable.{IsStorable}
use Rattle.restart.proofs.ChunksOfJobs.{on_engine_are, says_own}
use Rattle.restart.proofs.SplitOfHead.{says_split, from_head}
use Rattle.store_edges.proofs.Stands.{as_many}

-- Two sums over partitions, of terms that are the same, or the same but at one partition.
sums_same : (f g : ℕ → ℕ) (first k : ℕ) → ((p : ℕ) → first ≤ p → p < first + k → f p ≡ g p) → sum_by f (range_with_len first k) ≡ sum_by g (range_with_len first k)
sums_same f g first zero same = refl
sums_same f g first (suc k) same =
    omega (
      arith,
      sum_by-cons f first (range_with_len (first + 1) k),
      sum_by-cons g first (range_with_len (first + 1) k),
      same first (omega arith) (omega arith),
      sums_same f g (first + 1) k (λ p from below. same p (omega arith) (omega arith)),
    )

sum_more : (f g : ℕ → ℕ) (q : ℕ) → f q ≡ g q + 1 → ((p : ℕ) → p ≢ q → f p ≡ g p) → (first k : ℕ) → first ≤ q → q < first + k → sum_by f (range_with_len first k) ≡ sum_by g (range_with_len first k) + 1
sum_more f g q more same first zero from below = absurd (omega arith)
sum_more f g q more same first (suc k) from below = elim (cases_eq q first) [
  | inl here ↦
      let one : f first ≡ g first + 1 = ap f (sym here) ∙ more ∙ ap (λ p. g p + 1) here in
      omega (
        arith,
        sum_by-cons f first (range_with_len (first + 1) k),
        sum_by-cons g first (range_with_len (first + 1) k),
        one,
        sums_same f g (first + 1) k (λ p later inside. same p (λ equal. omega (arith, equal, here, later))),
      )
  | inr other ↦ omega (
    arith,
    sum_by-cons f first (range_with_len (first + 1) k),
    sum_by-cons g first (range_with_len (first + 1) k),
    same first (λ equal. other (sym equal)),
    sum_more f g q more same (first + 1) k (omega (arith, other, from)) (omega (arith, below)),
  )
]

-- chunks, counted by partition
by_partition : {X : Type 0} (parts : ℕ) (made : List (Chunk X)) → All (λ c. c.partition < parts) made → sum_by (λ p. length (chunks_of_partition p made)) (range_with_len 0 parts) ≡ length made
by_partition parts [] below = none (range_with_len 0 parts)
  where
    none : (ps : List ℕ) → sum_by (λ p. 0) ps ≡ 0
    none [] = refl
    none (p ∷ ps) = omega (arith, sum_by-cons (λ (q : ℕ). 0) p ps, none ps)
by_partition {X} parts (c ∷ made) below =
    let first : c.partition < parts = All-head (λ (c : Chunk X). c.partition < parts) c made below in
    let later = by_partition parts made (All-tail (λ (c : Chunk X). c.partition < parts) c made below) in
    let count : ℕ → ℕ = λ p. length (chunks_of_partition p (c ∷ made)) in
    let count_later : ℕ → ℕ = λ p. length (chunks_of_partition p made) in
    let here : count c.partition ≡ count_later c.partition + 1 =
    ap (λ b. length (cond b (c ∷ chunks_of_partition c.partition made) (chunks_of_partition c.partition made))) (eq-eqb c.partition c.partition refl) ∙ omega arith in
    let elsewhere : (p : ℕ) → p ≢ c.partition → count p ≡ count_later p = λ p other.
    ap (λ b. length (cond b (c ∷ chunks_of_partition p made) (chunks_of_partition p made))) (ne_eqb c.partition p (λ equal. other (sym equal))) in
    sum_more count count_later c.partition here elsewhere 0 parts (omega arith) (omega (arith, first)) ∙ omega (arith, later)

module _ (job : Job) (edges : List Edge) (storable : IsStorable job edges) (index : List (List Place)) (has : HasPlaces job (edge_chunks job edges) index) where
  -- the chunks of an engine
  abbrev all_on : (e : ℕ) → List (Chunk Edge)
  all_on e = chunks_on job e (edge_chunks job edges)

  below : (e : ℕ) → All (λ (c : Chunk Edge). c.partition < parts_of job) (all_on e)
  below e =
      let split : Split = record { vertices = job.vertices; engines = job.engines; parts = parts_of job; span = span_of job } in
      let says = says_split (head 165 job 0) job split (says_own job 0 storable.job_is) (record { vertices = refl; engines = refl; parts = refl; span = refl }) in
      All-weaker (damage.IsEdgeChunk (head 165 job 0)) (λ (c : Chunk Edge). c.partition < parts_of job) (λ c is. (from_head (head 165 job 0) job split says c is).partition) (all_on e) (on_engine_are job edges e storable)

  as_many_places : (e p : ℕ) → e < 8 → p < 64 → length (places_of index e p) ≡ length (chunks_of_partition p (all_on e))
  as_many_places e p few small =
      ap length (has.places e p few small)
      ∙ length-map (places_on job e p (edge_chunks job edges)) on_graph
      ∙ as_many (edge_layout job.format) p HEAD_SIZE (all_on e)

  -- **An engine has as many places as chunks.**
  pub engine_counted : (parts : ℕ) → parts_of job ≤ parts → parts ≤ 64 → (e : ℕ) → e < 8 → sum_by (λ p. length (places_of index e p)) (range_with_len 0 parts) ≡ length (all_on e)
  engine_counted parts most small e few =
      sums_same (λ p. length (places_of index e p)) (λ p. length (chunks_of_partition p (all_on e))) 0 parts (λ p from within. as_many_places e p few (omega (arith, within, small)))
      ∙ by_partition parts (all_on e) (All-weaker (λ (c : Chunk Edge). c.partition < parts_of job) (λ (c : Chunk Edge). c.partition < parts) (λ c is. omega (arith, is, most)) (all_on e) (below e))
