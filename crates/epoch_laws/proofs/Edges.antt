-- The chunks of a job's edges.
use Rattle.std.proofs.Common.{◌≡◌, ℕ, ◌<◌, ◌≤◌, List, [], ◌∷◌, length, get_or, flat_map, ◌∙◌, ap, subst, arith}
use Rattle.std.specs.List.{All, fold}
use Rattle.std.proofs.lemmas.List.Elements.{All-head}
use Rattle.graph_model.specs.declared.edge.Edge.{Edge}
use Rattle.graph_model.specs.declared.job.Job.{Job}
use Rattle.graph_model.specs.Jobs.{IsWellFormedJob, parts_of}
use Rattle.graph_model.specs.Rounds.{IsWithinGraph}
use Rattle.partitioner.proofs.Ranges.{partition_of-below}
use Rattle.partitioner.proofs.Made.{some_parts}
use Rattle.gather_laws.specs.Laws.{MergeLaws}
use Rattle.chunk_model.specs.Chunks.{Chunk, chunks, IsChunkOf}
use Rattle.chunk_model.proofs.Made.{chunks_are}
use Rattle.seeded_place.specs.Placing.{edge_stream}
use Rattle.store_model.specs.Graphs.{home_of, edge_chunks}
use Rattle.epoch_laws.specs.Phases.{edge_shelf}
use Rattle.epoch_laws.proofs.Grouped.{over_chunks}
use Rattle.epoch_laws.proofs.Shelves.{StandsBelow, over_placed, placed_below, placed_all}

-- each chunk of a list is of a partition, and its items keep what holds of the list
pub chunks_below : {X : Type 0} (P : X → Type 0) (size : ℕ) (home : X → ℕ) (parts : ℕ) (xs : List X) → 1 ≤ size → All (λ x. home x < parts) xs → All P xs →
    All (λ (c : Chunk X). (c.partition < parts) × All P c.items) (chunks size home parts xs)
chunks_below {X} P size home parts xs some below all =
    let are = chunks_are (λ x. (home x < parts) × P x) size home parts xs some (λ k d inside. (below k d inside, all k d inside)) in
    λ k d inside. (of_first (get_or (chunks size home parts xs) k d) (are k d inside).0 (are k d inside).1, λ j e within. ((are k d inside).1 j e within).1)
  where
    with_first : (partition : ℕ) (items : List X) → 0 < length items → All (λ x. home x ≡ partition) items → All (λ x. (home x < parts) × P x) items → partition < parts
    with_first partition [] some at kept = absurd (omega arith)
    with_first partition (x ∷ items) some at kept =
        subst (λ k. k < parts) (All-head (λ x. home x ≡ partition) x items at) (All-head (λ x. (home x < parts) × P x) x items kept).0

    of_first : (c : Chunk X) → IsChunkOf size home c → All (λ x. (home x < parts) × P x) c.items → c.partition < parts
    of_first c is kept = with_first c.partition c.items is.some is.of_partition kept

module _ (job : Job) (edges : List Edge) (well : IsWellFormedJob job) (within : IsWithinGraph job.vertices edges) where
  homes : All (λ (e : Edge). home_of job e < parts_of job) edges
  homes = λ k d below. partition_of-below job.vertices (parts_of job) (get_or edges k d).src (some_parts job well) (within k d below).0

  pub edges_stand : All (StandsBelow job.engines (parts_of job)) (edge_shelf job edges)
  edges_stand =
      let below = chunks_below (λ (e : Edge). (e.src < job.vertices) × (e.dst < job.vertices)) job.chunk (home_of job) (parts_of job) edges well.chunk.0 homes within in
      let all = placed_all (λ (c : Chunk Edge). (c.partition < parts_of job) × All (λ (e : Edge). (e.src < job.vertices) × (e.dst < job.vertices)) c.items) job.seed edge_stream job.engines (edge_chunks job edges) below in
      let engines = placed_below job.seed edge_stream job.engines (edge_chunks job edges) well.engines.0 in
      λ k d inside. (engines k d inside, (all k d inside).0)

  pub edges_all : (P : Edge → Type 0) → All P edges → All (λ (c : ℕ × Chunk Edge). All P c.1.items) (edge_shelf job edges)
  edges_all P each =
      let all = placed_all (λ (c : Chunk Edge). (c.partition < parts_of job) × All P c.items) job.seed edge_stream job.engines (edge_chunks job edges)
      (chunks_below P job.chunk (home_of job) (parts_of job) edges well.chunk.0 homes each) in
      λ k d inside. (all k d inside).1

  -- **The merge over all chunks of edges is the merge over the edges.**
  pub over_edges : (unit : ℕ) (merge : ℕ → ℕ → ℕ) (IsSum : ℕ → Type 0) (laws : MergeLaws unit merge IsSum) (h : Edge → List ℕ) → All (λ (e : Edge). All IsSum (h e)) edges →
      fold merge unit (flat_map (λ (c : ℕ × Chunk Edge). flat_map h c.1.items) (edge_shelf job edges)) ≡ fold merge unit (flat_map h edges)
  over_edges unit merge IsSum laws h sums =
      ap (fold merge unit) (over_placed (λ (c : Chunk Edge). flat_map h c.items) job.seed edge_stream job.engines (edge_chunks job edges))
      ∙ over_chunks unit merge IsSum laws h job.chunk (home_of job) (parts_of job) edges well.chunk.0 homes sums
