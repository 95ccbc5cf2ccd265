-- Chunks of edges behind the head of a graph device, and an index of their places.
use Rattle.std.proofs.Common.{◌≡◌, ◌∙◌, ℕ, ◌<◌, ◌==◌, List, length, map, get_or, sym, ap, subst, arith}
use Rattle.std.proofs.lemmas.List.{get_or-map, length-map}
use Rattle.std.proofs.lemmas.List.Elements.{All-filter, All-get_or}
use Rattle.graph_model.specs.declared.edge.Edge.{Edge}
use Rattle.graph_model.specs.declared.job.Job.{Job}
use Rattle.partitioner.specs.declared.split.Split.{Split}
use Rattle.chunk_model.specs.Chunks.{Chunk, chunks_of_partition}
use Rattle.chunk_model.specs.Layout.{edge_layout}
use Rattle.chunk_model.specs.ChunkBytes.{starts_of}
use Rattle.chunk_model.proofs.Made.{all_items_of}
use Rattle.chunk_file.specs.declared.index.Place.{Place}
use Rattle.chunk_file.specs.Places.{on_graph}
use Rattle.chunk_file.specs.Chunks.{AreChunkIn, IsChunkIn}
use Rattle.chunk_file.specs.Scans.{IsEdgeChunk}
use Rattle.phase_model.specs.Shelves.{no_chunk}
use Rattle.store_model.specs.Heads.{HEAD_SIZE}
use Rattle.store_checks.specs.Indexing.{Begins}
use Rattle.store_edges.proofs.Stands.{as_many, stands_there}

-- **The t-th chunk of a partition stands at its t-th place.**
pub chunk_there : (job : Job) (split : Split) (made : List (Chunk Edge)) (rest bytes : List ℕ) → Begins job split made rest bytes →
    (places : List Place) (p t : ℕ) → places ≡ map on_graph (starts_of (edge_layout job.format) p HEAD_SIZE made) → t < length places →
    IsChunkIn (edge_layout job.format) split job.chunk p (get_or places t (on_graph 0)).at bytes (get_or (chunks_of_partition p made) t no_chunk).items
chunk_there job split made rest bytes begins places p t are inside =
    let starts : List ℕ = starts_of (edge_layout job.format) p HEAD_SIZE made in
    let mine : List (Chunk Edge) = chunks_of_partition p made in
    let there : t < length starts = omega (arith, inside, ap length are, length-map starts on_graph) in
    let held : t < length mine = omega (arith, there, as_many (edge_layout job.format) p HEAD_SIZE made) in
    let place : (get_or places t (on_graph 0)).at ≡ get_or starts t 0 =
    ap (λ (ps : List Place). (get_or ps t (on_graph 0)).at) are ∙ ap (λ (place : Place). place.at) (get_or-map on_graph starts t 0 (on_graph 0) there) in
    let chunk : Chunk Edge = get_or mine t no_chunk in
    let is : IsEdgeChunk job.format split job.chunk chunk = All-get_or (IsEdgeChunk job.format split job.chunk) mine t no_chunk held (All-filter (λ (c : Chunk Edge). c.partition == p) (IsEdgeChunk job.format split job.chunk) made begins.are) in
    let home : chunk.partition ≡ p = all_items_of (λ (c : Chunk Edge). c.partition) p made t no_chunk held in
    let here : IsChunkIn (edge_layout job.format) split job.chunk p (get_or starts t 0) bytes chunk.items = record {
      stands = stands_there (edge_layout job.format) p HEAD_SIZE t bytes rest made begins.stand there;
      are = subst (λ k. AreChunkIn (edge_layout job.format) split job.chunk k chunk.items) home is.are;
    } in
    subst (λ at. IsChunkIn (edge_layout job.format) split job.chunk p at bytes chunk.items) (sym place) here
