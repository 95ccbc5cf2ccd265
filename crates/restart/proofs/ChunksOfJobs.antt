-- The chunks of a job's edges are chunks by the head, and the bytes of its graph devices tell them.
use Rattle.std.proofs.Common.{◌≡◌, ◌∙◌, ℕ, ◌^◌, ◌<◌, ◌≤◌, ◌==◌, ◌&&◌, nat_lt, nat_le, Bool, true, false, if◌then◌else◌, List, refl, sym, ap, arith}
use Rattle.std.specs.List.{All}
use Rattle.std.proofs.lemmas.Bool.{le-leb, lt-ltb, eqb-true}
use Rattle.std.proofs.lemmas.List.Elements.{All-weaker}
use Rattle.graph_model.specs.declared.edge.Edge.{Edge}
use Rattle.graph_model.specs.declared.edge.TheConstants.{MAX_WEIGHT}
use Rattle.graph_model.specs.declared.job.Job.{Job}
use Rattle.graph_model.specs.Jobs.{IsWellFormedJob, parts_of}
use Rattle.partitioner.specs.Splits.{split_for}
use Rattle.partitioner.proofs.Made.{is_split_for, some_parts}
use Rattle.partitioner.proofs.Ranges.{partition_of-below}
use Rattle.chunk_model.specs.Chunks.{Chunk, IsChunkOf}
use Rattle.chunk_model.specs.Layout.{edge_fits, holds_edge}
use Rattle.chunk_model.proofs.LayoutLaws.{edge_holds}
use Rattle.chunk_model.proofs.Made.{chunks_are}
use Rattle.chunk_model.proofs.Counted.{chunks_each}
use Rattle.chunk_file.specs.Scans.{IsEdgeChunk}
use Rattle.seeded_place.specs.Placing.{edge_stream}
use Rattle.store_model.specs.Heads.{head}
use Rattle.store_model.specs.Graphs.{home_of, edge_chunks, chunks_on}
use Rattle.store_model.specs.Damage as damage
use Rattle.store_model.specs.declared.field.Field.TheVariants.{Format, Engines, Program, Argument, Vertices, Most, Chunk as ChunkSize, Seed, Alpha, Limit}
use Rattle.store_checks.specs.Jobs.{SaysJob}
use Rattle.restart.specs.Storable.{IsEdgeOf, IsStorable}
use Rattle.restart.proofs.HeadsOfJobs.{head_says, few_vertices}
use Rattle.restart.proofs.SplitOfHead.{says_split, to_head}
use Rattle.restart.proofs.PlacedChunks.{all_on}

-- A job's head says the job.
pub says_own : (job : Job) (e : ℕ) → IsWellFormedJob job → SaysJob (head 165 job e) job
says_own job e well = record {
  program = sym (head_says job e well Program);
  argument_is = sym (head_says job e well Argument);
  vertices = sym (head_says job e well Vertices);
  engines = sym (head_says job e well Engines);
  most = sym (head_says job e well Most);
  chunk = sym (head_says job e well ChunkSize);
  seed = sym (head_says job e well Seed);
  alpha = sym (head_says job e well Alpha);
  limit = sym (head_says job e well Limit);
  format = sym (head_says job e well Format);
  keep = well.keep;
}

-- An edge of the job can be written, and fits.
weight_room : (job : Job) (edge : Edge) → IsEdgeOf job edge → (first : Bool) → (job.format == 1) ≡ first → edge.weight < (if first then 2 ^ 32 else 2 ^ 64)
weight_room job edge is true one = is.room (eqb-true job.format 1 one)
weight_room job edge is false other = let few : edge.weight ≤ 1099511627775 = is.weight in omega (arith, few)

holds_it : (job : Job) (edge : Edge) → IsWellFormedJob job → IsEdgeOf job edge → holds_edge job.format edge ≡ true
holds_it job edge well is =
    edge_holds job.format edge (omega (arith, is.src, few_vertices job well)) (omega (arith, is.dst, few_vertices job well)) (weight_room job edge is (job.format == 1) refl)

fits_it : (job : Job) (edge : Edge) → IsEdgeOf job edge → edge_fits job.vertices edge ≡ true
fits_it job edge is =
    ap (λ b. b && nat_lt edge.dst job.vertices && nat_le edge.weight MAX_WEIGHT) (lt-ltb edge.src job.vertices is.src)
    ∙ ap (λ b. b && nat_le edge.weight MAX_WEIGHT) (lt-ltb edge.dst job.vertices is.dst)
    ∙ le-leb edge.weight MAX_WEIGHT is.weight

-- Each chunk of the job's edges is one.
chunk_is : (job : Job) → IsWellFormedJob job → (c : Chunk Edge) → IsChunkOf job.chunk (home_of job) c → All (IsEdgeOf job) c.items → c.partition < parts_of job → IsEdgeChunk job.format (split_for job) job.chunk c
chunk_is job well c is edges below = record {
  partition = below;
  are = record {
    some = is.some;
    few = is.few;
    counted = omega (arith, is.few, well.chunk.1);
    held = All-weaker (IsEdgeOf job) (λ edge. holds_edge job.format edge ≡ true) (λ edge. holds_it job edge well) c.items edges;
    belong = λ k d within. record { fits = fits_it job _ (edges k d within); home = is.of_partition k d within };
  };
}

edge_chunks_are : (job : Job) (edges : List Edge) → IsStorable job edges → All (IsEdgeChunk job.format (split_for job) job.chunk) (edge_chunks job edges)
edge_chunks_are job edges storable = λ k d within.
    let well = storable.job_is in
    let each = chunks_each job.chunk (home_of job) (parts_of job) edges well.chunk.0
    (λ i x less. partition_of-below job.vertices (parts_of job) _ (some_parts job well) (storable.edges_are i x less).src) in
    let kept = chunks_are (IsEdgeOf job) job.chunk (home_of job) (parts_of job) edges well.chunk.0 storable.edges_are in
    chunk_is job well _ (kept k d within).0 (kept k d within).1 (each k d within).1

pub on_engine_are : (job : Job) (edges : List Edge) (e : ℕ) → IsStorable job edges → All (damage.IsEdgeChunk (head 165 job 0)) (chunks_on job e (edge_chunks job edges))
on_engine_are job edges e storable =
    let well = storable.job_is in
    All-weaker (IsEdgeChunk job.format (split_for job) job.chunk) (damage.IsEdgeChunk (head 165 job 0))
    (to_head (head 165 job 0) job (split_for job) (says_split (head 165 job 0) job (split_for job) (says_own job 0 well) (is_split_for job)))
    (chunks_on job e (edge_chunks job edges))
    (all_on job.seed edge_stream job.engines (IsEdgeChunk job.format (split_for job) job.chunk) e (edge_chunks job edges) (edge_chunks_are job edges storable))
