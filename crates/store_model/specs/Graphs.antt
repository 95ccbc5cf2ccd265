-- What stands on the graph devices of a store: a head, and the chunks of edges that are placed there.
use Rattle.std.specs.Prelude.{ℕ, ◌/◌, List, ◌++◌}
use Rattle.graph_model.specs.declared.edge.Edge.{Edge}
use Rattle.graph_model.specs.declared.job.Job.{Job}
use Rattle.graph_model.specs.Jobs.{parts_of, span_of}
use Rattle.chunk_model.specs.Chunks.{Chunk, chunks}
use Rattle.chunk_model.specs.Layout.{edge_layout}
use Rattle.chunk_model.specs.ChunkBytes.{bytes_of_chunks, starts_of}
use Rattle.seeded_place.specs.Placing.{edge_stream, placed, on_engine}
use Rattle.store_model.specs.Gates.{OPEN}
use Rattle.store_model.specs.Heads.{HEAD_SIZE, head}

-- the partition of an edge is that of its source
abbrev pub home_of : Job → Edge → ℕ
home_of job edge = edge.src / span_of job

-- the chunks of a job's edges, in order of making
abbrev pub edge_chunks : Job → List Edge → List (Chunk Edge)
edge_chunks job edges = chunks job.chunk (home_of job) (parts_of job) edges

-- of the chunks that were made, those that go to an engine
abbrev pub chunks_on : Job → (e : ℕ) → List (Chunk Edge) → List (Chunk Edge)
chunks_on job e made = on_engine e (placed job.seed edge_stream job.engines made)

-- the graph device of engine e with this gate, when these chunks were made
unfoldable pub graph_with : (gate : ℕ) → Job → (e : ℕ) → List (Chunk Edge) → List ℕ
graph_with gate job e made = head gate job e ++ bytes_of_chunks (edge_layout job.format) (chunks_on job e made)

-- **The whole content of the graph device of engine e.**
abbrev pub graph : Job → List Edge → (e : ℕ) → List ℕ
graph job edges e = graph_with OPEN job e (edge_chunks job edges)

-- the places, on the graph device of engine e, of the chunks of a partition
abbrev pub places_on : Job → (e p : ℕ) → List (Chunk Edge) → List ℕ
places_on job e p made = starts_of (edge_layout job.format) p HEAD_SIZE (chunks_on job e made)
