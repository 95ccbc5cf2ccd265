-- The edges of a text that a job accepts: they are within the graph, and few.
use Rattle.std.proofs.Common.{◌≡◌, ℕ, ◌*◌, ◌^◌, ◌<◌, ◌≤◌, List, [], length, false, nat_lt, arith}
use Rattle.std.proofs.Math.Nat.{min-le_right}
use Rattle.std.proofs.lemmas.Bool.Decides.{nat_tests}
use Rattle.std.proofs.lemmas.List.Elements.{All-weaker}
use Rattle.graph_model.specs.declared.edge.Edge.{Edge}
use Rattle.graph_model.specs.declared.edge.TheConstants.{MAX_WEIGHT}
use Rattle.graph_model.specs.declared.job.Job.{Job}
use Rattle.graph_model.specs.Programs.{takes_both_directions}
use Rattle.graph_model.specs.EdgeText.{first_malformed, lines, lines_within, text_limit}
use Rattle.graph_model.specs.Jobs.{IsWellFormedJob, parts_of}
use Rattle.graph_model.specs.Answer.{edges, IsAccepted}
use Rattle.graph_model.specs.Rounds.{IsWithinGraph}
use Rattle.graph_model.proofs.TextLemmas.{edges_of_lines-storable, edges_of_lines-within}
use Rattle.chunk_model.specs.Chunks.{full_chunks}
use Rattle.chunk_model.proofs.Counted.{chunks_few}
use Rattle.store_model.specs.Graphs.{home_of, edge_chunks}
use Rattle.store_model.specs.Damage.{MOST_CHUNKS}
use Rattle.storage_engine.proofs.Few.{text_few, full_few}
use Rattle.storage_engine.proofs.Texts.{not_long}
use Rattle.restart.specs.Storable.{IsEdgeOf, IsStorable}

pub edges_within : (job : Job) (text : List ℕ) → IsWithinGraph job.vertices (edges job text)
edges_within job text = edges_of_lines-within job.vertices (takes_both_directions job.program) (lines text)

no_longer : (job : Job) (text : List ℕ) → IsAccepted job text → length text ≤ text_limit job.chunk
no_longer job text accepted =
    let short : nat_lt (text_limit job.chunk) (length text) ≡ false = not_long (first_malformed job.vertices (lines_within (text_limit job.chunk) text)) (nat_lt (text_limit job.chunk) (length text)) accepted in
    grind (arith, nat_tests)

few_edges : (job : Job) (text : List ℕ) → IsAccepted job text → length (edges job text) ≤ 1073741824 * job.chunk
few_edges job text accepted =
    omega (arith, text_few job.vertices (takes_both_directions job.program) text, no_longer job text accepted, min-le_right (2 ^ 40) (2 ^ 31 * job.chunk))

-- **Its edges fill few chunks.**
pub chunks_of_text : (job : Job) (text : List ℕ) → IsWellFormedJob job → IsAccepted job text → length (edge_chunks job (edges job text)) ≤ MOST_CHUNKS
chunks_of_text job text well accepted =
    let full : length (full_chunks job.chunk (home_of job) [] (edges job text)) ≤ 1073741824 = full_few job.chunk 1073741824 (home_of job) (edges job text) well.chunk.0 (few_edges job text accepted) in
    omega (arith, full, chunks_few job.chunk (home_of job) (parts_of job) (edges job text), well.few_parts)

-- **They may have a store of the second format.**
pub storable_text : (job : Job) → IsWellFormedJob job → job.format ≡ 2 → (text : List ℕ) → IsAccepted job text → IsStorable job (edges job text)
storable_text job well second text accepted = record {
  job_is = well;
  edges_are = All-weaker (λ (edge : Edge). (edge.src < job.vertices) × (edge.dst < job.vertices) × (edge.weight ≤ MAX_WEIGHT)) (IsEdgeOf job)
      (λ edge is. record { src = is.0; dst = is.1; weight = is.2; room = λ first. absurd (omega (arith, first, second)) }) (edges job text)
      (edges_of_lines-storable job.vertices (takes_both_directions job.program) (lines text));
  few = chunks_of_text job text well accepted;
}
