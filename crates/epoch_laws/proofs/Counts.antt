-- Edges that workers count.
use Rattle.std.proofs.Common.{◌≡◌, ℕ, ◌==◌, if◌then◌else◌, Bool, true, false, List, [], ◌∷◌, ◌++◌, get_or, map, flat_map, refl, sym, ◌∙◌, ap, arith}
use Rattle.std.proofs.Math.Path.{fun_ext}
use Rattle.std.specs.List.{All, fold}
use Rattle.std.proofs.lemmas.List.Elements.{All-nil, All-cons}
use Rattle.graph_model.specs.declared.edge.Edge.{Edge}
use Rattle.graph_model.specs.declared.value.Update.{Update}
use Rattle.graph_model.specs.declared.job.Job.{Job}
use Rattle.graph_model.specs.Programs.{Rules, plus}
use Rattle.graph_model.specs.Rounds.{IsWithinGraph, out_degree}
use Rattle.graph_model.specs.Jobs.{IsWellFormedJob}
use Rattle.gather_laws.specs.Laws.{CountLaws, IsCapped}
use Rattle.vertex_programs.specs.TotalLaws.{plus_laws}
use Rattle.chunk_object.specs.declared.call.Call.{Call}
use Rattle.chunk_object.specs.Epochs.{Epoch, TakesEachOnce}
use Rattle.phase_model.specs.JobTerms.{terms_of}
use Rattle.phase_model.specs.Shelves.{records_at}
use Rattle.phase_model.specs.Taken.{records_taken}
use Rattle.phase_model.specs.Sums.{values_to, count_of, counts_of}
use Rattle.phase_model.proofs.Sent.{values_to-append}
use Rattle.phase_model.proofs.Counted as degrees
use Rattle.epoch_laws.specs.Phases.{edge_shelf, Opens, counted, merged_over}
use Rattle.epoch_laws.proofs.Shelves.{workers_merged}
use Rattle.epoch_laws.proofs.Edges.{edges_stand, edges_all, over_edges}

-- what an edge counts at a vertex
abbrev counts_at : ℕ → Edge → List ℕ
counts_at vertex e = values_to vertex (count_of e ∷ [])

counts_each : (vertex : ℕ) (edges : List Edge) → values_to vertex (counts_of edges) ≡ flat_map (counts_at vertex) edges
counts_each vertex [] = refl
counts_each vertex (e ∷ edges) = values_to-append vertex (count_of e ∷ []) (counts_of edges) ∙ ap (λ back. counts_at vertex e ++ back) (counts_each vertex edges)

capped_count : (vertex : ℕ) (e : Edge) → All IsCapped (counts_at vertex e)
capped_count vertex e = by_test (e.src == vertex)
  where
    by_test : (here : Bool) → All IsCapped (map (λ (u : Update). u.value) (if here then count_of e ∷ [] else []))
    by_test true = All-cons IsCapped 1 [] (omega arith) (All-nil IsCapped)
    by_test false = All-nil IsCapped

-- **The merge of what all workers counted is the number of edges.**
pub edges_counted : (rules : Rules) → CountLaws rules → rules.counts ≡ true → (job : Job) (edges : List Edge) → IsWellFormedJob job → IsWithinGraph job.vertices edges →
    (count : Epoch) → Opens (edge_shelf job edges) count → TakesEachOnce (terms_of job) count → (vertex : ℕ) → merged_over rules (counted (edge_shelf job edges) vertex) count ≡ out_degree edges vertex
edges_counted rules laws counts job edges well within count opens once vertex =
    let own : List Call → ℕ = counted (edge_shelf job edges) vertex in
    let adds : rules.merge ≡ plus = fun_ext (λ a. fun_ext (λ b. laws.adds counts a b)) in
    ap (λ m. fold m rules.unit (map own count.lists)) adds
    ∙ ap (λ unit. fold plus unit (map own count.lists)) (laws.from_zero counts)
    ∙ ap (λ f. fold plus 0 (map f count.lists)) (fun_ext (λ calls. ap (fold plus 0) (counts_each vertex (records_taken (records_at (edge_shelf job edges)) calls))))
    ∙ workers_merged 0 plus IsCapped plus_laws (counts_at vertex) (edge_shelf job edges) (terms_of job) count well.few_parts (edges_stand job edges well within)
    (edges_all job edges well within (λ (e : Edge). All IsCapped (counts_at vertex e)) (λ k d below. capped_count vertex (get_or edges k d))) opens once
    ∙ over_edges job edges well within 0 plus IsCapped plus_laws (counts_at vertex) (λ k d below. capped_count vertex (get_or edges k d))
    ∙ sym (ap (fold plus 0) (counts_each vertex edges))
    ∙ degrees.counted vertex edges
