-- Where the program counts, each vertex starts with its count; else any count serves.
use Rattle.std.proofs.Common.{◌≡◌, ℕ, ◌<◌, List, length, get_or, sym, ◌∙◌, ap}
use Rattle.std.proofs.lemmas.Result.{IfOk-weaker}
use Rattle.graph_model.specs.declared.edge.Edge.{Edge}
use Rattle.graph_model.specs.Programs.{Rules}
use Rattle.graph_model.specs.Rounds.{first_values, of_vertices, out_degree}
use Rattle.graph_model.proofs.RoundLemmas.{get_or-of_vertices, of_vertices_same}
use Rattle.plain_rounds.proofs.start.first_values.Goals as goal
use Rattle.plain_rounds.proofs.start.first_values.Goals.{then-counts, else-counts}

-- vertices that start as with their counts have the values of round 0
started : (p : Rules) (edges : List Edge) (n : ℕ) (counts : List ℕ) → length counts ≡ n →
    ((v : ℕ) → v < n → p.start v (get_or counts v 0) ≡ p.start v (out_degree edges v)) →
    of_vertices (length counts) (λ v. p.start v (get_or counts v 0)) ≡ first_values p n edges
started p edges n counts long each =
    ap (λ k. of_vertices k (λ v. p.start v (get_or counts v 0))) long
    ∙ of_vertices_same n (λ v. p.start v (get_or counts v 0)) (λ v. p.start v (out_degree edges v)) each

counted : (p : Rules) (edges : List Edge) (n : ℕ) (counts : List ℕ) → counts ≡ of_vertices n (out_degree edges) →
    (v : ℕ) → v < n → p.start v (get_or counts v 0) ≡ p.start v (out_degree edges v)
counted p edges n counts is v below =
    ap (p.start v) (ap (λ xs. get_or xs v 0) is ∙ get_or-of_vertices n (out_degree edges) v 0 below)

pub returns : goal.returns
returns g c =
    let laws = (g.met.P.VertexProgram g.world.𝓛 g.world.𝓜 g.world.𝓡 ((λ s x. x), (λ x. x), (λ x. x), λ x. x)).laws c.args.program.now in
    let p : Rules = g.P.VertexProgram.rules c.args.program.now in
    let n : ℕ = length c.args.counts.now in
    let each : (v : ℕ) → v < n → p.start v (get_or c.if-counts.counts v 0) ≡ p.start v (out_degree c.args.edges.now v)
    = elim c.if-counts.branch [
      | then-counts w ↦ counted p c.args.edges.now n c.if-counts.counts (w.counts-is ∙ w.count_out.ensures)
      | else-counts w ↦ λ v below. laws.counting.ignores (sym w.if-counts.ensures) v _ _
    ] in
    IfOk-weaker c.start_all.result _ _ (λ values is. is ∙ started p c.args.edges.now n c.if-counts.counts c.if-counts.auto.counts each)
    c.start_all.ensures
