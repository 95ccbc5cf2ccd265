-- The sums that were gathered are those of the vertices.
use Rattle.std.proofs.Common.{◌≡◌, ℕ, ◌<◌, List, length, get_or, ◌∙◌, ap}
use Rattle.graph_model.specs.declared.value.Value.{Value}
use Rattle.graph_model.specs.Programs.{Rules}
use Rattle.graph_model.specs.Rounds.{merged, sent_to, value_at}
use Rattle.graph_model.proofs.RoundLemmas.{get_or-of_vertices, of_vertices_same}
use Rattle.plain_rounds.proofs.pass.next_round.Goals as goal

pub returns-clause-after : goal.returns-clause-after
returns-clause-after g c =
    let p : Rules = g.P.VertexProgram.rules c.args.program.now in
    let old : List Value = c.args.values.now in
    let sum : ℕ → ℕ = λ v. merged p (sent_to p c.args.edges.now old v) in
    let gathered : (v : ℕ) → v < length old → get_or c.gather.new.sums v 0 ≡ sum v
    = λ v below. ap (λ sums. get_or sums v 0) c.gather.ensures ∙ get_or-of_vertices (length old) sum v 0 below in
    c.apply.ensures.after
    ∙ of_vertices_same (length old) (λ v. p.next (value_at old v) (get_or c.gather.new.sums v 0)) (λ v. p.next (value_at old v) (sum v))
    (λ v below. ap (p.next (value_at old v)) (gathered v below))
