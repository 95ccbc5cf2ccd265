-- One edge more, and all edges.
use Rattle.std.proofs.Common.{◌≡◌, ℕ, ◌<◌, ◌≤◌, List, length, get_or, take, sym, ◌∙◌, ap, arith}
use Rattle.std.proofs.lemmas.Grind.{common_steps}
use Rattle.graph_model.specs.declared.edge.Edge.{Edge}
use Rattle.graph_model.specs.declared.value.Value.{Value}
use Rattle.graph_model.specs.Programs.{Rules}
use Rattle.graph_model.specs.Rounds.{merged, sent_to, of_vertices}
use Rattle.graph_model.proofs.RoundLemmas.{of_vertices_is}
use Rattle.graph_model.proofs.SentLemmas.{gather_some, gather_none}
use Rattle.plain_rounds.proofs.pass.gather.Goals as goal
use Rattle.plain_rounds.proofs.pass.gather.Goals.{in-Some, in_default}

-- after the last edge each vertex has the merge of all that was sent to it
gathered : (p : Rules) (edges : List Edge) (i : ℕ) (values : List Value) (sums : List ℕ) → length edges ≤ i → length sums ≡ length values →
    ((v : ℕ) → v < length sums → get_or sums v 0 ≡ merged p (sent_to p (take i edges) values v)) →
    sums ≡ of_vertices (length values) (λ v. merged p (sent_to p edges values v))
gathered p edges i values sums past long each =
    let all : take i edges ≡ edges = grind (arith, common_steps) in
    of_vertices_is (λ v. merged p (sent_to p edges values v)) sums (length values) 0 long
    (λ v below. let within : v < length sums = omega arith in
    each v within ∙ ap (λ front. merged p (sent_to p front values v)) all)

pub loop-edge-preserved : goal.loop-edge-preserved
loop-edge-preserved g c =
    let p : Rules = g.P.VertexProgram.rules c.args.program.now in
    let edges : List Edge = c.args.edges.now in
    let i : ℕ = c.loop-edge.edge-index in
    let d : Edge = record { src = 0; dst = 0; weight = 0 } in
    let within : i < length edges = omega arith in
    elim c.match-send.branch [
      | in-Some w ↦
          gather_some p edges i d c.args.values.now c.loop-edge.sums c.match-send.sums w.in-Some.update w.merge.result within
          (sym c.send.ensures ∙ w.in-Some.is) w.merge.ensures w.sums-is c.loop-edge.invariant
      | in_default w ↦
          gather_none p edges i d c.args.values.now c.loop-edge.sums c.match-send.sums within
          (sym c.send.ensures ∙ w.in_default.is) w.sums-is c.loop-edge.invariant
    ]

pub returns : goal.returns
returns g c =
    gathered (g.P.VertexProgram.rules c.args.program.now) c.args.edges.now c.loop-edge.edge-index c.args.values.now c.loop-edge.sums
    c.loop-edge-test.false (grind (arith, common_steps)) c.loop-edge.invariant
