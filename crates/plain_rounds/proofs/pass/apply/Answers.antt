-- One vertex more, and all vertices.
use Rattle.std.proofs.Common.{◌≡◌, ℕ, ◌<◌, List, length, get_or, ◌∙◌, ap, arith}
use Rattle.graph_model.specs.declared.value.Value.{Value}
use Rattle.graph_model.specs.Programs.{Rules}
use Rattle.graph_model.specs.Rounds.{value_at}
use Rattle.graph_model.proofs.RoundLemmas.{of_vertices_is}
use Rattle.plain_rounds.proofs.PassLemmas.{below_more_set, above_set, changed_more, one_number}
use Rattle.plain_rounds.proofs.pass.apply.Goals as goal

pub loop-vertex-preserved : goal.loop-vertex-preserved
loop-vertex-preserved g c =
    let p : Rules = g.P.VertexProgram.rules c.args.program.now in
    let none : Value = record { main = 0; side = 0 } in
    let now : List Value = c.loop-vertex.values in
    let old : List Value = c.args.values.now in
    let i : ℕ = c.loop-vertex.vertex in
    let within : i < length now = omega arith in
    let within_sums : i < length c.loop-vertex.sums = omega arith in
    let here : value_at now i ≡ value_at old i = c.loop-vertex.invariant.old_values i (omega arith) in
    let sum_here : get_or c.loop-vertex.sums i 0 ≡ get_or c.args.sums.now i 0 = c.loop-vertex.invariant.old_sums i (omega arith) in
    let next_here : c.next-next.result ≡ p.next (value_at old i) (get_or c.args.sums.now i 0)
    = c.next-next.ensures ∙ ap (λ value. p.next value (get_or c.loop-vertex.sums i 0)) here ∙ ap (p.next (value_at old i)) sum_here in
    record {
      next_values = below_more_set now i c.next-next.result none (λ v value. value ≡ p.next (value_at old v) (get_or c.args.sums.now v 0))
          within c.loop-vertex.invariant.next_values next_here;
      units = below_more_set c.loop-vertex.sums i c.unit.result 0 (λ v sum. sum ≡ p.unit)
          within_sums c.loop-vertex.invariant.units c.unit.ensures;
      old_values = λ v above. above_set now i c.next-next.result none v above ∙ c.loop-vertex.invariant.old_values v (omega arith);
      old_sums = λ v above. above_set c.loop-vertex.sums i c.unit.result 0 v above ∙ c.loop-vertex.invariant.old_sums v (omega arith);
      changed = changed_more old now i c.next-next.result c.loop-vertex.changed c.ne-changed.result within here
          c.ne-changed.ensures c.loop-vertex.invariant.changed;
    }

pub returns-clause-after : goal.returns-clause-after
returns-clause-after g c =
    let p : Rules = g.P.VertexProgram.rules c.args.program.now in
    of_vertices_is (λ v. p.next (value_at c.args.values.now v) (get_or c.args.sums.now v 0)) c.loop-vertex.values
    (length c.args.values.now) (record { main = 0; side = 0 }) (omega arith)
    (λ v below. c.loop-vertex.invariant.next_values v (omega arith))

pub returns-clause-units : goal.returns-clause-units
returns-clause-units g c =
    one_number c.loop-vertex.sums (length c.args.values.now) (g.P.VertexProgram.rules c.args.program.now).unit (omega arith)
    (λ v below. c.loop-vertex.invariant.units v (omega arith))
