-- The values of round 0 stand, with the unit as each sum, and the rounds tell what there is to answer.
use Rattle.std.proofs.Common.{◌≡◌, ℕ, ◌++◌, List, length, take, drop, replicate, refl, sym, ◌∙◌, ap, subst, arith}
use Rattle.std.proofs.lemmas.Grind.{common_steps}
use Rattle.graph_model.specs.declared.edge.Edge.{Edge}
use Rattle.graph_model.specs.declared.value.Value.{Value}
use Rattle.graph_model.specs.Programs.{Rules}
use Rattle.graph_model.specs.Rounds.{IsWithinGraph, IsFinalValues, IsUnsettled, first_values}
use Rattle.graph_model.proofs.RoundLemmas.{length-of_vertices}
use Rattle.plain_rounds.proofs.RunLemmas.{settled}
use Rattle.plain_rounds.proofs.run.plain_run.Goals as goal

-- values of round 0 are as many as the vertices
first_long : (p : Rules) (n k : ℕ) (edges : List Edge) (found values : List Value) → found ≡ values → values ≡ first_values p k edges →
    k ≡ n → length found ≡ n
first_long p n k edges found values same first is_n = ap length (same ∙ first) ∙ length-of_vertices k _ ∙ is_n

first_again : (p : Rules) (k : ℕ) (edges : List Edge) (found values : List Value) → found ≡ values → values ≡ first_values p k edges →
    found ≡ first_values p (length found) edges
first_again p k edges found values same first =
    same ∙ first ∙ ap (λ n. first_values p n edges) (sym (first_long p k k edges found values same first refl))

units_again : (found sums : List ℕ) (n k x unit : ℕ) → found ≡ sums → sums ≡ replicate n x → x ≡ unit → n ≡ k → found ≡ replicate k unit
units_again found sums n k x unit same filled is_unit is_k = same ∙ filled ∙ ap (replicate n) is_unit ∙ ap (λ m. replicate m unit) is_k

-- final values that were written over all of a list
final_whole : (p : Rules) (n k long : ℕ) (edges : List Edge) (limit : ℕ) (before after : List Value) → k ≡ n →
    length before ≡ long → length after ≡ long →
    IsFinalValues p k edges limit after → IsFinalValues p n edges limit (take long (after ++ drop (length after) before))
final_whole p n k long edges limit before after is_n long_before long_after final =
    let all : take long (after ++ drop (length after) before) ≡ after = grind (arith, common_steps) in
    subst (IsFinalValues p n edges limit) (sym all) (subst (λ m. IsFinalValues p m edges limit after) is_n final)

pub run_rounds-requires-clause-within : goal.run_rounds-requires-clause-within
run_rounds-requires-clause-within g c κs within =
    let long : length c.deref_mut-2.result.now ≡ c.args.vertices
    = first_long (g.P.VertexProgram.rules c.args.program.now) c.args.vertices (length c.deref_mut.result.now) c.args.edges.now
    c.deref_mut-2.result.now c.in_ok-values.values.items c.deref_mut-2.ensures.value c.in_ok-values.ensures
    (c.deref_mut.ensures.len ∙ c.in_ok-sums.ensures.len) in
    subst (λ n. IsWithinGraph n c.args.edges.now) (sym long) c.requires

pub run_rounds-requires-clause-first : goal.run_rounds-requires-clause-first
run_rounds-requires-clause-first g c κs within =
    first_again (g.P.VertexProgram.rules c.args.program.now) (length c.deref_mut.result.now) c.args.edges.now
    c.deref_mut-2.result.now c.in_ok-values.values.items c.deref_mut-2.ensures.value c.in_ok-values.ensures

pub run_rounds-requires-clause-units : goal.run_rounds-requires-clause-units
run_rounds-requires-clause-units g c κs within =
    let p : Rules = g.P.VertexProgram.rules c.args.program.now in
    let long : length c.deref_mut-2.result.now ≡ c.args.vertices
    = first_long p c.args.vertices (length c.deref_mut.result.now) c.args.edges.now
    c.deref_mut-2.result.now c.in_ok-values.values.items c.deref_mut-2.ensures.value c.in_ok-values.ensures
    (c.deref_mut.ensures.len ∙ c.in_ok-sums.ensures.len) in
    units_again c.deref_mut-3.result.now c.fill.new.self.items c.in_ok-sums.sums.len (length c.deref_mut-2.result.now) c.unit.result p.unit
    c.deref_mut-3.ensures.value (c.fill.ensures.items (λ y same. same)) c.unit.ensures (c.in_ok-sums.ensures.len ∙ sym long)

pub returns-then-run_rounds-clause-last : goal.returns-then-run_rounds-clause-last
returns-then-run_rounds-clause-last g c =
    let p : Rules = g.P.VertexProgram.rules c.args.program.now in
    let long : length c.deref_mut-2.result.now ≡ c.args.vertices
    = first_long p c.args.vertices (length c.deref_mut.result.now) c.args.edges.now
    c.deref_mut-2.result.now c.in_ok-values.values.items c.deref_mut-2.ensures.value c.in_ok-values.ensures
    (c.deref_mut.ensures.len ∙ c.in_ok-sums.ensures.len) in
    final_whole p c.args.vertices (length c.deref_mut-2.result.now) c.in_ok-values.values.len c.args.edges.now c.args.limit
    c.in_ok-values.values.items c.run_rounds.new.values long
    (sym (ap length c.deref_mut-2.ensures.value) ∙ c.deref_mut-2.ensures.len)
    (c.run_rounds.auto.values ∙ c.deref_mut-2.ensures.len) c.if-run_rounds.ensures

pub returns-then-run_rounds-clause-settled : goal.returns-then-run_rounds-clause-settled
returns-then-run_rounds-clause-settled g c unsettled =
    let p : Rules = g.P.VertexProgram.rules c.args.program.now in
    let long : length c.deref_mut-2.result.now ≡ c.args.vertices
    = first_long p c.args.vertices (length c.deref_mut.result.now) c.args.edges.now
    c.deref_mut-2.result.now c.in_ok-values.values.items c.deref_mut-2.ensures.value c.in_ok-values.ensures
    (c.deref_mut.ensures.len ∙ c.in_ok-sums.ensures.len) in
    absurd (settled p (length c.deref_mut-2.result.now) c.args.edges.now c.args.limit c.run_rounds.new.values c.if-run_rounds.ensures
    (subst (λ n. IsUnsettled p n c.args.edges.now c.args.limit) (sym long) unsettled))

pub returns-clause-unsettled : goal.returns-clause-unsettled
returns-clause-unsettled g c _ =
    let p : Rules = g.P.VertexProgram.rules c.args.program.now in
    let long : length c.deref_mut-2.result.now ≡ c.args.vertices
    = first_long p c.args.vertices (length c.deref_mut.result.now) c.args.edges.now
    c.deref_mut-2.result.now c.in_ok-values.values.items c.deref_mut-2.ensures.value c.in_ok-values.ensures
    (c.deref_mut.ensures.len ∙ c.in_ok-sums.ensures.len) in
    subst (λ n. IsUnsettled p n c.args.edges.now c.args.limit) long c.if-run_rounds.ensures
