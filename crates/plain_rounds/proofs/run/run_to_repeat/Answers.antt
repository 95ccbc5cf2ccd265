-- One round more, and what it tells.
use Rattle.std.proofs.Common.{◌≡◌, ℕ, ◌+◌, List, length, replicate, sym, ◌∙◌, ap}
use Rattle.graph_model.specs.declared.edge.Edge.{Edge}
use Rattle.graph_model.specs.Programs.{Rules}
use Rattle.graph_model.specs.Rounds.{values}
use Rattle.graph_model.proofs.RoundLemmas.{values-zero, none_at_first, none_more, repeats_next, repeats_same}
use Rattle.plain_rounds.proofs.RunLemmas.{round_more, first_repeat}
use Rattle.plain_rounds.proofs.run.run_to_repeat.Goals as goal

pub loop-round-init : goal.loop-round-init
loop-round-init g c =
    let p : Rules = g.P.VertexProgram.rules c.args.program.now in
    let n : ℕ = length c.args.values.now in
    record {
      so_far = c.requires.first ∙ sym (values-zero p n c.args.edges.now);
      units = c.requires.units;
      none = none_at_first p n c.args.edges.now;
    }

pub returns-then-not-next_round : goal.returns-then-not-next_round
returns-then-not-next_round g c =
    let p : Rules = g.P.VertexProgram.rules c.args.program.now in
    let n : ℕ = length c.args.values.now in
    let edges : List Edge = c.args.edges.now in
    let round : ℕ = c.loop-round._round in
    let is_next : c.next_round.new.values ≡ values p n edges (round + 1)
    = round_more p n edges round c.loop-round.values c.next_round.new.values
    c.loop-round.auto.values c.loop-round.invariant.so_far c.next_round.ensures.after in
    first_repeat p n edges c.args.limit round c.next_round.new.values c.requires.open_ended c.loop-round.invariant.none
    (repeats_next p n edges round c.loop-round.values c.next_round.new.values c.loop-round.invariant.so_far is_next
    c.if-not-next_round.ensures.changed)
    c.loop-round-test.true is_next

pub loop-round-preserved : goal.loop-round-preserved
loop-round-preserved g c =
    let p : Rules = g.P.VertexProgram.rules c.args.program.now in
    let n : ℕ = length c.args.values.now in
    let edges : List Edge = c.args.edges.now in
    let round : ℕ = c.loop-round._round in
    let is_next : c.next_round.new.values ≡ values p n edges (round + 1)
    = round_more p n edges round c.loop-round.values c.next_round.new.values
    c.loop-round.auto.values c.loop-round.invariant.so_far c.next_round.ensures.after in
    record {
      so_far = is_next;
      units = c.next_round.ensures.units ∙ ap (λ k. replicate k p.unit) c.loop-round.auto.values;
      none = none_more p n edges round c.loop-round.invariant.none
          (λ repeats. c.if-not-next_round.ensures.changed
          (repeats_same p n edges round c.loop-round.values c.next_round.new.values c.loop-round.invariant.so_far is_next repeats));
    }
