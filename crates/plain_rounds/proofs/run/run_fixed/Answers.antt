-- One round more.
use Rattle.std.proofs.Common.{length, replicate, sym, ◌∙◌, ap}
use Rattle.graph_model.specs.Programs.{Rules}
use Rattle.graph_model.proofs.RoundLemmas.{values-zero}
use Rattle.plain_rounds.proofs.RunLemmas.{round_more}
use Rattle.plain_rounds.proofs.run.run_fixed.Goals as goal

pub loop-round-init : goal.loop-round-init
loop-round-init g c = record {
  so_far = c.requires.first ∙ sym (values-zero (g.P.VertexProgram.rules c.args.program.now) (length c.args.values.now) c.args.edges.now);
  units = c.requires.units;
}

pub loop-round-preserved : goal.loop-round-preserved
loop-round-preserved g c =
    let p : Rules = g.P.VertexProgram.rules c.args.program.now in
    record {
      so_far = round_more p (length c.args.values.now) c.args.edges.now c.loop-round._round c.loop-round.values c.next_round.new.values
          c.loop-round.auto.values c.loop-round.invariant.so_far c.next_round.ensures.after;
      units = c.next_round.ensures.units ∙ ap (λ k. replicate k p.unit) c.loop-round.auto.values;
    }
