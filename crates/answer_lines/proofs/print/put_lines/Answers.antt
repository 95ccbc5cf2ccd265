use Rattle.std.proofs.Common.{◌∙◌, rules}
use Rattle.value_text.specs.Shown.{shows_side}
use Rattle.ports.proofs.Rising.{on_err}
use Rattle.answer_lines.proofs.Printed.{line_passes, lines_front}
use Rattle.answer_lines.proofs.print.put_lines.Goals as goal

pub returns-in_err-put-clause-front : goal.returns-in_err-put-clause-front
returns-in_err-put-clause-front g c =
    on_err c.from_residual.result
    (lines_front (shows_side c.args.shown) c.args.first c.args.values.now c.loop-k.k c.args.lines.now c.loop-k.lines _ _ _ c.loop-k.invariant.passes c.in_err-put.ensures.front)

pub loop-k-preserved : goal.loop-k-preserved
loop-k-preserved g c = record {
  passes = line_passes (shows_side c.args.shown) c.args.first c.args.values.now c.loop-k.k c.deref.result.now c.args.lines.now c.loop-k.lines c.put.new.self _ _ _ c.loop-k-test.true (c.deref.ensures.0 ∙ c.put_line.ensures)
      c.loop-k.invariant.passes c.in_ok-put.ensures.passes;
  later = search rules;
  calm = c.in_ok-put.ensures.cause.calm ∙ c.loop-k.invariant.calm;
}
