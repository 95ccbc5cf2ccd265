use Rattle.std.proofs.Common.{◌≡◌, ◌≤◌, take}
use Rattle.value_text.specs.Shown.{shows_side}
use Rattle.answer_lines.specs.Lines.{lines_from, Passes}
use Rattle.answer_lines.proofs.print.put_lines.Given as goal

abbrev pub invariant-loop-k : goal.invariant-loop-k
invariant-loop-k g l = record {
  passes : Passes (lines_from (shows_side l.shown) l.first (take l.k l.values)) l.fn.lines l.lines (g.K.Sink.written l.fn.out) (g.K.Sink.written l.out);
  later : g.K.Sink.faults l.fn.out ≤ g.K.Sink.faults l.out;
  calm : g.K.Sink.faults l.out ≡ g.K.Sink.faults l.fn.out;
}
