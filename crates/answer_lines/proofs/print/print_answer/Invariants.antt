use Rattle.std.proofs.Common.{◌≡◌, ◌≤◌}
use Rattle.graph_model.specs.Partitions.{first_vertex}
use Rattle.value_text.specs.Shown.{shows_side}
use Rattle.answer_lines.specs.Room.{IsRoom}
use Rattle.answer_lines.specs.Printing.{PrintsFirst}
use Rattle.answer_lines.proofs.print.print_answer.Given as goal

abbrev pub invariant-loop-partition : goal.invariant-loop-partition
invariant-loop-partition g l = record {
  first : PrintsFirst g.D.Disk.state l.split l.values l.slot (shows_side l.shown) (first_vertex l.split.vertices l.split.parts l.partition) l.room.lines (g.K.Sink.written l.fn.out) (g.K.Sink.written l.out);
  room : IsRoom l.split l.room;
  reads_later : g.D.M.Meter.faults l.fn.meter ≤ g.D.M.Meter.faults l.meter;
  writes_later : g.K.Sink.faults l.fn.out ≤ g.K.Sink.faults l.out;
  reads_calm : g.D.M.Meter.faults l.meter ≡ g.D.M.Meter.faults l.fn.meter;
  writes_calm : g.K.Sink.faults l.out ≡ g.K.Sink.faults l.fn.out;
}
