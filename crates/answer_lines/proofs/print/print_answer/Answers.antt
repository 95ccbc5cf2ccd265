use Rattle.std.proofs.Common.{List, ℕ, arith, rules, refl, sym, subst}
use Rattle.graph_model.specs.Partitions.{first_vertex}
use Rattle.value_text.specs.Shown.{shows_side}
use Rattle.partitioner.proofs.Made.{some_part}
use Rattle.answer_lines.specs.Printing.{PrintsFirst}
use Rattle.answer_lines.proofs.Printed.{begun, waits_front, all_printed, all_front}
use Rattle.answer_lines.proofs.print.print_answer.Goals as goal

pub loop-partition-init : goal.loop-partition-init
loop-partition-init g c = record {
  first = subst (λ (waits : List ℕ). PrintsFirst g.D.Disk.state c.args.split.now c.args.values.now c.args.slot (shows_side c.args.shown) (first_vertex c.args.split.now.vertices c.args.split.now.parts 0) waits (g.K.Sink.written c.args.out.now) (g.K.Sink.written c.args.out.now))
      (sym c.clear.ensures) (begun g.D.Disk.state c.args.split.now c.args.values.now c.args.slot (shows_side c.args.shown) (first_vertex c.args.split.now.vertices c.args.split.now.parts 0) (g.K.Sink.written c.args.out.now) (omega arith));
  room = search rules;
  reads_later = omega arith;
  writes_later = omega arith;
  reads_calm = refl;
  writes_calm = refl;
}

pub returns-in-Ok-flush-clause-whole : goal.returns-in-Ok-flush-clause-whole
returns-in-Ok-flush-clause-whole g c =
    all_printed g.D.Disk.state c.args.split.now c.args.values.now c.args.slot (shows_side c.args.shown) c.loop-partition.partition c.loop-partition.room.lines _ _ c.loop-partition.invariant.first _
    (some_part c.args.split.now c.requires.split) (omega arith) c.in-Ok-flush.ensures.whole

pub returns-in-Ok-flush-clause-front : goal.returns-in-Ok-flush-clause-front
returns-in-Ok-flush-clause-front g c =
    all_front g.D.Disk.state c.args.split.now c.args.values.now c.args.slot (shows_side c.args.shown) _ _ (returns-in-Ok-flush-clause-whole g c)

pub returns-in-Err-flush-clause-front : goal.returns-in-Err-flush-clause-front
returns-in-Err-flush-clause-front g c =
    waits_front g.D.Disk.state c.args.split.now c.args.values.now c.args.slot (shows_side c.args.shown) c.loop-partition.partition c.loop-partition.room.lines _ _ c.loop-partition.invariant.first _ c.in-Err-flush.ensures.front
