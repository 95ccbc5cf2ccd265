use Rattle.std.proofs.Common.{◌≡◌, ◌-◌, ◌+◌, ◌++◌, ℕ, List, take, rules, refl, ◌∙◌, subst, Bool}
use Rattle.std.proofs.lemmas.List.{length-take-le, take_at}
use Rattle.graph_model.specs.declared.value.Value.{Value}
use Rattle.graph_model.specs.Partitions.{first_vertex}
use Rattle.ports.specs.Sink.{AppendsFront}
use Rattle.ports.specs.Told.{AsTold}
use Rattle.store_reader.specs.Reading.{len_in}
use Rattle.value_text.specs.Shown.{shows_side}
use Rattle.answer_lines.specs.Lines.{lines_from, Passes}
use Rattle.answer_lines.proofs.Printed.{partition_printed, partition_front, unprinted}
use Rattle.answer_lines.proofs.print.print_partition.Goals as goal

-- the lines that are put are those of the partition's set
lines_are : (side : Bool) {first end from until : ℕ} {read room : List Value} → first ≡ from → end ≡ until → read ≡ room → lines_from side first (take (end - first) read) ≡ lines_from side from (take (until - from) room)
lines_are side first end read = rw (first, end, read) refl

pub returns-in-Err-clause-front : goal.returns-in-Err-clause-front
returns-in-Err-clause-front g c = λ start so_far.
    unprinted g.D.Disk.state c.args.split.now c.args.values.now c.args.slot (shows_side c.args.shown) c.args.partition c.args.room.now.lines start _ so_far

pub returns-in-Ok-put_lines-clause-first : goal.returns-in-Ok-put_lines-clause-first
returns-in-Ok-put_lines-clause-first g c = λ start so_far.
    let split = c.args.split.now in
    let p = c.args.partition in
    let side = shows_side c.args.shown in
    let set : List Value = take (len_in split p) c.read_values.new.into in
    let room : c.deref.result.now ≡ c.read_values.new.into = c.deref.ensures.value ∙ take_at c.read_values.new.into _ _ (search rules) in
    let lines : lines_from side c.range-first.result.0 (take (c.range-first.result.1 - c.range-first.result.0) c.deref.result.now) ≡ lines_from side (first_vertex split.vertices split.parts p) set =
    lines_are side {from = first_vertex split.vertices split.parts p} {until = first_vertex split.vertices split.parts (p + 1)} c.range-first.ensures.first c.range-first.ensures.end room in
    partition_printed g.D.Disk.state split c.args.values.now c.args.slot side p c.args.room.now.lines start _ so_far set c.put_lines.new.lines _ (length-take-le (len_in split p) c.read_values.new.into (search rules)) c.in-Ok.ensures.values
    (subst (λ (bytes : List ℕ). Passes bytes c.args.room.now.lines c.put_lines.new.lines (g.K.Sink.written c.args.out.now) (g.K.Sink.written c.put_lines.new.out)) lines c.in-Ok-put_lines.ensures.passes)

pub returns-in-Err-put_lines-clause-front : goal.returns-in-Err-put_lines-clause-front
returns-in-Err-put_lines-clause-front g c = λ start so_far.
    let split = c.args.split.now in
    let p = c.args.partition in
    let side = shows_side c.args.shown in
    let set : List Value = take (len_in split p) c.read_values.new.into in
    let room : c.deref.result.now ≡ c.read_values.new.into = c.deref.ensures.value ∙ take_at c.read_values.new.into _ _ (search rules) in
    let lines : lines_from side c.range-first.result.0 (take (c.range-first.result.1 - c.range-first.result.0) c.deref.result.now) ≡ lines_from side (first_vertex split.vertices split.parts p) set =
    lines_are side {from = first_vertex split.vertices split.parts p} {until = first_vertex split.vertices split.parts (p + 1)} c.range-first.ensures.first c.range-first.ensures.end room in
    partition_front g.D.Disk.state split c.args.values.now c.args.slot side p c.args.room.now.lines start _ so_far set _ (length-take-le (len_in split p) c.read_values.new.into (search rules)) c.in-Ok.ensures.values
    (subst (λ (bytes : List ℕ). AsTold (AppendsFront (c.args.room.now.lines ++ bytes)) (g.K.Sink.written c.args.out.now) (g.K.Sink.written c.put_lines.new.out)) lines c.in-Err-put_lines.ensures.front)
