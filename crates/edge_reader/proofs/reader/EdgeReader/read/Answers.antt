use Rattle.std.proofs.lemmas.Result.{err_from_is_err_and}
use Rattle.edge_reader.proofs.Pieces.{loop_byte, loop_feed, loop_stop}
use Rattle.edge_reader.proofs.reader.EdgeReader.read.Goals as goal
use Rattle.edge_reader.proofs.reader.EdgeReader.read.Goals.{then-byte-eq10+in_ok-end_line, else-byte-eq10}

pub returns-in_err-end_line-clause-err : goal.returns-in_err-end_line-clause-err
returns-in_err-end_line-clause-err c =
    let p = err_from_is_err_and c.from_residual.result c.from_residual.ensures.1 in
    rw (p.1, p.2)
    (loop_stop c.args.self.now c.loop-byte.self c.loop-byte.line c.args.bytes.now c.loop-byte.byte-index _ _ _ _
    c.loop-byte-test.true c.if-byte-eq10.true c.loop-byte.invariant c.in_err-end_line.ensures.err)

pub loop-byte-preserved : goal.loop-byte-preserved
loop-byte-preserved c =
    elim c.if-byte-eq10.branch [
      | then-byte-eq10+in_ok-end_line w ↦ rw (w.self-is, w.into-is, w.line-is)
          (loop_feed c.args.self.now c.loop-byte.self w.end_line.new.self c.loop-byte.line w.new-line.result c.args.bytes.now c.loop-byte.byte-index _ _ _
          c.loop-byte-test.true w.if-byte-eq10.true c.loop-byte.invariant w.end_line.ensures.counts w.new-line.ensures w.in_ok-end_line.ensures.ok)
      | else-byte-eq10 w ↦ rw (w.self-is, w.into-is, w.line-is)
          (loop_byte c.args.self.now c.loop-byte.self c.loop-byte.line w.push.new.self c.args.bytes.now c.loop-byte.byte-index _ _
          c.loop-byte-test.true w.if-byte-eq10.false c.loop-byte.invariant w.push.ensures)
    ]
