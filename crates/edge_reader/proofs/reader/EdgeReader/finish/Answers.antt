use Rattle.edge_reader.proofs.Pieces.{Finishes-end}
use Rattle.edge_reader.proofs.reader.EdgeReader.finish.Goals as goal

pub returns-clause-read : goal.returns-clause-read
returns-clause-read c = λ vertices both limit text has.
    Finishes-end vertices both limit c.args.self text _ _ c.end_line.result has c.end_line.ensures.ok c.end_line.ensures.err
