use Rattle.std.proofs.Common.{refl}
use Rattle.std.proofs.lemmas.Result.{err_from_is_err_and}
use Rattle.edge_reader.proofs.Pieces.{Feeds-ok, Feeds-long, Feeds-err}
use Rattle.edge_reader.proofs.reader.EdgeReader.take.Goals as goal

pub returns-in_err-read : goal.returns-in_err-read
returns-in_err-read c = λ vertices both limit text has.
    let p = err_from_is_err_and c.from_residual.result c.from_residual.ensures.1 in
    rw (p.1, p.2)
    (Feeds-err vertices both limit text c.args.piece.now _ c.min-room.result c.args.self.now c.read.new.self _ _ _
    has c.min-room.ensures refl c.in_err-read.ensures.err)

pub returns-then-room-piece : goal.returns-then-room-piece
returns-then-room-piece c = λ vertices both limit text has.
    Feeds-long vertices both limit text c.args.piece.now _ c.min-room.result c.args.self.now c.read.new.self _ _
    has c.min-room.ensures refl c.if-room-piece.true c.in_ok-read.ensures.ok

pub returns : goal.returns
returns c = λ vertices both limit text has.
    Feeds-ok vertices both limit text c.args.piece.now _ c.min-room.result c.args.self.now c.read.new.self _ _
    has c.min-room.ensures refl c.if-room-piece.false c.in_ok-read.ensures.ok
