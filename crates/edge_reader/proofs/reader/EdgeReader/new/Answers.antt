use Rattle.std.proofs.Common.{refl, arith}
use Rattle.edge_reader.proofs.ReadLines.{Reads-nil}
use Rattle.edge_reader.proofs.reader.EdgeReader.new.Goals as goal

pub returns : goal.returns
returns c = record {
  reads = Reads-nil c.args.vertices c.args.both _ (omega arith) refl refl refl c.new.ensures;
  room = omega arith;
  bound = omega arith;
  stands = refl;
}
