use Rattle.std.proofs.Common.{take}
use Rattle.edge_reader.specs.Reading.{ReadsOn}
use Rattle.edge_reader.proofs.reader.EdgeReader.read.Given as goal

abbrev pub invariant-loop-byte : goal.invariant-loop-byte
invariant-loop-byte l =
    ReadsOn l.initial.self (record l.self { line = l.line }) (take l.byte-index l.bytes) l.initial.into.items l.into.items
