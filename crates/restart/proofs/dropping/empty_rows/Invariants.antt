use Rattle.std.specs.List.{All}
use Rattle.ports.specs.Devices.{Each, NoRowRose}
use Rattle.ports.specs.Stops.{Empties}
use Rattle.restart.specs.Dropping.{IsEmpty}
use Rattle.graph_model.proofs.OneByOne.{DoneBelow}
use Rattle.restart.proofs.dropping.empty_rows.Given as goal

abbrev pub invariant-loop-row : goal.invariant-loop-row
invariant-loop-row g l = record {
  done : DoneBelow (λ old new. Each g.D.Disk.state (Empties l.beat) old.items new.items) (λ w before row. All (λ disk. IsEmpty (g.D.Disk.state disk)) row.items) l.row-index l.fn.rows l.rows;
  calm : NoRowRose g.D.Disk.state l.fn.rows l.rows;
}
