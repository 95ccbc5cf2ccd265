use Rattle.std.proofs.Common.{◌≡◌, length, take, ◌-◌, ◌≤◌}
use Rattle.ports.specs.Told.{AsTold}
use Rattle.ports.specs.Sink.{Appends}
use Rattle.ports.proofs.sink.write_all.Given as goal

abbrev pub invariant-loop-done : goal.invariant-loop-done
invariant-loop-done g l = record {
  within : l.done ≤ length l.piece;
  appended : AsTold (Appends (take l.done l.piece)) (g.K.Sink.written l.fn.out) (g.K.Sink.written l.out);
  calm : g.K.Sink.faults l.out ≡ g.K.Sink.faults l.fn.out;
}

abbrev pub decreases-loop-done : goal.decreases-loop-done
decreases-loop-done g l = length l.piece - l.done
