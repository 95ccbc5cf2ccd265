-- The events so far are done and answered.
use Rattle.std.proofs.Common.{◌≡◌, length, take}
use Rattle.phase_core.specs.Runs.{ran, replies}
use Rattle.phase_core.specs.View.{machine_of}
use Rattle.phase_core.proofs.run.run_events.Given as goal

abbrev pub invariant-loop-index : goal.invariant-loop-index
invariant-loop-index g l = record {
  after : machine_of l.core ≡ ran (g.P.VertexProgram.rules l.fn.program) (machine_of l.fn.core) (take l.index l.events);
  answered : take l.index l.replies.items ≡ replies (g.P.VertexProgram.rules l.fn.program) (machine_of l.fn.core) (take l.index l.events);
  long : length l.replies.items ≡ length l.events;
}
