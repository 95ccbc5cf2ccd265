-- The history's calls come in their turn, and the machine shows the same object.
use Rattle.epoch_laws.proofs.Machines.{history_replies, history_sums}
use Rattle.epoch_laws.proofs.laws.calls_are_events.Goals as goal

pub returns-clause-replies : goal.returns-clause-replies
returns-clause-replies g c terms epoch few duty split engines parts chunks opens o history are =
    history_replies (g.P.VertexProgram.rules c.args.program.now) terms epoch few duty split engines parts chunks opens o history are

pub returns-clause-sums : goal.returns-clause-sums
returns-clause-sums g c terms epoch few duty split engines parts chunks opens o history are worker vertex inside =
    history_sums (g.P.VertexProgram.rules c.args.program.now) terms epoch few duty split engines parts chunks opens o history are worker vertex inside
