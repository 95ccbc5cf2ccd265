-- Each event is done by the function of its name.
use Rattle.std.proofs.Common.{sym, ◌∙◌, ap}
use Rattle.phase_core.specs.Machine.{stepped}
use Rattle.phase_core.specs.View.{machine_of}
use Rattle.phase_core.proofs.run.step.Goals as goal

pub returns-in-Admit-clause-after : goal.returns-in-Admit-clause-after
returns-in-Admit-clause-after g c =
    let rules = g.P.VertexProgram.rules c.args.program.now in
    c.admit.ensures.after rules ∙ ap (stepped rules (machine_of c.args.core.now)) (sym c.in-Admit.is)

pub returns-in-Finish-clause-after : goal.returns-in-Finish-clause-after
returns-in-Finish-clause-after g c =
    let rules = g.P.VertexProgram.rules c.args.program.now in
    c.finish.ensures.after rules ∙ ap (stepped rules (machine_of c.args.core.now)) (sym c.in-Finish.is)
