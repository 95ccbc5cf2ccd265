-- One event more.
use Rattle.std.proofs.Common.{◌<◌, length, ◌∙◌, arith}
use Rattle.std.proofs.lemmas.List.{length-set}
use Rattle.graph_model.specs.Programs.{Rules}
use Rattle.phase_core.specs.declared.event.Event.TheVariants.{Claim}
use Rattle.phase_core.specs.Machine.{Machine}
use Rattle.phase_core.specs.View.{machine_of}
use Rattle.phase_core.proofs.Running.{ran_more, replied_more}
use Rattle.phase_core.proofs.run.run_events.Goals as goal

pub loop-index-preserved : goal.loop-index-preserved
loop-index-preserved g c =
    let rules : Rules = g.P.VertexProgram.rules c.args.program.now in
    let m : Machine = machine_of c.args.core.now in
    let before : Machine = machine_of c.loop-index.core in
    let room : c.loop-index.index < length c.loop-index.replies.items = omega (arith, c.loop-index.invariant.long, c.loop-index-test.true) in
    record {
      after = ran_more rules m c.args.events.now c.loop-index.index (Claim 0 0 0) c.loop-index-test.true before (machine_of c.step.new.core) c.loop-index.invariant.after c.step.ensures.after;
      answered = replied_more rules m c.args.events.now c.loop-index.index (Claim 0 0 0) c.loop-index-test.true before c.loop-index.replies.items c.step.result c.loop-index.invariant.after room
          c.loop-index.invariant.answered c.step.ensures.reply;
      long = length-set c.loop-index.replies.items c.loop-index.index c.step.result ∙ c.loop-index.invariant.long;
    }
