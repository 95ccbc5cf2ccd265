use Rattle.std.proofs.Common.{◌∙◌, ◌<◌, length, length-set, rules, arith}
use Rattle.std.proofs.lemmas.Grind.{common_steps}
use Rattle.ports.proofs.Rising.{same_here}
use Rattle.graph_model.proofs.OneByOne.{next_steps, one_done}
use Rattle.restart.proofs.dropping.close_all.Goals as goal

pub loop-disk-preserved : goal.loop-disk-preserved
loop-disk-preserved g c =
    let within : c.loop-disk.disk-index < length c.loop-disk.graphs = first_of (omega arith, search rules, grind (arith, common_steps)) in
    let before = c.loop-disk.invariant.later in
    let closed = c.close_gate.ensures.cause.later in
    record {
      done = one_done _ _ c.loop-disk.disk-index c.args.graphs.now c.loop-disk.graphs c.disk-item.result c.close_gate.new.disk within c.loop-disk.invariant.done c.close_gate.ensures.closes c.in_ok-close_gate.ensures.shut;
      later = omega (arith, before, closed);
      calm = c.in_ok-close_gate.ensures.cause.calm.0 ∙ c.loop-disk.invariant.calm;
      calm_graphs =
          same_here (λ x. (g.D.Disk.state x).faults) c.args.graphs.now c.loop-disk.graphs c.loop-disk.disk-index c.disk-item.result c.close_gate.new.disk
          c.loop-disk.invariant.calm_graphs c.in_ok-close_gate.ensures.cause.calm.1;
    }

pub returns-in_err-close_gate-clause-closes : goal.returns-in_err-close_gate-clause-closes
returns-in_err-close_gate-clause-closes g c =
    let within : c.loop-disk.disk-index < length c.loop-disk.graphs = first_of (omega arith, search rules, grind (arith, common_steps)) in
    record {
      many = length-set c.loop-disk.graphs c.loop-disk.disk-index c.close_gate.new.disk ∙ c.loop-disk.invariant.done.many;
      each = next_steps _ _ c.loop-disk.disk-index c.args.graphs.now c.loop-disk.graphs c.disk-item.result c.close_gate.new.disk within c.loop-disk.invariant.done c.close_gate.ensures.closes;
    }
