use Rattle.std.proofs.Common.{◌<◌, length, rules, arith}
use Rattle.std.proofs.lemmas.Grind.{common_steps}
use Rattle.ports.proofs.Rising.{same_here}
use Rattle.graph_model.proofs.OneByOne.{one_done}
use Rattle.restart.proofs.dropping.empty_all.Goals as goal

pub loop-disk-preserved : goal.loop-disk-preserved
loop-disk-preserved g c =
    let within : c.loop-disk.disk-index < length c.loop-disk.disks = first_of (omega arith, search rules, grind (arith, common_steps)) in
    record {
      done = one_done _ _ c.loop-disk.disk-index c.args.disks.now c.loop-disk.disks c.disk-item.result c.empty.new.disk within c.loop-disk.invariant.done c.empty.ensures.empties c.in_ok-empty.ensures.empty;
      calm =
          same_here (λ x. (g.D.Disk.state x).faults) c.args.disks.now c.loop-disk.disks c.loop-disk.disk-index c.disk-item.result c.empty.new.disk
          c.loop-disk.invariant.calm c.in_ok-empty.ensures.cause.calm;
    }
