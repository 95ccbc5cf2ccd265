use Rattle.std.proofs.Common.{◌≡◌, ◌<◌, length, get_or, map, rules, arith}
use Rattle.std.proofs.lemmas.Grind.{common_steps}
use Rattle.std.specs.List.{All}
use Rattle.std.specs.Vec.{with_items}
use Rattle.ports.proofs.Rising.{on_err, same_here}
use Rattle.ports.specs.Devices.{Each, OneRose, NoneRose}
use Rattle.ports.specs.Stops.{Empties}
use Rattle.restart.specs.Dropping.{IsEmpty}
use Rattle.graph_model.proofs.OneByOne.{next_steps, one_done}
use Rattle.restart.proofs.Devices.{holds_given_back, row_rose_here}
use Rattle.restart.proofs.dropping.empty_rows.Goals as goal

pub loop-row-preserved : goal.loop-row-preserved
loop-row-preserved g c =
    let row = get_or c.loop-row.rows c.loop-row.row-index c.row-item.result in
    let lent : c.deref_mut.result.now ≡ row.items = c.deref_mut.ensures.value in
    let within : c.loop-row.row-index < length c.loop-row.rows = first_of (omega arith, search rules, grind (arith, common_steps)) in
    let many = c.empty_all.ensures.empties.many in
    record {
      done = one_done _ _ c.loop-row.row-index c.args.rows.now c.loop-row.rows c.row-item.result _ within c.loop-row.invariant.done
          (holds_given_back (Each g.D.Disk.state (Empties c.args.beat.now)) row c.deref_mut.result.now c.empty_all.new.disks lent many c.empty_all.ensures.empties)
          (holds_given_back (λ olds news. All (λ disk. IsEmpty (g.D.Disk.state disk)) news) row c.deref_mut.result.now c.empty_all.new.disks lent many c.in_ok-empty_all.ensures.empty);
      calm =
          same_here (λ r. map (λ x. (g.D.Disk.state x).faults) r.items) c.args.rows.now c.loop-row.rows c.loop-row.row-index c.row-item.result (with_items row c.empty_all.new.disks)
          c.loop-row.invariant.calm
          (holds_given_back (NoneRose g.D.Disk.state) row c.deref_mut.result.now c.empty_all.new.disks lent many c.in_ok-empty_all.ensures.calm);
    }

pub returns-in_err-empty_all-clause-empties : goal.returns-in_err-empty_all-clause-empties
returns-in_err-empty_all-clause-empties g c =
    let row = get_or c.loop-row.rows c.loop-row.row-index c.row-item.result in
    let lent : c.deref_mut.result.now ≡ row.items = c.deref_mut.ensures.value in
    let within : c.loop-row.row-index < length c.loop-row.rows = first_of (omega arith, search rules, grind (arith, common_steps)) in
    record {
      many = first_of (search rules, grind (arith, common_steps, c.loop-row.invariant.done.many));
      each = next_steps _ _ c.loop-row.row-index c.args.rows.now c.loop-row.rows c.row-item.result _ within c.loop-row.invariant.done
          (holds_given_back (Each g.D.Disk.state (Empties c.args.beat.now)) row c.deref_mut.result.now c.empty_all.new.disks lent c.empty_all.ensures.empties.many c.empty_all.ensures.empties);
    }

pub returns-in_err-empty_all-clause-cause : goal.returns-in_err-empty_all-clause-cause
returns-in_err-empty_all-clause-cause g c =
    let row = get_or c.loop-row.rows c.loop-row.row-index c.row-item.result in
    let lent : c.deref_mut.result.now ≡ row.items = c.deref_mut.ensures.value in
    let within : c.loop-row.row-index < length c.loop-row.rows = first_of (omega arith, search rules, grind (arith, common_steps)) in
    on_err c.from_residual.result (row_rose_here g.D.Disk.state _ _ c.loop-row.row-index c.args.rows.now c.loop-row.rows c.row-item.result _ within c.loop-row.invariant.done
    (holds_given_back (OneRose g.D.Disk.state) row c.deref_mut.result.now c.empty_all.new.disks lent c.empty_all.ensures.empties.many c.in_err-empty_all.ensures.cause))
