use Rattle.std.proofs.Common.{sym, subst}
use Rattle.ports.specs.Disk.{ContinuesUnder}
use Rattle.ports.specs.Stops.{Empties}
use Rattle.ports.proofs.Going.{each_means}
use Rattle.update_lanes.specs.Lanes.{GoOn}
use Rattle.list_moves.proofs.Moving.{given_back}
use Rattle.scatter_phase.proofs.empty.empty_lanes.Goals as goal

pub returns-clause-go_on : goal.returns-clause-go_on
returns-clause-go_on g c =
    let beat = c.args.beat.now in
    let lanes = c.args.lanes.now in
    let news = c.cut_all.new.disks in
    subst (GoOn g.D.Disk.state beat lanes.items) (sym (given_back lanes c.deref_mut.result.now news c.deref_mut.ensures.value c.cut_all.ensures.each.many))
    (subst (λ lent. GoOn g.D.Disk.state beat lent news) c.deref_mut.ensures.value
    (each_means g.D.Disk.state (Empties beat) (ContinuesUnder beat) (λ old new. λ is. is.goes_on) c.deref_mut.result.now news c.cut_all.ensures.each))
