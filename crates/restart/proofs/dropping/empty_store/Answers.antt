use Rattle.std.proofs.Common.{inl, inr}
use Rattle.ports.proofs.Rising.{on_err}
use Rattle.ports.specs.Devices.{OneRose, OneRowRose}
use Rattle.std.proofs.lemmas.Result.{on_err_weaker}
use Rattle.restart.proofs.Devices.{holds_given_back}
use Rattle.restart.proofs.dropping.empty_store.Goals as goal

pub returns-in_err-empty_rows-clause-cause : goal.returns-in_err-empty_rows-clause-cause
returns-in_err-empty_rows-clause-cause g c =
    let rows = c.empty_rows in
    on_err c.from_residual-in_err-empty_rows.result
    (inr (inr (inl (holds_given_back (OneRowRose g.D.Disk.state) c.args.store.now.lanes c.deref_mut-3.result.now rows.new.rows c.deref_mut-3.ensures.value rows.ensures.empties.many c.in_err-empty_rows.ensures.cause))))

pub returns-clause-cause : goal.returns-clause-cause
returns-clause-cause g c =
    let last = c.empty_all-3 in
    on_err_weaker last.result
    (λ rose. inr (inr (inr (holds_given_back (OneRose g.D.Disk.state) c.args.store.now.spills c.deref_mut-4.result.now last.new.disks c.deref_mut-4.ensures.value last.ensures.empties.many rose))))
    last.ensures.cause
