use Rattle.std.proofs.Common.{◌≡◌, ℕ, List, Some, refl, subst, sym, inl, inr, arith}
use Rattle.ports.specs.Faults.{Rose}
use Rattle.store_model.specs.Damage.{Fault, heads_fault, HasFault}
use Rattle.store_checks.specs.Causes.{Tell, HasRecoverCause}
use Rattle.store_checks.proofs.HeadChecks.{cause_by}
use Rattle.restart.proofs.SplitOfHead.{all_prepared, some_unprepared, ok_then, err_then}
use Rattle.restart.proofs.recovering.open_job.Goals as goal

pub returns-in-Ok-true-clause-prepared : goal.returns-in-Ok-true-clause-prepared
returns-in-Ok-true-clause-prepared g c = λ graphs tell.
    ok_then c.job_of_heads.result (all_prepared g.D.Disk.state c.args.store.now.graphs.items graphs tell (c.in-Ok-true.ensures.open c.in-Ok-true.field-0-test))

pub returns-in-Ok-true-clause-cause : goal.returns-in-Ok-true-clause-cause
returns-in-Ok-true-clause-cause g c =
    let items = c.args.store.now.graphs.items in
    let opened = c.in-Ok-true.ensures.open c.in-Ok-true.field-0-test in
    let rose = Rose (g.D.M.Meter.faults c.all_open.new.meter) (g.D.M.Meter.faults c.job_of_heads.new.meter) in
    let rose' = Rose (g.D.M.Meter.faults c.args.meter.now) (g.D.M.Meter.faults c.job_of_heads.new.meter) in
    let P : Fault → Type 0 = λ fault. (graphs : List (List ℕ)) → Tell g.D.Disk.state c.deref.result.now graphs → heads_fault graphs ≡ Some fault in
    let Q : Fault → Type 0 = λ fault. (graphs values : List (List ℕ)) → Tell g.D.Disk.state items graphs → HasFault graphs values fault in
    err_then (HasRecoverCause rose P) (HasRecoverCause rose' Q) c.job_of_heads.result
    (λ fault. cause_by rose rose' P Q fault
    (λ rose. omega (arith, rose, c.all_open.ensures.cause.later))
    (λ found is graphs values tell. inr (inl (all_prepared g.D.Disk.state items graphs tell opened, is graphs (subst (λ xs. Tell g.D.Disk.state xs graphs) (sym c.deref.ensures.value) tell)))))
    c.job_of_heads.ensures.cause

pub returns-in-Ok-false-clause-cause : goal.returns-in-Ok-false-clause-cause
returns-in-Ok-false-clause-cause g c = λ graphs values tell.
    inl (refl, some_unprepared g.D.Disk.state c.args.store.now.graphs.items graphs tell (c.in-Ok-false.ensures.shut c.in-Ok-false.field-0-test))
