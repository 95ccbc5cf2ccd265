use Rattle.std.proofs.Common.{◌≡◌, ◌<◌, ◌∙◌, ℕ, List, [], length, IfSome, refl, sym, ap, subst, arith}
use Rattle.std.proofs.lemmas.List.Folds.{sum_by-replicate}
use Rattle.ports.specs.Faults.{Rose}
use Rattle.chunk_file.specs.declared.index.Place.{Place}
use Rattle.chunk_file.specs.Places.{no_places, total_of}
use Rattle.chunk_file.specs.Scans.{Scanned, StopsAt}
use Rattle.store_model.specs.Damage.{Fault, GraphDamaged}
use Rattle.store_checks.specs.Causes.{Tell, HasRecoverCause}
use Rattle.store_checks.specs.Indexing.{StopsIn}
use Rattle.store_checks.proofs.HeadChecks.{tell_at, scan_cause}
use Rattle.store_checks.proofs.Indexed.{none_scanned, one_scanned, scan_stops}
use Rattle.store_checks.proofs.indexing.index_graphs.Goals as goal

pub loop-e-init : goal.loop-e-init
loop-e-init g c =
    let none : total_of c.in-Ok.index ≡ 0 = ap total_of c.in-Ok.ensures ∙ sum_by-replicate (λ (places : List Place). length places) 512 no_places in
    record {
      few = omega (arith, none);
      scanned = λ told tell. none_scanned c.args.job.now c.args.split.now told c.in-Ok.index c.in-Ok.ensures;
      later = omega arith;
      calm = refl;
    }

pub loop-e-preserved : goal.loop-e-preserved
loop-e-preserved g c =
    let x = c.index-graphs-e.result in
    let job = c.args.job.now in
    let split = c.args.split.now in
    record {
      few = c.scan-scanned.ensures.few;
      scanned = λ told tell.
          let is = tell_at g.D.Disk.state c.args.graphs.now told c.loop-e.e x tell c.loop-e-test.true c.index-graphs-e.is in
          one_scanned job split told c.loop-e.e c.loop-e.index c.scan-scanned.new.into (omega (arith, c.loop-e-test.true, c.requires.few)) (c.loop-e.invariant.scanned told tell)
          (subst (λ b. IfSome b (λ bytes. Scanned job.format split job.chunk c.loop-e.e bytes c.loop-e.index c.scan-scanned.new.into [])) is c.in_default.ensures.all);
      later = omega (arith, c.loop-e.invariant.later, c.scan-scanned.ensures.later);
      calm = c.in_default.ensures.calm (λ is. absurd cc) ∙ c.loop-e.invariant.calm;
    }

pub returns-in-Err-scanned-clause-cause : goal.returns-in-Err-scanned-clause-cause
returns-in-Err-scanned-clause-cause g c =
    let x = c.index-graphs-e.result in
    let job = c.args.job.now in
    let split = c.args.split.now in
    let rose' = Rose (g.D.M.Meter.faults c.args.meter.now) (g.D.M.Meter.faults c.scan-scanned.new.meter) in
    let Q : Fault → Type 0 = λ fault. (told : List (List ℕ)) → Tell g.D.Disk.state c.args.graphs.now told → (e : ℕ) × (at : ℕ) × (fault ≡ GraphDamaged e at) × StopsIn job split told e at in
    subst (HasRecoverCause rose' Q) (sym c.of_chunks.ensures)
    (scan_cause (Rose (g.D.M.Meter.faults c.loop-e.meter) (g.D.M.Meter.faults c.scan-scanned.new.meter)) rose'
    (λ at. IfSome (g.D.Disk.state x).bytes (StopsAt job.format split job.chunk c.loop-e.e c.loop-e.index c.scan-scanned.new.into at)) Q c.loop-e.e c.in-Err-scanned.fault
    (λ rose. omega (arith, rose, c.loop-e.invariant.later))
    (λ at stops told tell.
    let is = tell_at g.D.Disk.state c.args.graphs.now told c.loop-e.e x tell c.loop-e-test.true c.index-graphs-e.is in (
      c.loop-e.e,
      at,
      refl,
      scan_stops job split told c.loop-e.e at c.loop-e.index c.scan-scanned.new.into (subst (λ n. c.loop-e.e < n) (sym tell.many) c.loop-e-test.true) c.scan-scanned.ensures.few
          (c.loop-e.invariant.scanned told tell)
          (subst (λ b. IfSome b (StopsAt job.format split job.chunk c.loop-e.e c.loop-e.index c.scan-scanned.new.into at)) is stops),
    ))
    c.in-Err-scanned.ensures.cause)
