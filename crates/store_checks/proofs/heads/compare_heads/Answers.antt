use Rattle.std.proofs.Common.{◌≡◌, ◌∙◌, ◌<◌, ℕ, List, length, take, Some, None, sym, subst, arith}
use Rattle.ports.specs.Faults.{Rose}
use Rattle.store_model.specs.Kept.{device}
use Rattle.store_model.specs.Damage.{first_over, other_fault, head_of}
use Rattle.store_checks.specs.Causes.{Tell}
use Rattle.store_checks.proofs.HeadChecks.{over_more, over_finds, cause_by, tell_at}
use Rattle.store_checks.proofs.heads.compare_heads.Goals as goal

pub loop-e-preserved : goal.loop-e-preserved
loop-e-preserved g c =
    let x = c.index-graphs-e.result in
    record {
      sound = λ told tell.
          over_more (λ e. other_fault c.args.first.now e (head_of told e)) c.loop-e.e (c.loop-e.invariant.sound told tell)
          (c.in_default.ensures.sound (device told c.loop-e.e) (tell_at g.D.Disk.state c.args.graphs.now told c.loop-e.e x tell c.loop-e-test.true c.index-graphs-e.is));
      later = omega (arith, c.loop-e.invariant.later, c.same_head.ensures.later);
      calm = c.in_default.ensures.calm (λ is. absurd cc) ∙ c.loop-e.invariant.calm;
    }

pub returns-in-Err-clause-cause : goal.returns-in-Err-clause-cause
returns-in-Err-clause-cause g c =
    let x = c.index-graphs-e.result in
    cause_by (Rose (g.D.M.Meter.faults c.loop-e.meter) (g.D.M.Meter.faults c.same_head.new.meter)) (Rose (g.D.M.Meter.faults c.args.meter.now) (g.D.M.Meter.faults c.same_head.new.meter))
    (λ fault. (told : List ℕ) → (g.D.Disk.state x).bytes ≡ Some told → other_fault c.args.first.now c.loop-e.e (take 65 told) ≡ Some fault)
    (λ fault. (told : List (List ℕ)) → Tell g.D.Disk.state c.args.graphs.now told → first_over (λ e. other_fault c.args.first.now e (head_of told e)) (length told) ≡ Some fault)
    c.in-Err.fault
    (λ rose. omega (arith, rose, c.loop-e.invariant.later))
    (λ fault found told tell.
    over_finds (λ e. other_fault c.args.first.now e (head_of told e)) c.loop-e.e (length told) fault (c.loop-e.invariant.sound told tell)
    (found (device told c.loop-e.e) (tell_at g.D.Disk.state c.args.graphs.now told c.loop-e.e x tell c.loop-e-test.true c.index-graphs-e.is))
    (subst (λ n. c.loop-e.e < n) (sym tell.many) c.loop-e-test.true))
    c.in-Err.ensures.cause

pub returns-clause-sound : goal.returns-clause-sound
returns-clause-sound g c = λ told tell.
    let all : c.loop-e.e ≡ length told = omega (arith, tell.many) in
    subst (λ n. first_over (λ e. other_fault c.args.first.now e (head_of told e)) n ≡ None) all (c.loop-e.invariant.sound told tell)
