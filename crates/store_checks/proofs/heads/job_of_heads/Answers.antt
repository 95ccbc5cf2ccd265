use Rattle.std.proofs.Common.{◌≡◌, ◌≢◌, ◌∙◌, ◌<◌, ℕ, List, length, take, Some, None, refl, sym, subst, rules, arith}
use Rattle.ports.specs.Faults.{Rose}
use Rattle.store_model.specs.declared.field.Field.TheVariants.{Engines}
use Rattle.store_model.specs.Kept.{device}
use Rattle.store_model.specs.Damage.{EnginesDiffer, first_over, head_fault, other_fault, engines_fault, heads_fault, head_of, value_of}
use Rattle.store_checks.specs.Causes.{Tell}
use Rattle.store_checks.specs.Jobs.{SaysJob}
use Rattle.store_checks.proofs.HeadChecks.{over_finds, cause_by, tell_at, first_check, second_check, third_check, differ, agree}
use Rattle.store_checks.proofs.heads.job_of_heads.Goals as goal

pub returns-in-Err-clause-cause : goal.returns-in-Err-clause-cause
returns-in-Err-clause-cause g c =
    let x = c.index-graphs-0.result in
    let rose = Rose (g.D.M.Meter.faults c.args.meter.now) (g.D.M.Meter.faults c.well_formed_head.new.meter) in
    cause_by rose rose
    (λ fault. (told : List ℕ) → (g.D.Disk.state x).bytes ≡ Some told → head_fault 0 (take 65 told) ≡ Some fault)
    (λ fault. (told : List (List ℕ)) → Tell g.D.Disk.state c.args.graphs.now told → heads_fault told ≡ Some fault)
    c.in-Err.fault (λ r. r)
    (λ fault found told tell.
    let some : 0 < length told = omega (arith, tell.many, c.requires.some) in
    let some' : 0 < length c.args.graphs.now = omega (arith, c.requires.some) in
    first_check (first_over (λ e. head_fault e (head_of told e)) (length told)) (first_over (λ e. other_fault (head_of told 0) e (head_of told e)) (length told)) (engines_fault (value_of Engines (head_of told 0)) (length told)) fault
    (over_finds (λ e. head_fault e (head_of told e)) 0 (length told) fault refl (found (device told 0) (tell_at g.D.Disk.state c.args.graphs.now told 0 x tell some' c.index-graphs-0.is)) some))
    c.in-Err.ensures.cause

pub returns-in-Err-check_heads-clause-cause : goal.returns-in-Err-check_heads-clause-cause
returns-in-Err-check_heads-clause-cause g c =
    cause_by (Rose (g.D.M.Meter.faults c.well_formed_head.new.meter) (g.D.M.Meter.faults c.check_heads.new.meter)) (Rose (g.D.M.Meter.faults c.args.meter.now) (g.D.M.Meter.faults c.check_heads.new.meter))
    (λ fault. (told : List (List ℕ)) → Tell g.D.Disk.state c.args.graphs.now told → first_over (λ e. head_fault e (head_of told e)) (length told) ≡ Some fault)
    (λ fault. (told : List (List ℕ)) → Tell g.D.Disk.state c.args.graphs.now told → heads_fault told ≡ Some fault)
    c.in-Err-check_heads.fault
    (λ rose. omega (arith, rose, c.well_formed_head.ensures.later))
    (λ fault found told tell.
    first_check (first_over (λ e. head_fault e (head_of told e)) (length told)) (first_over (λ e. other_fault (head_of told 0) e (head_of told e)) (length told)) (engines_fault (value_of Engines (head_of told 0)) (length told)) fault
    (found told tell))
    c.in-Err-check_heads.ensures.cause

pub returns-in-Err-compare_heads-clause-cause : goal.returns-in-Err-compare_heads-clause-cause
returns-in-Err-compare_heads-clause-cause g c =
    let x = c.index-graphs-0.result in
    let some' : 0 < length c.args.graphs.now = omega (arith, c.requires.some) in
    cause_by (Rose (g.D.M.Meter.faults c.check_heads.new.meter) (g.D.M.Meter.faults c.compare_heads.new.meter)) (Rose (g.D.M.Meter.faults c.args.meter.now) (g.D.M.Meter.faults c.compare_heads.new.meter))
    (λ fault. (told : List (List ℕ)) → Tell g.D.Disk.state c.args.graphs.now told → first_over (λ e. other_fault c.in-Ok.first e (head_of told e)) (length told) ≡ Some fault)
    (λ fault. (told : List (List ℕ)) → Tell g.D.Disk.state c.args.graphs.now told → heads_fault told ≡ Some fault)
    c.in-Err-compare_heads.fault
    (λ rose. omega (arith, rose, c.well_formed_head.ensures.later, c.check_heads.ensures.later))
    (λ fault found told tell.
    let first : c.in-Ok.first ≡ head_of told 0 = c.in-Ok.ensures.read (device told 0) (tell_at g.D.Disk.state c.args.graphs.now told 0 x tell some' c.index-graphs-0.is) in
    second_check (first_over (λ e. head_fault e (head_of told e)) (length told)) (first_over (λ e. other_fault (head_of told 0) e (head_of told e)) (length told)) (engines_fault (value_of Engines (head_of told 0)) (length told)) fault
    (c.in_default.ensures.sound told tell)
    (subst (λ h. first_over (λ e. other_fault h e (head_of told e)) (length told) ≡ Some fault) first (found told tell)))
    c.in-Err-compare_heads.ensures.cause

pub returns-then-job-asked-clause-cause : goal.returns-then-job-asked-clause-cause
returns-then-job-asked-clause-cause g c = λ told tell.
    let x = c.index-graphs-0.result in
    let job = c.job_of-job.result in
    let some' : 0 < length c.args.graphs.now = omega (arith, c.requires.some) in
    let first : c.in-Ok.first ≡ head_of told 0 = c.in-Ok.ensures.read (device told 0) (tell_at g.D.Disk.state c.args.graphs.now told 0 x tell some' c.index-graphs-0.is) in
    let says : SaysJob (head_of told 0) job = subst (λ h. SaysJob h job) first c.job_of-job.ensures.says in
    let other : job.engines ≢ length c.args.graphs.now = λ same. absurd (omega arith) in
    let found : engines_fault (value_of Engines (head_of told 0)) (length told) ≡ Some (EnginesDiffer job.engines (length c.args.graphs.now)) =
    subst (λ n. engines_fault n (length told) ≡ Some (EnginesDiffer job.engines (length c.args.graphs.now))) says.engines
    (subst (λ n. engines_fault job.engines n ≡ Some (EnginesDiffer job.engines (length c.args.graphs.now))) (sym tell.many) (differ job.engines (length c.args.graphs.now) other)) in
    third_check (first_over (λ e. head_fault e (head_of told e)) (length told)) (first_over (λ e. other_fault (head_of told 0) e (head_of told e)) (length told)) (engines_fault (value_of Engines (head_of told 0)) (length told)) (Some (EnginesDiffer job.engines (length c.args.graphs.now)))
    (c.in_default.ensures.sound told tell)
    (subst (λ h. first_over (λ e. other_fault h e (head_of told e)) (length told) ≡ None) first (c.in_default-compare_heads.ensures.sound told tell))
    found

pub returns-clause-says : goal.returns-clause-says
returns-clause-says g c = λ told tell.
    let some' : 0 < length c.args.graphs.now = omega (arith, c.requires.some) in
    let first : c.in-Ok.first ≡ head_of told 0 = c.in-Ok.ensures.read (device told 0) (tell_at g.D.Disk.state c.args.graphs.now told 0 c.index-graphs-0.result tell some' c.index-graphs-0.is) in
    subst (λ h. SaysJob h c.job_of-job.result) first c.job_of-job.ensures.says

pub returns-clause-sound : goal.returns-clause-sound
returns-clause-sound g c = λ told tell.
    let job = c.job_of-job.result in
    let some' : 0 < length c.args.graphs.now = omega (arith, c.requires.some) in
    let first : c.in-Ok.first ≡ head_of told 0 = c.in-Ok.ensures.read (device told 0) (tell_at g.D.Disk.state c.args.graphs.now told 0 c.index-graphs-0.result tell some' c.index-graphs-0.is) in
    let says : SaysJob (head_of told 0) job = subst (λ h. SaysJob h job) first c.job_of-job.ensures.says in
    let same : job.engines ≡ length c.args.graphs.now = first_of (omega arith, search rules) in
    third_check (first_over (λ e. head_fault e (head_of told e)) (length told)) (first_over (λ e. other_fault (head_of told 0) e (head_of told e)) (length told)) (engines_fault (value_of Engines (head_of told 0)) (length told)) None
    (c.in_default.ensures.sound told tell)
    (subst (λ h. first_over (λ e. other_fault h e (head_of told e)) (length told) ≡ None) first (c.in_default-compare_heads.ensures.sound told tell))
    (agree (value_of Engines (head_of told 0)) (length told) (sym says.engines ∙ same ∙ sym tell.many))
