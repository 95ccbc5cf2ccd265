use Rattle.std.proofs.Common.{◌≡◌, ℕ, List, take, Some, None, sym, subst}
use Rattle.ports.specs.Faults.{Rose}
use Rattle.store_model.specs.Damage.{is_good, head_fault}
use Rattle.store_checks.specs.Causes.{HasRecoverCause}
use Rattle.store_checks.proofs.HeadChecks.{head_found}
use Rattle.store_checks.proofs.heads.well_formed_head.Goals as goal

pub returns-in-None-clause-sound : goal.returns-in-None-clause-sound
returns-in-None-clause-sound g c =
    λ told is. head_found (λ head. is_good c.args.engine head) c.args.engine c.in_ok-head.head told c.bad_field.result None (c.in_ok-head.ensures.read told is) c.bad_field.ensures.bad c.in-None.is

pub returns-in-Some-clause-cause : goal.returns-in-Some-clause-cause
returns-in-Some-clause-cause g c =
    subst (HasRecoverCause (Rose (g.D.M.Meter.faults c.args.meter.now) (g.D.M.Meter.faults c.read_head.new.meter))
    (λ fault. (told : List ℕ) → (g.D.Disk.state c.args.disk.now).bytes ≡ Some told → head_fault c.args.engine (take 65 told) ≡ Some fault))
    (sym c.damaged_head.ensures)
    (λ told is. head_found (λ head. is_good c.args.engine head) c.args.engine c.in_ok-head.head told c.bad_field.result (Some c.in-Some.place) (c.in_ok-head.ensures.read told is) c.bad_field.ensures.bad c.in-Some.is)
