use Rattle.std.proofs.Common.{◌≡◌, ◌≤◌, ℕ, List, None}
use Rattle.store_model.specs.Damage.{first_over, head_fault, head_of}
use Rattle.store_checks.specs.Causes.{Tell}
use Rattle.store_checks.proofs.heads.check_heads.Given as goal

abbrev pub invariant-loop-e : goal.invariant-loop-e
invariant-loop-e g l = record {
  few : l.e ≤ 256;
  sound : (told : List (List ℕ)) → Tell g.D.Disk.state l.graphs told → first_over (λ e. head_fault e (head_of told e)) l.e ≡ None;
  later : g.D.M.Meter.faults l.fn.meter ≤ g.D.M.Meter.faults l.meter;
  calm : g.D.M.Meter.faults l.meter ≡ g.D.M.Meter.faults l.fn.meter;
}
