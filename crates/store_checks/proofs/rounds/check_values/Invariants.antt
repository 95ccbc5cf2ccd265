use Rattle.std.proofs.Common.{◌≡◌, ◌<◌, ◌≤◌, ℕ, List, None, get_or}
use Rattle.store_model.specs.Slots.{device_size}
use Rattle.store_model.specs.Kept.{device}
use Rattle.store_model.specs.Damage.{first_over, device_fault}
use Rattle.store_reader.specs.Reading.{own_in}
use Rattle.store_checks.specs.Causes.{Tell}
use Rattle.store_checks.proofs.rounds.check_values.Given as goal

abbrev pub invariant-loop-e : goal.invariant-loop-e
invariant-loop-e g l = record {
  exact : (k : ℕ) (d : _) → k < l.e → (g.D.Disk.state (get_or l.values k d)).size ≡ device_size (own_in l.split k);
  sound : (told : List (List ℕ)) → Tell g.D.Disk.state l.values told → first_over (λ e. device_fault (own_in l.split e) e (device told e)) l.e ≡ None;
  later : g.D.M.Meter.faults l.fn.meter ≤ g.D.M.Meter.faults l.meter;
  calm : g.D.M.Meter.faults l.meter ≡ g.D.M.Meter.faults l.fn.meter;
}
