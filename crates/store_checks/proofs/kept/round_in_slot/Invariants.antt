use Rattle.std.proofs.Common.{◌≡◌, ◌*◌, ◌<◌, ◌≤◌, ℕ, List, Some}
use Rattle.store_model.specs.Slots.{slot_of}
use Rattle.store_reader.specs.Reading.{own_in}
use Rattle.store_checks.specs.Causes.{Tell}
use Rattle.store_checks.specs.Rounds.{FindsRound}
use Rattle.store_checks.proofs.kept.round_in_slot.Given as goal

abbrev pub invariant-loop-e : goal.invariant-loop-e
invariant-loop-e g l = record {
  some : 0 < l.e;
  finds : (told : List (List ℕ)) → Tell g.D.Disk.state l.values told → FindsRound (own_in l.split) told l.slot l.e (Some l.so_far);
  small : l.so_far.changed < l.e * 4294967296;
  slot : slot_of l.so_far.round ≡ l.slot;
  within : l.so_far.round ≤ 1000000;
  later : g.D.M.Meter.faults l.fn.meter ≤ g.D.M.Meter.faults l.meter;
  calm : g.D.M.Meter.faults l.meter ≡ g.D.M.Meter.faults l.fn.meter;
}
