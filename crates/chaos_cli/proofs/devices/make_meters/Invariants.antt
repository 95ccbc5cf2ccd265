use Rattle.std.proofs.Common.{◌≡◌, length}
use Rattle.chaos_cli.proofs.devices.make_meters.Given as goal

abbrev pub invariant-meters : goal.invariant-meters
invariant-meters g l = length l.meters.items ≡ l.counter
