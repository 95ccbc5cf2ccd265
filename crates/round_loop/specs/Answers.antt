-- How outcomes are answered.
use Rattle.std.specs.Prelude.{◌≡◌}
use Rattle.store_reader.specs.declared.store.Outcome.{Outcome}
use Rattle.store_reader.specs.declared.store.Outcome.TheVariants as outcome
use Rattle.round_loop.specs.declared.fault.RoundFault.{RoundFault}
use Rattle.round_loop.specs.declared.fault.RoundFault.TheVariants as fault

-- the fault is the outcome
abbrev pub IsFaultOf : Outcome → RoundFault → Type 0
IsFaultOf outcome.Done given = ⊥
IsFaultOf outcome.DiskFault given = given ≡ fault.DiskFault
IsFaultOf (outcome.Damaged part engine place) given = given ≡ fault.Damaged part engine place
IsFaultOf outcome.Memory given = given ≡ fault.Memory
