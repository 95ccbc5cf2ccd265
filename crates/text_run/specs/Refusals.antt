-- How it is told that a store was not made.
use Rattle.std.specs.Prelude.{ℕ}
use Rattle.storage_engine.specs.declared.fault.PrepareFault.{PrepareFault}
use Rattle.storage_engine.specs.declared.fault.PrepareFault.TheVariants as prepare
use Rattle.endings.specs.declared.ending.Ending.{Ending}
use Rattle.endings.specs.declared.ending.Ending.TheVariants.{BadLine, DiskFault, Memory, ReadFault, TooLong}

abbrev pub refusal : (limit : ℕ) → PrepareFault → Ending
refusal limit (prepare.BadLine line) = BadLine line
refusal limit prepare.TooLong = TooLong limit
refusal limit prepare.ReadFault = ReadFault
refusal limit prepare.DiskFault = DiskFault
refusal limit prepare.Memory = Memory
