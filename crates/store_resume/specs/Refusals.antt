-- How it is told that a store was not recovered.
use Rattle.store_checks.specs.declared.fault.RecoverFault.{RecoverFault}
use Rattle.store_checks.specs.declared.fault.RecoverFault.TheVariants as recover
use Rattle.endings.specs.declared.ending.Ending.{Ending}
use Rattle.endings.specs.declared.ending.Ending.TheVariants.{NotPrepared, EnginesDiffer, Damaged, DiskFault, Memory}

abbrev pub refusal : RecoverFault → Ending
refusal recover.NotPrepared = NotPrepared
refusal (recover.EnginesDiffer held asked) = EnginesDiffer held asked
refusal (recover.Damaged part engine place) = Damaged part engine place
refusal recover.DiskFault = DiskFault
refusal recover.Memory = Memory
