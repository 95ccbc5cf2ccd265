use Rattle.restart.proofs.OneFault.{one_fault, recovered_has_none}
use Rattle.restart.proofs.laws.first_fault_is_one.Goals as goal

pub returns-clause-one : goal.returns-clause-one
returns-clause-one c graphs values fault other found found' = one_fault graphs values fault other found found'

pub returns-clause-none : goal.returns-clause-none
returns-clause-none c graphs values recovered fault is found = recovered_has_none graphs values recovered fault is found
