-- By what was found.
use Rattle.store_rounds.proofs.Starting.{good_start, settled_start}
use Rattle.store_rounds.proofs.rounds.found_is_a_good_start.Goals as goal

pub returns-clause-good : goal.returns-clause-good
returns-clause-good g c job edges devices told found well many tell resumes = good_start g.D.Disk.state job edges devices told found well many tell resumes

pub returns-clause-settled : goal.returns-clause-settled
returns-clause-settled g c job edges devices told found round changed many settled resumes is = settled_start g.D.Disk.state job edges devices told found round changed many settled resumes is
