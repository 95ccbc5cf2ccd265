-- Engine by engine.
use Rattle.store_rounds.proofs.SameRounds.{reached_in_store}
use Rattle.store_rounds.proofs.Starting.{kept_everywhere, read_everywhere}
use Rattle.store_rounds.proofs.rounds.kept_is_everywhere.Goals as goal

pub returns-clause-kept : goal.returns-clause-kept
returns-clause-kept g c job edges round devices images many reached kept have = kept_everywhere g.D.Disk.state job edges round devices images many (reached_in_store job edges round reached) kept have

pub returns-clause-read : goal.returns-clause-read
returns-clause-read g c job edges round devices told many reached read tell = read_everywhere g.D.Disk.state job edges round devices told many (reached_in_store job edges round reached) read tell
