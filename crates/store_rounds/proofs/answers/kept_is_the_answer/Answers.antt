-- The values stand in the slot, and their lines are the answer.
use Rattle.store_rounds.proofs.Starting.{kept_is_read}
use Rattle.store_rounds.proofs.Answering.{held, whole_answer, front_answer}
use Rattle.store_rounds.proofs.answers.kept_is_the_answer.Goals as goal

pub returns-clause-read : goal.returns-clause-read
returns-clause-read g c job edges round devices many tell kept = kept_is_read g.D.Disk.state job edges (λ d. (g.met.D.Disk g.world.𝓛 g.world.𝓜 g.world.𝓡 ((λ s x. x), (λ x. x), (λ x. x), λ x. x)).lawful d) round devices many tell kept

pub returns-clause-held : goal.returns-clause-held
returns-clause-held g c job edges round devices well graph many read = held g.D.Disk.state job edges round devices well graph many read

pub returns-clause-whole : goal.returns-clause-whole
returns-clause-whole g c job edges round devices old new well graph many read last prints = whole_answer g.D.Disk.state job edges round devices well graph many read old new last prints

pub returns-clause-front : goal.returns-clause-front
returns-clause-front g c job edges round devices old new well graph many read last prints = front_answer g.D.Disk.state job edges round devices well graph many read old new last prints
