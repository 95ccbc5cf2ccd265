-- The same rounds are reached, and the same vertices changed.
use Rattle.store_rounds.proofs.SameRounds.{reached_by_run, reached_in_store, held_by_run, held_in_store, known_round}
use Rattle.store_rounds.proofs.rounds.rounds_are_the_same.Goals as goal

pub returns-clause-reached : goal.returns-clause-reached
returns-clause-reached c job edges round = (reached_by_run job edges round, reached_in_store job edges round)

pub returns-clause-stands : goal.returns-clause-stands
returns-clause-stands c job edges e round bytes = ((λ has. (has.reached, held_by_run job edges e round bytes has)), λ both. held_in_store job edges e round bytes both.0 both.1)

pub returns-clause-known : goal.returns-clause-known
returns-clause-known c job edges e round bytes well fits is holds = known_round job edges e round bytes well fits is holds
