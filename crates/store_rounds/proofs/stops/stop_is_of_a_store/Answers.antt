-- The graph devices are as they were, and the values devices are left so.
use Rattle.store_rounds.proofs.Places.{stop_of_each, idle_stop}
use Rattle.store_rounds.proofs.Stores.{whole_open, store_at_stop}
use Rattle.store_rounds.proofs.stops.stop_is_of_a_store.Goals as goal

pub returns-clause-open : goal.returns-clause-open
returns-clause-open g c job edges graphs values whole = whole_open job edges graphs values whole

pub returns-clause-stop : goal.returns-clause-stop
returns-clause-stop g c job edges number first last b graphs old new told stopped_graphs stopped tell stores leave within stop_graphs stop =
    store_at_stop g.D.Disk.state job edges number first last b old new stopped leave within (stop_of_each g.D.Disk.state b old new stopped stop)
    (λ d. (g.met.D.Disk g.world.𝓛 g.world.𝓜 g.world.𝓡 ((λ s x. x), (λ x. x), (λ x. x), λ x. x)).lawful d) told stopped_graphs tell
    (λ others are. stores stopped_graphs others (idle_stop g.D.Disk.state (λ d. (g.met.D.Disk g.world.𝓛 g.world.𝓜 g.world.𝓡 ((λ s x. x), (λ x. x), (λ x. x), λ x. x)).lawful d) b graphs stopped_graphs stop_graphs) are)
