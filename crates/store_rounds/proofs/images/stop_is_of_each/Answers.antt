-- Device by device.
use Rattle.store_rounds.proofs.Places.{stop_of_each, idle_stop}
use Rattle.store_rounds.proofs.images.stop_is_of_each.Goals as goal

pub returns-clause-each : goal.returns-clause-each
returns-clause-each g c b old new images stop = stop_of_each g.D.Disk.state b old new images stop

pub returns-clause-idle : goal.returns-clause-idle
returns-clause-idle g c b devices images stop = idle_stop g.D.Disk.state (λ d. (g.met.D.Disk g.world.𝓛 g.world.𝓜 g.world.𝓡 ((λ s x. x), (λ x. x), (λ x. x), λ x. x)).lawful d) b devices images stop
