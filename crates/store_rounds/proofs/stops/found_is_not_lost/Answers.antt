-- By the beat of the stop.
use Rattle.store_rounds.proofs.Places.{stop_of_each}
use Rattle.store_rounds.proofs.Stores.{not_lost}
use Rattle.store_rounds.proofs.stops.found_is_not_lost.Goals as goal

pub returns : goal.returns
returns g c job edges number round last b old new told stopped well many settled are found leave within end stop =
    not_lost g.D.Disk.state job edges number round last b old new told stopped well many settled are found leave within end (stop_of_each g.D.Disk.state b old new stopped stop)
