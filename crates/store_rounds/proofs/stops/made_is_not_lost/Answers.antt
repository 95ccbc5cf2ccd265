-- Engine by engine.
use Rattle.store_rounds.proofs.Places.{stop_of_each}
use Rattle.store_rounds.proofs.Left.{all_before}
use Rattle.store_rounds.proofs.stops.made_is_not_lost.Goals as goal

pub returns : goal.returns
returns g c job edges number first last b round early old new stopped well many at_start later stood leave from some few beat within stop =
    all_before g.D.Disk.state job edges number first last b round early old new stopped well many at_start later stood leave from some few beat within (stop_of_each g.D.Disk.state b early new stopped stop)
